-- `links::least_of` meets its contract: it is the link without what stands below its priority. Assumes nothing.
use mathlib.Core.Path.{ap}
use Prim.Native.Nat.{ℕ, ◌*◌, ◌/◌}
use Rattle.links.specs.Link.{priority}
use Rattle.links.proofs.least_of.Goals as goal

pub returns : goal.returns
unfolding priority
returns c = ap (λ (w : ℕ). w / 8192 * 8192) c.link_of.ensures
