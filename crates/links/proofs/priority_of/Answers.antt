-- `links::priority_of` meets its contract: it is a field of the link. Assumes nothing.
use mathlib.Core.Path.{ap, ◌∙◌}
use Prim.Native.Nat.{ℕ, ◌/◌}
use Rattle.links.specs.Link.{priority}
use Rattle.links.proofs.priority_of.Goals as goal

pub returns : goal.returns
unfolding priority
returns c = c.priority_field.ensures ∙ ap (λ (w : ℕ). w / 8192) c.link_of.ensures
