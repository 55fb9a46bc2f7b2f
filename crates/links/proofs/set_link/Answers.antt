-- `links::set_link` meets its contract: it stores the word where the link stands. Assumes nothing.
use mathlib.Core.Path.{ap}
use Prim.Native.Nat.{ℕ, ◌+◌, ◌*◌}
use lib.ListN.{set}
use Rattle.links.proofs.set_link.Goals as goal

pub returns : goal.returns
returns c = let s = c.args in ap (λ (k : ℕ). set s.records.now k (s.v * 8192 + s.n * 8)) c.link_at-at.ensures
