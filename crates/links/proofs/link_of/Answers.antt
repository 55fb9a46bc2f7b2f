-- `links::link_of` meets its contract: the address is the link's. Assumes nothing.
use mathlib.Core.Path.{ap}
use Prim.Native.Nat.{ℕ}
use lib.ListN.{get_or}
use Rattle.links.proofs.link_of.Goals as goal

pub returns : goal.returns
returns c = ap (λ (k : ℕ). get_or c.args.records.now k 0) c.link_at-at.ensures
