-- `links::rings` meets its contract: the timer and the flags stand behind the link. Assumes nothing.
use Prim.Native.Nat.{ℕ, ◌+◌, ◌/◌, ◌%◌}
use mathlib.Core.Path.{◌≡◌}
use mathlib.Core.Logic.{◌≢◌}
use mathlib.Core.Bool.{and-true, and-false}
use mathlib.Core.List.{List}
use lib.Dec.{eqb}
use lib.ListN.{get_or}
use borrow.Author.Tests.{eq-eqb, ne_eqb}
use Rattle.links.specs.Link.{slot, rings}
use Rattle.links.proofs.rings.Goals as goal

-- at is where p's link stands
module _ (r : List ℕ) (time p at : ℕ) (here : at ≡ slot p) where
  otherwise : get_or r (at + 2) 0 ≢ time → eqb (get_or r (at + 2) 0) time ≡ rings r time p
  unfolding rings
  otherwise o = rw (← here, ne_eqb (get_or r (at + 2) 0) time o, and-false)

  then : get_or r (at + 2) 0 ≡ time → eqb (get_or r (at + 1) 0 / 4 % 2) 1 ≡ rings r time p
  unfolding rings
  then e = rw (← here, eq-eqb (get_or r (at + 2) 0) time e, and-true)

pub returns-then-records-at : goal.returns-then-records-at
returns-then-records-at c = then _ _ _ _ c.link_at-at.ensures c.if-records-at.true

pub returns-else-records-at : goal.returns-else-records-at
returns-else-records-at c = otherwise _ _ _ _ c.link_at-at.ensures c.if-records-at.false
