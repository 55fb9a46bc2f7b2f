-- `ring::walker::goes_on` meets its contract: the tail is asked for in p's link, whose next is the process behind p. Assumes nothing.
use mathlib.Core.Path.{ap, ◌∙◌}
use mathlib.Core.Bool.{not}
use Prim.Native.Nat.{ℕ, ◌/◌, ◌%◌}
use lib.Dec.{eqb}
use Rattle.links.specs.Link.{next}
use Rattle.ring.proofs.walker.goes_on.Goals as goal

pub returns : goal.returns
unfolding next
returns c =
    let s = c.args in
    ap not (c.points.ensures ∙ ap (λ (w : ℕ). eqb (w / 8 % 1024) s.tail) c.link_of.ensures)
