-- `members::mark` meets its contract: to shift is to divide, and to mask is the remainder. Assumes nothing.
use mathlib.Core.Path.{ap, ◌∙◌}
use mathlib.Core.Bool.{not}
use Prim.Native.Nat.{ℕ, ◌*◌, ◌/◌, ◌%◌, ◌^◌}
use native.Mathlib.Nat.{lt_of_le_of_lt}
use native.Mathlib.Omega.{arith}
use lib.Bits.{bit_or, and_mask, and_le_r}
use lib.Dec.{eqb}
use lib.ListN.{get_or, set}
use Rattle.members.specs.Marks.{met_in, marked}
use Rattle.members.proofs.Marks.{told}
use Rattle.members.proofs.mark.Goals as goal

pub overflow_shl-more : goal.overflow_shl-more
overflow_shl-more c = lt_of_le_of_lt (and_le_r c.args.p _) (omega arith)

pub returns : goal.returns
unfolding met_in marked
returns c =
    let s = c.args in
    let ms = s.marks.now in
    let w = get_or ms (s.p / 64) 0 in (
      ap (λ (k : ℕ). set ms (s.p / 64) (bit_or w (1 * 2 ^ k % 2 ^ 64))) (and_mask s.p 6),
      ap (λ (k : ℕ). not (eqb (bit_or w (1 * 2 ^ k % 2 ^ 64)) w)) (and_mask s.p 6) ∙ told w (s.p % 64) (omega arith),
    )
