-- `area::waits` meets its contract: the waiting bit is read from the flags. Assumes nothing.
use Prim.Native.Nat.{ℕ, ◌+◌, ◌/◌, ◌%◌}
use mathlib.Core.Path.{◌≡◌, refl, ap, ◌∙◌}
use mathlib.Core.Bool.{Bool, true, false, not}
use lib.Dec.{eqb}
use lib.ListN.{get_or}
use Rattle.model.specs.Queue.{bit}
use Rattle.area.specs.Layout.Part.{waiting}
use Rattle.area.proofs.Stores.{load}
use Rattle.area.proofs.waits.Goals as goal

set_bit : (b : Bool) → not (eqb (bit b) 0) ≡ b
set_bit true = refl
set_bit false = refl

pub returns : goal.returns
returns c s H = ap {A = ℕ} (λ k. not (eqb k 0)) (c.part_of.ensures ∙ ap (λ (k : ℕ). get_or c.args.area.now (k + 1) 0 / 2 % 2) c.record_at-at.ensures ∙ load _ _ _ H.image (waiting c.args.p) c.requires.is_process) ∙ set_bit _
