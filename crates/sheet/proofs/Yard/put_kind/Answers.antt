use Prim.Native.Nat.{◌-◌}
use native.Mathlib.Omega.{arith}
use native.Mathlib.Nat.{add-sub_cancel}
use mathlib.Core.Path.{◌≡◌}
use Rattle.sheet.specs.Sheet.{count_of}
use Rattle.sheet.proofs.Rows.{rows_next}
use Rattle.sheet.proofs.Yard.put_kind.Goals as goal

pub loop-number-preserved : goal.loop-number-preserved
loop-number-preserved g c =
    let l = c.loop-number in
    (omega arith, omega arith, rw (add-sub_cancel l.number 1) (rows_next l.invariant.0 l.invariant.2 (λ s H. rw (c.row_of-row.ensures s H) at (c.put_rest.ensures _ c.put_label.ensures))))

pub returns : goal.returns
returns g c =
    let all : c.loop-number.number - 1 ≡ count_of c.args.self.now.shape g.row.KIND = omega (arith, c.count_of-number-end.ensures) in
    rw all at c.loop-number.invariant.2

pub returns-2 : goal.returns-2
returns-2 g c =
    let l = c.loop-number in
    let all : l.number ≡ count_of c.args.self.now.shape g.row.KIND = omega (arith, c.count_of-number-end.ensures) in
    rw all at (rows_next l.invariant.0 l.invariant.2 (λ s H. rw (c.row_of-row.ensures s H) at (c.put_rest.ensures _ c.put_label.ensures)))
