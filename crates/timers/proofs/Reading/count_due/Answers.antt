use Rattle.std.proofs.Common.{◌≡◌, ◌+◌, ◌-◌, ap, sym, ◌∙◌, length, arith}
use Rattle.order.specs.Order.{Timers}
use Rattle.timers.proofs.Dues.{is_due, due_all, count_more, count_same}
use Rattle.timers.proofs.Reading.count_due.Goals.{then-is_due, else-is_due}
use Rattle.timers.proofs.Reading.count_due.Goals as goal

pub loop-p-preserved : goal.loop-p-preserved
loop-p-preserved c =
    let counted = c.loop-p.invariant.counted in
    let few = c.loop-p.invariant.few in
    elim c.if-is_due.branch [
      | then-is_due w ↦ rw w.count-is (record { few = omega (arith, few); counted = λ s S. count_more (is_due c.args.ticks c.args.self.now.shape s) c.loop-p.auto.p (sym (c.is_due.ensures s S) ∙ w.if-is_due.true) (counted s S) })
      | else-is_due w ↦ rw w.count-is (record { few = omega (arith, few); counted = λ s S. count_same (is_due c.args.ticks c.args.self.now.shape s) c.loop-p.auto.p (sym (c.is_due.ensures s S) ∙ w.if-is_due.false) (counted s S) })
    ]

pub returns-after-is_due : goal.returns-after-is_due
returns-after-is_due c s S =
    let n = c.args.self.now.shape in
    let t = is_due c.args.ticks n s in
    let counted = c.loop-p.invariant.counted s S in
    let same : c.self.inside.shape.processes ≡ n.processes = ap (λ (r : Timers). r.shape.processes) c.self.view_is in
    let all = due_all c.args.ticks n s (c.loop-p.p + 1 - 1) (omega (arith, c.loop-p.auto.p)) in
    elim c.if-is_due.branch [
      | then-is_due w ↦ rw w.count-is (count_more t c.loop-p.auto.p (sym (c.is_due.ensures s S) ∙ w.if-is_due.true) counted ∙ ap length all)
      | else-is_due w ↦ rw w.count-is (count_same t c.loop-p.auto.p (sym (c.is_due.ensures s S) ∙ w.if-is_due.false) counted ∙ ap length all)
    ]
