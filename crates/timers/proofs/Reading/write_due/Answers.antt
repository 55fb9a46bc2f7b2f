use Rattle.std.proofs.Common.{◌≡◌, ◌+◌, ◌-◌, ◌≤◌, ap, sym, ◌∙◌, length, arith}
use Rattle.order.specs.Order.{Timers}
use Rattle.timers.proofs.Dues.{is_due, due_all, over_next, over_same, over_room, over_all}
use Rattle.timers.proofs.Reading.write_due.Goals.{then-is_due, else-is_due}
use Rattle.timers.proofs.Reading.write_due.Goals as goal

pub bounds-buffer-at : goal.bounds-buffer-at
bounds-buffer-at c =
    let n = c.args.self.now.shape in
    let same : c.self.inside.shape.processes ≡ n.processes = ap (λ (t : Timers). t.shape.processes) c.self.view_is in
    let s = c.requires.0 in
    let S = c.requires.1 in
    let room : c.loop-p.at + 1 ≤ length c.args.buffer.now = over_room c.args.ticks n s (omega arith) (omega arith) (c.loop-p.invariant s S) (sym (c.is_due.ensures s S) ∙ c.if-is_due.true) c.requires.2 in
    omega arith

pub loop-p-preserved : goal.loop-p-preserved
loop-p-preserved c s S =
    let n = c.args.self.now.shape in
    let same : c.self.inside.shape.processes ≡ n.processes = ap (λ (t : Timers). t.shape.processes) c.self.view_is in
    let g = c.requires.0 in
    let G = c.requires.1 in
    let first : 1 ≤ c.loop-p.p = c.loop-p.auto.p in
    let last : c.loop-p.p ≤ n.processes = omega arith in
    let t = is_due c.args.ticks n s in
    elim c.if-is_due.branch [
      | then-is_due w ↦
          let room = over_room c.args.ticks n g first last (c.loop-p.invariant g G) (sym (c.is_due.ensures g G) ∙ w.if-is_due.true) c.requires.2 in
          rw (w.buffer-is, w.at-is) (over_next t first (c.loop-p.invariant s S) (sym (c.is_due.ensures s S) ∙ w.if-is_due.true) room)
      | else-is_due w ↦ rw (w.buffer-is, w.at-is) (over_same t first (c.loop-p.invariant s S) (sym (c.is_due.ensures s S) ∙ w.if-is_due.false))
    ]

pub returns-after-is_due : goal.returns-after-is_due
returns-after-is_due c s S =
    let n = c.args.self.now.shape in
    let same : c.self.inside.shape.processes ≡ n.processes = ap (λ (t : Timers). t.shape.processes) c.self.view_is in
    let g = c.requires.0 in
    let G = c.requires.1 in
    let first : 1 ≤ c.loop-p.p = c.loop-p.auto.p in
    let last : c.loop-p.p ≤ n.processes = omega arith in
    let t = is_due c.args.ticks n s in
    let all = due_all c.args.ticks n s (c.loop-p.p + 1 - 1) (omega arith) in
    elim c.if-is_due.branch [
      | then-is_due w ↦
          let room = over_room c.args.ticks n g first last (c.loop-p.invariant g G) (sym (c.is_due.ensures g G) ∙ w.if-is_due.true) c.requires.2 in
          rw w.buffer-is (over_all (over_next t first (c.loop-p.invariant s S) (sym (c.is_due.ensures s S) ∙ w.if-is_due.true) room) all)
      | else-is_due w ↦ rw w.buffer-is (over_all (over_same t first (c.loop-p.invariant s S) (sym (c.is_due.ensures s S) ∙ w.if-is_due.false)) all)
    ]
