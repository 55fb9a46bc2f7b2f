use Rattle.std.proofs.Common.{◌≡◌, ◌+◌, ◌-◌, ap, refl, sym, ◌∙◌, arith}
use Rattle.model.specs.Timers.{left}
use Rattle.area.proofs.Whole.{counts_in}
use Rattle.order.specs.Order.{Timers}
use Rattle.timers.proofs.Left.{some_nonzero, none_nonzero}
use Rattle.timers.proofs.Least.{Least, least_start, least_taken, least_left, least_none, nearest_is}
use Rattle.timers.proofs.Reading.nearest.Goals.{else-loop-p-test, then-loop-p-test+else-p-p-end, in-Some+then-nearer, in-Some+else-nearer, in_default}
use Rattle.timers.proofs.Reading.nearest.Goals as goal

pub loop-p-init : goal.loop-p-init
loop-p-init c s S = least_start _

pub loop-p-preserved : goal.loop-p-preserved
loop-p-preserved c s S =
    let f = left c.args.self.now.shape s in
    let p = c.loop-p.p in
    let L = c.loop-p.invariant s S in
    let told = sym (c.left_of.ensures s S) in
    elim c.match-left_of.branch [
      | in-Some+then-nearer w ↦ let d = some_nonzero (told ∙ w.in-Some.is) in rw (w.process-is, w.least-is) (least_taken f p c.loop-p.auto.p d.0 d.1 _ _ L (sym w.nearer.ensures ∙ w.if-nearer.true))
      | in-Some+else-nearer w ↦ let d = some_nonzero (told ∙ w.in-Some.is) in rw (w.process-is, w.least-is) (least_left f p c.loop-p.auto.p d.0 d.1 _ _ L (sym w.nearer.ensures ∙ w.if-nearer.false))
      | in_default w ↦ rw (w.process-is, w.least-is) (least_none f p c.loop-p.auto.p _ _ L (none_nonzero (told ∙ w.in_default.is)))
    ]

pub returns : goal.returns
returns c s S =
    let n = c.args.self.now.shape in
    let f = left n s in
    let p = c.loop-p.p in
    let L = c.loop-p.invariant s S in
    let same : c.self.inside.shape.processes ≡ n.processes = ap (λ (t : Timers). t.shape.processes) c.self.view_is in
    let walked : Least f n.processes c.loop-p-test.process c.loop-p-test.least = elim c.loop-p-test.branch [
      | else-loop-p-test w ↦ (let late = c.loop-p.auto.p-end (omega (arith, (counts_in n S.holds.image.counts).some)) in absurd (omega arith))
      | then-loop-p-test+else-p-p-end w ↦
          let last : p + 1 - 1 ≡ n.processes = omega (arith, c.loop-p.auto.p) in
          let told = sym (w.left_of.ensures s S) in
          rw (w.process-is, w.least-is, ← last) (elim w.match-left_of.branch [
            | in-Some+then-nearer v ↦ let d = some_nonzero (told ∙ v.in-Some.is) in rw (v.process-is, v.least-is) (least_taken f p c.loop-p.auto.p d.0 d.1 _ _ L (sym v.nearer.ensures ∙ v.if-nearer.true))
            | in-Some+else-nearer v ↦ let d = some_nonzero (told ∙ v.in-Some.is) in rw (v.process-is, v.least-is) (least_left f p c.loop-p.auto.p d.0 d.1 _ _ L (sym v.nearer.ensures ∙ v.if-nearer.false))
            | in_default v ↦ rw (v.process-is, v.least-is) (least_none f p c.loop-p.auto.p _ _ L (none_nonzero (told ∙ v.in_default.is)))
          ])
    ] in
    rw c.zip.ensures (nearest_is n s refl c.loop-p-test.process c.loop-p-test.least walked)
