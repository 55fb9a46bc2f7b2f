-- `outcomes::dispatch` meets its contract: the first of ready runs, and is no longer failed; where it was not, there is nothing to clear. Assumes nothing.
use native.Mathlib.Omega.{arith}
use mathlib.Core.Path.{refl}
use Rattle.model.specs.Queue.Queue.{ready}
use Rattle.model.specs.Field.Field.{failed}
use Rattle.area.proofs.Puts.{becomes_then}
use Rattle.area.proofs.Whole.{counts_in}
use Rattle.moves.proofs.Queues.{first_process, first_small, dispatch_none, dispatch_first, dispatch_kept}
use Rattle.moves.proofs.Shared.{taking}
use Rattle.outcomes.proofs.dispatch.Goals as goal

pub first_in-first-requires : goal.first_in-first-requires
first_in-first-requires c = record { held = c.requires; is_queue = (ready, refl, c.ready_at-at.ensures c.args.shape) }

pub set_running-requires : goal.set_running-requires
set_running-requires c =
    let n = c.args.shape in
    let pre = c.requires in
    (n, pre, omega (arith, first_small pre.1 ready (c.first_in-first.ensures _ ready pre.1 refl (c.ready_at-at.ensures n)), (counts_in n pre.1.placed.counts).some))

pub returns-then-first-eq0 : goal.returns-then-first-eq0
returns-then-first-eq0 c s H =
    let n = c.args.shape in
    let f = c.first_in-first.ensures s ready H refl (c.ready_at-at.ensures n) in
    dispatch_none H f c.if-first-eq0.true (c.set_running.ensures n s H (omega (arith, first_small H ready f, (counts_in n H.placed.counts).some)))

pub failed-requires : goal.failed-requires
failed-requires c =
    let pre = c.requires in
    first_process pre.1 ready (c.first_in-first.ensures pre.0 ready pre.1 refl (c.ready_at-at.ensures c.args.shape)) c.if-first-eq0.false

pub get-failed-requires : goal.get-failed-requires
get-failed-requires c =
    let n = c.args.shape in
    let pre = c.requires in
    let f = c.first_in-first.ensures _ ready pre.1 refl (c.ready_at-at.ensures n) in
    (n, failed c.first_in-first.result, (_, (c.set_running.ensures n _ pre.1 (omega (arith, first_small pre.1 ready f, (counts_in n pre.1.placed.counts).some))).holds), c.failed.ensures)

pub failed-requires-then-failed-ne0 : goal.failed-requires-then-failed-ne0
failed-requires-then-failed-ne0 c =
    let pre = c.requires in
    first_process pre.1 ready (c.first_in-first.ensures pre.0 ready pre.1 refl (c.ready_at-at.ensures c.args.shape)) c.if-first-eq0.false

pub put-requires : goal.put-requires
put-requires c =
    let n = c.args.shape in
    let pre = c.requires in
    let L = c.failed-then-failed-ne0.ensures in
    let f = c.first_in-first.ensures _ ready pre.1 refl (c.ready_at-at.ensures n) in
    let p = c.first_in-first.result in
    (n, failed p, (_, (c.set_running.ensures n _ pre.1 (omega (arith, first_small pre.1 ready f, (counts_in n pre.1.placed.counts).some))).holds), taking (failed p) L refl (rw L.0 (omega arith)))

pub returns-then-failed-ne0 : goal.returns-then-failed-ne0
returns-then-failed-ne0 c s H =
    let n = c.args.shape in
    let p = c.first_in-first.result in
    let f = c.first_in-first.ensures s ready H refl (c.ready_at-at.ensures n) in
    let b = c.set_running.ensures n s H (omega (arith, first_small H ready f, (counts_in n H.placed.counts).some)) in
    let L = c.failed-then-failed-ne0.ensures in
    dispatch_first H f c.if-first-eq0.false (c.get-failed.ensures n _ (failed p) b.holds c.failed.ensures) (becomes_then b (c.put.ensures n _ (failed p) b.holds (taking (failed p) L refl (rw L.0 (omega arith)))))

pub returns-else-failed-ne0 : goal.returns-else-failed-ne0
returns-else-failed-ne0 c s H =
    let n = c.args.shape in
    let p = c.first_in-first.result in
    let f = c.first_in-first.ensures s ready H refl (c.ready_at-at.ensures n) in
    let b = c.set_running.ensures n s H (omega (arith, first_small H ready f, (counts_in n H.placed.counts).some)) in
    dispatch_kept H f c.if-first-eq0.false (c.get-failed.ensures n _ (failed p) b.holds c.failed.ensures) c.if-failed-ne0.false b
