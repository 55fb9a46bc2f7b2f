-- `waits::wait` meets its contract: its tests in the rule's order; the lock is left, and then its caller is called off, goes on over a wakeup, or sleeps. Assumes nothing.
use Rattle.std.proofs.Common.{◌≡◌, true, refl, arith}
use Rattle.model.specs.Queue.{inside, member}
use Rattle.model.specs.Queue.Queue.{ready}
use Rattle.model.specs.Field.{put}
use Rattle.model.specs.Field.Field.{holder, wakeup}
use Rattle.model.specs.Rules.{released}
use Rattle.model.specs.Machine.{State, model}
use Rattle.model.specs.Valid.{Valid}
use Rattle.area.specs.Holds.{Holds}
use Rattle.area.specs.Calls.{changed}
use Rattle.area.proofs.Puts.{becomes_then}
use Rattle.area.proofs.Rings.{member_inside}
use Rattle.moves.proofs.Shared.{runner_stands, taking}
use Rattle.outcomes.proofs.Outcomes.{refusing, passed_on, two_runs, two_first, two_second}
use Rattle.waits.proofs.Waiting.{waiter_stands, wait_refused, wait_foreign, wait_off, wait_over, wait_sleeps}
use Rattle.waits.proofs.wait.Goals as goal

pub running_of-running-requires : goal.running_of-running-requires
running_of-running-requires c = (c.args.shape, (c.requires.state, c.requires.holds))

pub returns-in_err-calling_two : goal.returns-in_err-calling_two
returns-in_err-calling_two c s H v = wait_refused H c.args.lock c.args.condition c.args.ticks (c.running_of-running.ensures c.args.shape s H) c.in_err-calling_two.ensures (refusing _) (passed_on _ _ c.from_residual.ensures.1)

pub holder_of-holder-requires : goal.holder_of-holder-requires
holder_of-holder-requires c = record { held = (c.requires.state, c.requires.holds); is_lock = two_first c.in_ok-calling_two.ensures refl }

pub returns-then-holder-running : goal.returns-then-holder-running
returns-then-holder-running c s H v = wait_foreign H c.args.lock c.args.condition c.args.ticks (c.running_of-running.ensures c.args.shape s H) c.in_ok-calling_two.ensures refl (c.holder_of-holder.ensures s H) c.if-holder-running.true refl

pub release-moved-requires : goal.release-moved-requires
release-moved-requires c = record { held = (c.requires.state, c.requires.holds); is_lock = two_first c.in_ok-calling_two.ensures refl }

pub called_off-off-requires : goal.called_off-off-requires
called_off-off-requires c =
    let runner : inside c.args.shape.processes c.running_of-running.result ≡ true = member_inside c.args.shape c.requires.state c.requires.valid.placed _ ready
    (runner_stands (c.running_of-running.ensures c.args.shape c.requires.state c.requires.holds) c.requires.valid (two_runs c.in_ok-calling_two.ensures refl)) in
    record { held = (_, (c.release-moved.ensures c.requires.state c.requires.holds).1.holds); is_process = runner; is_condition = two_second c.in_ok-calling_two.ensures refl }

pub finish-requires : goal.finish-requires
finish-requires c = (_, (c.release-moved.ensures c.requires.state c.requires.holds).1.holds)

pub returns-then-off : goal.returns-then-off
returns-then-off c s H v =
    let t = c.release-moved.ensures s H in
    wait_off H c.args.lock c.args.condition c.args.ticks (c.running_of-running.ensures c.args.shape s H) c.in_ok-calling_two.ensures refl (c.holder_of-holder.ensures s H) c.if-holder-running.false t.0
    (c.called_off-off.ensures _ t.1.holds) c.if-off.true t.1 (c.finish.ensures _ t.1.holds)

pub wakeup-requires : goal.wakeup-requires
wakeup-requires c = two_second c.in_ok-calling_two.ensures refl

pub get-wakeup-requires : goal.get-wakeup-requires
get-wakeup-requires c = (c.args.shape, wakeup c.args.condition, (_, (c.release-moved.ensures c.requires.state c.requires.holds).1.holds), c.wakeup.ensures)

pub wakeup-requires-then-wakeup-ne0 : goal.wakeup-requires-then-wakeup-ne0
wakeup-requires-then-wakeup-ne0 c = two_second c.in_ok-calling_two.ensures refl

pub put-requires : goal.put-requires
put-requires c =
    let L = c.wakeup-then-wakeup-ne0.ensures in
    (c.args.shape, wakeup c.args.condition, (_, (c.release-moved.ensures c.requires.state c.requires.holds).1.holds), taking (wakeup c.args.condition) L refl (rw L.0 (omega arith)))

pub finish-requires-then-wakeup-ne0 : goal.finish-requires-then-wakeup-ne0
finish-requires-then-wakeup-ne0 c =
    let L = c.wakeup-then-wakeup-ne0.ensures in
    (_, (c.put.ensures c.args.shape _ (wakeup c.args.condition) (c.release-moved.ensures c.requires.state c.requires.holds).1.holds (taking (wakeup c.args.condition) L refl (rw L.0 (omega arith)))).holds)

pub returns-then-wakeup-ne0 : goal.returns-then-wakeup-ne0
returns-then-wakeup-ne0 c s H v =
    let t = c.release-moved.ensures s H in
    let wakes = c.get-wakeup.ensures c.args.shape _ (wakeup c.args.condition) t.1.holds c.wakeup.ensures in
    let L = c.wakeup-then-wakeup-ne0.ensures in
    let b = c.put.ensures c.args.shape _ (wakeup c.args.condition) t.1.holds (taking (wakeup c.args.condition) L refl (rw L.0 (omega arith))) in
    wait_over H c.args.lock c.args.condition c.args.ticks (c.running_of-running.ensures c.args.shape s H) c.in_ok-calling_two.ensures refl (c.holder_of-holder.ensures s H) c.if-holder-running.false t.0
    (c.called_off-off.ensures _ t.1.holds) c.if-off.false wakes c.if-wakeup-ne0.true (becomes_then t.1 b) (c.finish-then-wakeup-ne0.ensures _ b.holds)

pub sleep-ahead-requires : goal.sleep-ahead-requires
sleep-ahead-requires c =
    let waiter : (s : State model) → Holds c.args.shape c.args.area.now s → Valid c.args.shape s → member c.running_of-running.result ((changed (put (holder c.args.lock) 0 s.fields) (released s.queues c.args.lock) s).queues ready) ≡ true = λ s H v. waiter_stands s c.args.lock (c.running_of-running.ensures c.args.shape s H) v (two_runs c.in_ok-calling_two.ensures refl) in
    record { holds = (_, (c.release-moved.ensures c.requires.state c.requires.holds).1.holds, waiter c.requires.state c.requires.holds c.requires.valid); is_condition = two_second c.in_ok-calling_two.ensures refl }

pub finish-requires-2 : goal.finish-requires-2
finish-requires-2 c =
    let waiter : (s : State model) → Holds c.args.shape c.args.area.now s → Valid c.args.shape s → member c.running_of-running.result ((changed (put (holder c.args.lock) 0 s.fields) (released s.queues c.args.lock) s).queues ready) ≡ true = λ s H v. waiter_stands s c.args.lock (c.running_of-running.ensures c.args.shape s H) v (two_runs c.in_ok-calling_two.ensures refl) in
    (_, (c.sleep-ahead.ensures _ (c.release-moved.ensures c.requires.state c.requires.holds).1.holds (waiter c.requires.state c.requires.holds c.requires.valid)).1.holds)

pub returns : goal.returns
returns c s H v =
    let waiter : (s : State model) → Holds c.args.shape c.args.area.now s → Valid c.args.shape s → member c.running_of-running.result ((changed (put (holder c.args.lock) 0 s.fields) (released s.queues c.args.lock) s).queues ready) ≡ true = λ s H v. waiter_stands s c.args.lock (c.running_of-running.ensures c.args.shape s H) v (two_runs c.in_ok-calling_two.ensures refl) in
    let t = c.release-moved.ensures s H in
    let wakes = c.get-wakeup.ensures c.args.shape _ (wakeup c.args.condition) t.1.holds c.wakeup.ensures in
    let b = c.sleep-ahead.ensures _ t.1.holds (waiter s H v) in
    wait_sleeps H c.args.lock c.args.condition c.args.ticks (c.running_of-running.ensures c.args.shape s H) c.in_ok-calling_two.ensures refl (c.holder_of-holder.ensures s H) c.if-holder-running.false t.0
    (c.called_off-off.ensures _ t.1.holds) c.if-off.false wakes c.if-wakeup-ne0.false b.0 (becomes_then t.1 b.1) (c.finish-2.ensures _ b.1.holds)
