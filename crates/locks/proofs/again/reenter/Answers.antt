-- `locks::again::reenter` meets its contract: its tests in the rule's order; a held lock is queued at, and off a free one its caller is called, or it is taken. Assumes nothing.
use native.Mathlib.Omega.{arith}
use mathlib.Core.Path.{◌≡◌, refl, sym, ◌∙◌}
use mathlib.Core.Bool.{true}
use Rattle.model.specs.Queue.{inside, member}
use Rattle.model.specs.Queue.Queue.{ready}
use Rattle.model.specs.Field.Field.{abort}
use Rattle.model.specs.Machine.{State, model}
use Rattle.model.specs.Valid.{Valid}
use Rattle.area.specs.Holds.{Holds}
use Rattle.area.proofs.Rings.{member_inside}
use Rattle.moves.proofs.Shared.{runner_stands, runner_small, taking}
use Rattle.outcomes.proofs.Outcomes.{refusing, passed_on, two_runs, two_first, two_second, two_calling}
use Rattle.locks.proofs.Locking.{enter_own, enter_free, enter_taken}
use Rattle.locks.proofs.Reentry.{reenter_refused, reenter_locked_lem, reenter_off, reenter_free}
use Rattle.locks.proofs.again.reenter.Goals as goal

pub running_of-running-requires : goal.running_of-running-requires
running_of-running-requires c = (c.args.shape, (c.requires.state, c.requires.holds))

pub returns-in_err-calling_two : goal.returns-in_err-calling_two
returns-in_err-calling_two c s H v = reenter_refused H c.args.lock c.args.condition (c.running_of-running.ensures c.args.shape s H) c.in_err-calling_two.ensures (refusing _) (passed_on _ _ c.from_residual.ensures.1)

pub holder_of-holder-requires : goal.holder_of-holder-requires
holder_of-holder-requires c = record { held = (c.requires.state, c.requires.holds); is_lock = two_first c.in_ok-calling_two.ensures refl }

pub returns-then-holder-running : goal.returns-then-holder-running
returns-then-holder-running c s H v =
    reenter_locked_lem H c.args.lock c.args.condition (c.running_of-running.ensures c.args.shape s H) c.in_ok-calling_two.ensures refl (c.holder_of-holder.ensures s H) (λ e. two_runs c.in_ok-calling_two.ensures refl (sym c.if-holder-running.true ∙ e))
    (enter_own H c.args.lock (c.running_of-running.ensures c.args.shape s H) (two_calling c.in_ok-calling_two.ensures refl) refl (c.holder_of-holder.ensures s H) c.if-holder-running.true refl)

pub block-ahead-requires : goal.block-ahead-requires
block-ahead-requires c =
    let stands : (s : State model) → Holds c.args.shape c.args.area.now s → Valid c.args.shape s → member c.running_of-running.result (s.queues ready) ≡ true = λ s H v. runner_stands (c.running_of-running.ensures c.args.shape s H) v (two_runs c.in_ok-calling_two.ensures refl) in
    record { holds = (c.requires.state, c.requires.holds, stands c.requires.state c.requires.holds c.requires.valid); is_lock = two_first c.in_ok-calling_two.ensures refl }

pub finish-requires : goal.finish-requires
finish-requires c =
    let stands : (s : State model) → Holds c.args.shape c.args.area.now s → Valid c.args.shape s → member c.running_of-running.result (s.queues ready) ≡ true = λ s H v. runner_stands (c.running_of-running.ensures c.args.shape s H) v (two_runs c.in_ok-calling_two.ensures refl) in
    (_, (c.block-ahead.ensures c.requires.state c.requires.holds (stands c.requires.state c.requires.holds c.requires.valid)).1.holds)

pub returns-then-holder-ne0 : goal.returns-then-holder-ne0
returns-then-holder-ne0 c s H v =
    let stands : (s : State model) → Holds c.args.shape c.args.area.now s → Valid c.args.shape s → member c.running_of-running.result (s.queues ready) ≡ true = λ s H v. runner_stands (c.running_of-running.ensures c.args.shape s H) v (two_runs c.in_ok-calling_two.ensures refl) in
    let t = c.block-ahead.ensures s H (stands s H v) in
    reenter_locked_lem H c.args.lock c.args.condition (c.running_of-running.ensures c.args.shape s H) c.in_ok-calling_two.ensures refl (c.holder_of-holder.ensures s H) c.if-holder-ne0.true
    (enter_taken H c.args.lock (c.running_of-running.ensures c.args.shape s H) (two_calling c.in_ok-calling_two.ensures refl) refl (c.holder_of-holder.ensures s H) c.if-holder-running.false c.if-holder-ne0.true t (c.finish.ensures _ t.1.holds))

pub called_off-requires : goal.called_off-requires
called_off-requires c =
    let stands : (s : State model) → Holds c.args.shape c.args.area.now s → Valid c.args.shape s → member c.running_of-running.result (s.queues ready) ≡ true = λ s H v. runner_stands (c.running_of-running.ensures c.args.shape s H) v (two_runs c.in_ok-calling_two.ensures refl) in
    let runner : inside c.args.shape.processes c.running_of-running.result ≡ true = member_inside c.args.shape c.requires.state c.requires.valid.placed _ ready (stands c.requires.state c.requires.holds c.requires.valid) in
    record { held = (c.requires.state, c.requires.holds); is_process = runner; is_condition = two_second c.in_ok-calling_two.ensures refl }

pub abort-requires : goal.abort-requires
abort-requires c =
    let stands : (s : State model) → Holds c.args.shape c.args.area.now s → Valid c.args.shape s → member c.running_of-running.result (s.queues ready) ≡ true = λ s H v. runner_stands (c.running_of-running.ensures c.args.shape s H) v (two_runs c.in_ok-calling_two.ensures refl) in
    let runner : inside c.args.shape.processes c.running_of-running.result ≡ true = member_inside c.args.shape c.requires.state c.requires.valid.placed _ ready (stands c.requires.state c.requires.holds c.requires.valid) in
    runner

pub put-requires : goal.put-requires
put-requires c =
    let L = c.abort.ensures in
    (c.args.shape, abort c.running_of-running.result, (c.requires.state, c.requires.holds), taking (abort c.running_of-running.result) L refl (rw L.0 (omega arith)))

pub finish-requires-then-called_off : goal.finish-requires-then-called_off
finish-requires-then-called_off c =
    let L = c.abort.ensures in
    (_, (c.put.ensures c.args.shape _ (abort c.running_of-running.result) c.requires.holds (taking (abort c.running_of-running.result) L refl (rw L.0 (omega arith)))).holds)

pub returns-then-called_off : goal.returns-then-called_off
returns-then-called_off c s H v =
    let L = c.abort.ensures in
    let b = c.put.ensures c.args.shape s (abort c.running_of-running.result) H (taking (abort c.running_of-running.result) L refl (rw L.0 (omega arith))) in
    reenter_off H c.args.lock c.args.condition (c.running_of-running.ensures c.args.shape s H) c.in_ok-calling_two.ensures refl (c.called_off.ensures s H) (c.holder_of-holder.ensures s H) c.if-holder-running.false c.if-holder-ne0.false c.if-called_off.true b (c.finish-then-called_off.ensures _ b.holds)

pub set_holder-requires : goal.set_holder-requires
set_holder-requires c = record { held = (c.requires.state, c.requires.holds); is_lock = two_first c.in_ok-calling_two.ensures refl; is_process_or_none = runner_small (c.running_of-running.ensures c.args.shape c.requires.state c.requires.holds) c.requires.valid }

pub finish-requires-2 : goal.finish-requires-2
finish-requires-2 c = (_, (c.set_holder.ensures c.requires.state c.requires.holds).holds)

pub returns : goal.returns
returns c s H v =
    let b = c.set_holder.ensures s H in
    reenter_free H c.args.lock c.args.condition (c.running_of-running.ensures c.args.shape s H) c.in_ok-calling_two.ensures refl (c.called_off.ensures s H) c.if-called_off.false
    (enter_free H c.args.lock (c.running_of-running.ensures c.args.shape s H) (two_calling c.in_ok-calling_two.ensures refl) refl (c.holder_of-holder.ensures s H) c.if-holder-running.false c.if-holder-ne0.false b (c.finish-2.ensures _ b.holds))
