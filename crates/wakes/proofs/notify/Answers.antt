-- `wakes::notify` meets its contract: the refusals of Notify, and else its first wakes. Assumes nothing.
use mathlib.Core.Path.{refl}
use Rattle.outcomes.proofs.Outcomes.{refusing, passed_on, calling_there}
use Rattle.wakes.proofs.Waking.{notify_refused, notify_first_lem}
use Rattle.wakes.proofs.notify.Goals as goal

pub returns-in_err-calling : goal.returns-in_err-calling
returns-in_err-calling c s H v =
    let u = c.args in
    notify_refused H u.condition (c.running_of-running.ensures u.shape s H) c.in_err-calling.ensures (refusing _) (passed_on _ _ c.from_residual.ensures.1)

pub wake_first-moved-requires : goal.wake_first-moved-requires
wake_first-moved-requires c = record { held = (c.requires.state, c.requires.holds); is_condition = calling_there c.in_ok-calling.ensures refl }

pub finish-requires : goal.finish-requires
finish-requires c = (_, (c.wake_first-moved.ensures c.requires.state c.requires.holds).1.holds)

pub returns : goal.returns
returns c s H v =
    let u = c.args in
    let w = c.wake_first-moved.ensures s H in
    notify_first_lem H u.condition (c.running_of-running.ensures u.shape s H) c.in_ok-calling.ensures refl w.0 w.1 (c.finish.ensures _ w.1.holds)
