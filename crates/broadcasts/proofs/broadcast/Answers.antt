-- `broadcasts::broadcast` meets its contract: all of the condition wake, by the rule of Broadcast. Assumes nothing.
use mathlib.Core.Path.{refl}
use Rattle.outcomes.proofs.Outcomes.{refusing, passed_on, calling_there}
use Rattle.broadcasts.proofs.Crowding.{broadcast_refused, broadcast_all_lem}
use Rattle.broadcasts.proofs.broadcast.Goals as goal

pub returns-in_err-calling : goal.returns-in_err-calling
returns-in_err-calling c s H v =
    let n = c.args.shape in
    broadcast_refused H c.args.condition (c.running_of-running.ensures n s H) c.in_err-calling.ensures (refusing _) (passed_on _ _ c.from_residual.ensures.1)

pub wake_all-all-requires : goal.wake_all-all-requires
wake_all-all-requires c = (c.args.condition, (c.requires.state, c.requires.holds), calling_there c.in_ok-calling.ensures refl, c.condition_at-from.ensures)

pub finish-requires : goal.finish-requires
finish-requires c =
    let i = calling_there c.in_ok-calling.ensures refl in
    (_, (c.wake_all-all.ensures c.requires.state c.args.condition c.requires.holds i c.condition_at-from.ensures).1.holds)

pub returns : goal.returns
returns c s H v =
    let n = c.args.shape in
    let i = calling_there c.in_ok-calling.ensures refl in
    let b = c.wake_all-all.ensures s c.args.condition H i c.condition_at-from.ensures in
    broadcast_all_lem H c.args.condition (c.running_of-running.ensures n s H) c.in_ok-calling.ensures refl b.0 b.1 (c.finish.ensures _ b.1.holds)
