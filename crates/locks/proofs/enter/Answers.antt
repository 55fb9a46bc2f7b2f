-- `locks::enter` meets its contract: its tests in the rule's order; a free lock is taken, and for a held one who runs blocks. Assumes nothing.
use mathlib.Core.Path.{refl}
use Rattle.moves.proofs.Shared.{runner_stands, runner_small}
use Rattle.outcomes.proofs.Outcomes.{refusing, passed_on, calling_runs, calling_there}
use Rattle.locks.proofs.Locking.{enter_refused, enter_own, enter_free, enter_taken}
use Rattle.locks.proofs.enter.Goals as goal

pub running_of-running-requires : goal.running_of-running-requires
running_of-running-requires c = (c.args.shape, (c.requires.state, c.requires.holds))

pub returns-in_err-calling : goal.returns-in_err-calling
returns-in_err-calling c s H v =
    let n = c.args.shape in
    enter_refused H c.args.lock (c.running_of-running.ensures n s H) c.in_err-calling.ensures (refusing _) (passed_on _ _ c.from_residual.ensures.1)

pub holder_of-holder-requires : goal.holder_of-holder-requires
holder_of-holder-requires c = record { held = (c.requires.state, c.requires.holds); is_lock = calling_there c.in_ok-calling.ensures refl }

pub returns-then-holder-running : goal.returns-then-holder-running
returns-then-holder-running c s H v =
    let n = c.args.shape in
    enter_own H c.args.lock (c.running_of-running.ensures n s H) c.in_ok-calling.ensures refl (c.holder_of-holder.ensures s H) c.if-holder-running.true refl

pub set_holder-requires : goal.set_holder-requires
set_holder-requires c =
    let n = c.args.shape in
    let pre = c.requires in
    let runs = c.running_of-running.ensures n pre.state pre.holds in record { held = (pre.state, pre.holds); is_lock = calling_there c.in_ok-calling.ensures refl; is_process_or_none = runner_small runs pre.valid }

pub finish-requires : goal.finish-requires
finish-requires c = (_, (c.set_holder.ensures c.requires.state c.requires.holds).holds)

pub returns-then-holder-eq0 : goal.returns-then-holder-eq0
returns-then-holder-eq0 c s H v =
    let n = c.args.shape in
    let runs = c.running_of-running.ensures n s H in
    let b = c.set_holder.ensures s H in
    enter_free H c.args.lock runs c.in_ok-calling.ensures refl (c.holder_of-holder.ensures s H) c.if-holder-running.false c.if-holder-eq0.true b (c.finish.ensures _ b.holds)

pub block-ahead-requires : goal.block-ahead-requires
block-ahead-requires c =
    let n = c.args.shape in
    let pre = c.requires in
    let runs = c.running_of-running.ensures n pre.state pre.holds in
    let calling = c.in_ok-calling in record { holds = (pre.state, pre.holds, runner_stands runs pre.valid (calling_runs calling.ensures refl)); is_lock = calling_there calling.ensures refl }

pub finish-requires-2 : goal.finish-requires-2
finish-requires-2 c =
    let n = c.args.shape in
    let pre = c.requires in
    let runs = c.running_of-running.ensures n pre.state pre.holds in
    (_, (c.block-ahead.ensures pre.state pre.holds (runner_stands runs pre.valid (calling_runs c.in_ok-calling.ensures refl))).1.holds)

pub returns : goal.returns
returns c s H v =
    let n = c.args.shape in
    let runs = c.running_of-running.ensures n s H in
    let calling = c.in_ok-calling in
    let b = c.block-ahead.ensures s H (runner_stands runs v (calling_runs calling.ensures refl)) in
    enter_taken H c.args.lock runs calling.ensures refl (c.holder_of-holder.ensures s H) c.if-holder-running.false c.if-holder-eq0.false b (c.finish-2.ensures _ b.1.holds)
