-- `locks::exit` meets its contract: its tests in the rule's order, and then the release. Assumes nothing.
use mathlib.Core.Path.{refl}
use Rattle.outcomes.proofs.Outcomes.{refusing, passed_on, calling_there}
use Rattle.locks.proofs.Locking.{exit_refused, exit_foreign, exit_own}
use Rattle.locks.proofs.exit.Goals as goal

pub running_of-running-requires : goal.running_of-running-requires
running_of-running-requires c = (c.args.shape, (c.requires.state, c.requires.holds))

pub returns-in_err-calling : goal.returns-in_err-calling
returns-in_err-calling c s H v =
    let n = c.args.shape in
    exit_refused H c.args.lock (c.running_of-running.ensures n s H) c.in_err-calling.ensures (refusing _) (passed_on _ _ c.from_residual.ensures.1)

pub holder_of-holder-requires : goal.holder_of-holder-requires
holder_of-holder-requires c = record { held = (c.requires.state, c.requires.holds); is_lock = calling_there c.in_ok-calling.ensures refl }

pub returns-then-holder-running : goal.returns-then-holder-running
returns-then-holder-running c s H v =
    let n = c.args.shape in
    exit_foreign H c.args.lock (c.running_of-running.ensures n s H) c.in_ok-calling.ensures refl (c.holder_of-holder.ensures s H) c.if-holder-running.true refl

pub release-moved-requires : goal.release-moved-requires
release-moved-requires c = record { held = (c.requires.state, c.requires.holds); is_lock = calling_there c.in_ok-calling.ensures refl }

pub finish-requires : goal.finish-requires
finish-requires c = (_, (c.release-moved.ensures c.requires.state c.requires.holds).1.holds)

pub returns : goal.returns
returns c s H v =
    let n = c.args.shape in
    let b = c.release-moved.ensures s H in
    exit_own H c.args.lock (c.running_of-running.ensures n s H) c.in_ok-calling.ensures refl (c.holder_of-holder.ensures s H) c.if-holder-running.false b (c.finish.ensures _ b.1.holds)
