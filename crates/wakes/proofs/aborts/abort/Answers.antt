-- `wakes::aborts::abort` meets its contract: its refusal, and else the bit is set and the process called off its wait. Assumes nothing.
use native.Mathlib.Omega.{arith}
use mathlib.Core.Path.{refl}
use Rattle.model.specs.Field.Field.{abort}
use Rattle.area.proofs.Puts.{becomes_then}
use Rattle.moves.proofs.Shared.{taking}
use Rattle.outcomes.proofs.Outcomes.{refusing, passed_on, missing_there}
use Rattle.wakes.proofs.Aborting.{abort_refused, abort_calls}
use Rattle.wakes.proofs.aborts.abort.Goals as goal

pub returns-in_err-missing : goal.returns-in_err-missing
returns-in_err-missing c s H v = abort_refused H c.args.process c.in_err-missing.ensures (refusing _) (passed_on _ _ c.from_residual.ensures.1)

pub put-requires : goal.put-requires
put-requires c =
    let L = c.abort.ensures in
    (c.args.shape, abort c.args.process.0, (c.requires.state, c.requires.holds), taking (abort c.args.process.0) L refl (rw L.0 (omega arith)))

pub call_off_any-moved-requires : goal.call_off_any-moved-requires
call_off_any-moved-requires c = let L = c.abort.ensures in record { held = (_, (c.put.ensures c.args.shape _ (abort c.args.process.0) c.requires.holds (taking (abort c.args.process.0) L refl (rw L.0 (omega arith)))).holds); is_process = missing_there c.in_ok-missing.ensures refl }

pub finish-requires : goal.finish-requires
finish-requires c =
    let L = c.abort.ensures in
    let b = c.put.ensures c.args.shape _ (abort c.args.process.0) c.requires.holds (taking (abort c.args.process.0) L refl (rw L.0 (omega arith))) in
    (_, (c.call_off_any-moved.ensures _ b.holds).1.holds)

pub returns : goal.returns
returns c s H v =
    let L = c.abort.ensures in
    let b = c.put.ensures c.args.shape s (abort c.args.process.0) H (taking (abort c.args.process.0) L refl (rw L.0 (omega arith))) in
    let t = c.call_off_any-moved.ensures _ b.holds in
    abort_calls H c.args.process c.in_ok-missing.ensures refl t.0 (becomes_then b t.1) (c.finish.ensures _ t.1.holds)
