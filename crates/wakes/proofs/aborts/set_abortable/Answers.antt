-- `wakes::aborts::set_abortable` meets its contract: its refusals, and else the bit takes the value. Assumes nothing.
use native.Mathlib.Omega.{arith}
use mathlib.Core.Path.{refl}
use Rattle.model.specs.Field.Field.{abortable}
use Rattle.moves.proofs.Shared.{taking}
use Rattle.outcomes.proofs.Outcomes.{refusing, passed_on}
use Rattle.wakes.proofs.Aborting.{set_missing, set_above, set_done}
use Rattle.wakes.proofs.aborts.set_abortable.Goals as goal

pub returns-in_err-missing : goal.returns-in_err-missing
returns-in_err-missing c s H v = set_missing H c.args.condition c.args.value c.in_err-missing.ensures (refusing _) (passed_on _ _ c.from_residual.ensures.1)

pub returns-then-value-gt1 : goal.returns-then-value-gt1
returns-then-value-gt1 c s H v = set_above H c.args.condition c.args.value c.in_ok-missing.ensures c.if-value-gt1.true

pub put-requires : goal.put-requires
put-requires c =
    let L = c.abortable.ensures in
    (c.args.shape, abortable c.args.condition, (c.requires.state, c.requires.holds), taking (abortable c.args.condition) L refl (rw L.0 (omega (arith, c.if-value-gt1.false))))

pub finish-requires : goal.finish-requires
finish-requires c =
    let L = c.abortable.ensures in
    (_, (c.put.ensures c.args.shape _ (abortable c.args.condition) c.requires.holds (taking (abortable c.args.condition) L refl (rw L.0 (omega (arith, c.if-value-gt1.false))))).holds)

pub returns : goal.returns
returns c s H v =
    let L = c.abortable.ensures in
    let b = c.put.ensures c.args.shape s (abortable c.args.condition) H (taking (abortable c.args.condition) L refl (rw L.0 (omega (arith, c.if-value-gt1.false)))) in
    set_done H c.args.condition c.args.value c.in_ok-missing.ensures refl c.if-value-gt1.false b (c.finish.ensures _ b.holds)
