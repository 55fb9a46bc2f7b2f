-- `wakes::naked` meets its contract: the refusal of Naked, and else its first wakes, or its wakeup is set. Assumes nothing.
use native.Mathlib.Omega.{arith}
use mathlib.Core.Path.{refl, sym, ◌∙◌}
use Rattle.model.specs.Field.Field.{wakeup}
use Rattle.area.proofs.Puts.{becomes_then}
use Rattle.outcomes.proofs.Outcomes.{refusing, passed_on, missing_there}
use Rattle.moves.proofs.Shared.{taking}
use Rattle.wakes.proofs.Waking.{naked_refused, naked_first, naked_nobody, still}
use Rattle.wakes.proofs.naked.Goals as goal

pub returns-in_err-missing : goal.returns-in_err-missing
returns-in_err-missing c s H v = naked_refused H c.args.condition c.in_err-missing.ensures (refusing _) (passed_on _ _ c.from_residual.ensures.1)

pub wake_first-moved-requires : goal.wake_first-moved-requires
wake_first-moved-requires c = record { held = (c.requires.state, c.requires.holds); is_condition = missing_there c.in_ok-missing.ensures refl }

pub finish-requires : goal.finish-requires
finish-requires c = (_, (c.wake_first-moved.ensures c.requires.state c.requires.holds).1.holds)

pub returns-then-moved-ne0 : goal.returns-then-moved-ne0
returns-then-moved-ne0 c s H v =
    let w = c.wake_first-moved.ensures s H in
    naked_first H c.args.condition (missing_there c.in_ok-missing.ensures refl) w.0 c.if-moved-ne0.true w.1 (c.finish.ensures _ w.1.holds)

pub put-requires : goal.put-requires
put-requires c =
    let k = c.args.condition in
    let w = c.wake_first-moved.ensures c.requires.state c.requires.holds in
    let L = c.wakeup.ensures in
    (c.args.shape, wakeup k, (_, (still c.requires.state k (sym c.if-moved-ne0.false ∙ w.0) w.1).holds), taking (wakeup k) L refl (rw L.0 (omega arith)))

pub finish-requires-2 : goal.finish-requires-2
finish-requires-2 c =
    let k = c.args.condition in
    let w = c.wake_first-moved.ensures c.requires.state c.requires.holds in
    let L = c.wakeup.ensures in
    (_, (c.put.ensures c.args.shape _ (wakeup k) (still c.requires.state k (sym c.if-moved-ne0.false ∙ w.0) w.1).holds (taking (wakeup k) L refl (rw L.0 (omega arith)))).holds)

pub returns : goal.returns
returns c s H v =
    let u = c.args in
    let k = u.condition in
    let w = c.wake_first-moved.ensures s H in
    let none = sym c.if-moved-ne0.false ∙ w.0 in
    let L = c.wakeup.ensures in
    let m = still s k none w.1 in
    let p = c.put.ensures u.shape s (wakeup k) m.holds (taking (wakeup k) L refl (rw L.0 (omega arith))) in
    naked_nobody H k (missing_there c.in_ok-missing.ensures refl) none (becomes_then m p) (c.finish-2.ensures _ p.holds)
