-- `broadcasts::clock::tick` meets its contract: the clock goes on, and those whose timer rings wake, by the rule of Tick. Assumes nothing.
use Rattle.std.proofs.Common.{refl, arith}
use Rattle.model.specs.Field.Field.{clock}
use Rattle.area.proofs.Puts.{becomes_then}
use Rattle.moves.proofs.Shared.{taking}
use Rattle.model.proofs.Kept.{valid_clock}
use Rattle.broadcasts.proofs.Ticking.{ticks}
use Rattle.broadcasts.proofs.clock.tick.Goals as goal

pub get-before-requires : goal.get-before-requires
get-before-requires c = (c.args.shape, clock, (c.requires.state, c.requires.holds), c.clock.ensures c.args.shape)

pub put-requires : goal.put-requires
put-requires c = (c.args.shape, clock, (c.requires.state, c.requires.holds), taking clock (c.clock-2.ensures c.args.shape) refl (omega arith))

pub wake_due-moved-requires : goal.wake_due-moved-requires
wake_due-moved-requires c =
    let n = c.args.shape in
    let pre = c.requires in
    let b = c.put.ensures n pre.state clock pre.holds (taking clock (c.clock-2.ensures n) refl (omega arith)) in
    record { state = _; holds = b.holds; valid = valid_clock b.holds.placed pre.valid }

pub finish-requires : goal.finish-requires
finish-requires c =
    let n = c.args.shape in
    let pre = c.requires in
    let b = c.put.ensures n pre.state clock pre.holds (taking clock (c.clock-2.ensures n) refl (omega arith)) in
    let w = c.wake_due-moved.ensures _ b.holds (valid_clock b.holds.placed pre.valid) in
    (_, w.1.holds)

pub returns : goal.returns
returns c s H v =
    let n = c.args.shape in
    let now = c.get-before.ensures n s clock H (c.clock.ensures n) in
    let b = c.put.ensures n s clock H (taking clock (c.clock-2.ensures n) refl (omega arith)) in
    let w = c.wake_due-moved.ensures _ b.holds (valid_clock b.holds.placed v) in
    ticks H v now refl w.0 (becomes_then b w.1) (c.finish.ensures _ w.1.holds)
