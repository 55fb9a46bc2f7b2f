-- `waits::sleep` meets its contract: p's armed and its timer are set, and p queues at the condition. Assumes nothing.
use Rattle.std.proofs.Common.{refl, arith}
use Rattle.model.specs.Queue.Queue.{ready, condition}
use Rattle.model.specs.Field.Field.{clock, armed, timer}
use Rattle.model.specs.Machine.{State, model}
use Rattle.area.specs.Holds.{Holds, Becomes, with}
use Rattle.area.proofs.Puts.{becomes_then}
use Rattle.area.proofs.Rings.{member_inside}
use Rattle.moves.proofs.Shared.{taking, going}
use Rattle.waits.proofs.Waiting.{sleeps}
use Rattle.waits.proofs.sleep.Goals as goal

pub get-now-requires : goal.get-now-requires
get-now-requires c = (c.args.shape, clock, (c.requires.holds.0, c.requires.holds.1), c.clock.ensures c.args.shape)

pub armed-requires : goal.armed-requires
armed-requires c = member_inside c.args.shape c.requires.holds.0 c.requires.holds.1.placed c.args.p ready c.requires.holds.2

pub put-requires : goal.put-requires
put-requires c =
    let L = c.armed.ensures in
    (c.args.shape, armed c.args.p, (c.requires.holds.0, c.requires.holds.1), taking (armed c.args.p) L refl (rw L.0 c.bit_of.ensures.1))

pub timer-requires : goal.timer-requires
timer-requires c = member_inside c.args.shape c.requires.holds.0 c.requires.holds.1.placed c.args.p ready c.requires.holds.2

pub put-requires-2 : goal.put-requires-2
put-requires-2 c =
    let arms : let u = c.args in (s : State model) → Holds u.shape u.area.now s → Becomes u.shape u.area.now c.put.new.area (with (armed u.p) c.bit_of.result s) = λ s H. let u = c.args in let L = c.armed.ensures in c.put.ensures u.shape s (armed u.p) H (taking (armed u.p) L refl (rw L.0 c.bit_of.ensures.1)) in
    let L = c.timer.ensures in
    (c.args.shape, timer c.args.p, (_, (arms c.requires.holds.0 c.requires.holds.1).holds), taking (timer c.args.p) L refl (rw L.0 (omega arith)))

pub queue-requires : goal.queue-requires
queue-requires c =
    let arms : let u = c.args in (s : State model) → Holds u.shape u.area.now s → Becomes u.shape u.area.now c.put.new.area (with (armed u.p) c.bit_of.result s) = λ s H. let u = c.args in let L = c.armed.ensures in c.put.ensures u.shape s (armed u.p) H (taking (armed u.p) L refl (rw L.0 c.bit_of.ensures.1)) in
    let times : let u = c.args in (s : State model) → Holds u.shape u.area.now s → Becomes u.shape u.area.now c.put-2.new.area (with (timer u.p) c.alarm_at.result (with (armed u.p) c.bit_of.result s)) = λ s H. let u = c.args in
    let L = c.timer.ensures in
    let a = arms s H in
    becomes_then a (c.put-2.ensures u.shape _ (timer u.p) a.holds (taking (timer u.p) L refl (rw L.0 (omega arith)))) in
    let b = times c.requires.holds.0 c.requires.holds.1 in
    (c.args.shape, c.records_at-base.ensures, going b.holds ready (condition c.args.condition) refl c.requires.is_condition refl c.condition_at-to.ensures c.requires.holds.2 refl, refl)

pub returns : goal.returns
returns c s H m =
    let arms : let u = c.args in (s : State model) → Holds u.shape u.area.now s → Becomes u.shape u.area.now c.put.new.area (with (armed u.p) c.bit_of.result s) = λ s H. let u = c.args in let L = c.armed.ensures in c.put.ensures u.shape s (armed u.p) H (taking (armed u.p) L refl (rw L.0 c.bit_of.ensures.1)) in
    let times : let u = c.args in (s : State model) → Holds u.shape u.area.now s → Becomes u.shape u.area.now c.put-2.new.area (with (timer u.p) c.alarm_at.result (with (armed u.p) c.bit_of.result s)) = λ s H. let u = c.args in
    let L = c.timer.ensures in
    let a = arms s H in
    becomes_then a (c.put-2.ensures u.shape _ (timer u.p) a.holds (taking (timer u.p) L refl (rw L.0 (omega arith)))) in
    let n = c.args.shape in
    let now = c.get-now.ensures n s clock H (c.clock.ensures n) in
    let b = times s H in
    let q = c.queue.ensures n c.records_at-base.ensures (going b.holds ready (condition c.args.condition) refl c.requires.is_condition refl c.condition_at-to.ensures m refl) refl in
    (q.0, sleeps s c.args.p c.args.condition c.args.ticks.0 c.bit_of.ensures.0 now c.alarm_at.ensures (becomes_then b q.1))
