use Rattle.std.proofs.Common.{arith}
use Rattle.broadcasts.proofs.Ticking.{low_next}
use Rattle.broadcasts.proofs.clock.next_waited.Goals as goal

pub loop-i-init : goal.loop-i-init
loop-i-init c = (omega arith, omega arith, λ k a b. absurd (omega arith))

pub overflow_add-i : goal.overflow_add-i
overflow_add-i c = omega arith

pub loop-i-smaller : goal.loop-i-smaller
loop-i-smaller c = omega arith

pub loop-i-preserved : goal.loop-i-preserved
loop-i-preserved c = (omega arith, omega arith, low_next c.args.area.now _ _ c.loop-i.invariant.2 c.if-area-i-lt-NUMBER.true)

pub returns-else-area-i-lt-NUMBER : goal.returns-else-area-i-lt-NUMBER
returns-else-area-i-lt-NUMBER c = c.loop-i.invariant

pub returns-after-loop-i : goal.returns-after-loop-i
returns-after-loop-i c = c.loop-i.invariant
