use native.Mathlib.Omega.{arith}
use Rattle.replay.proofs.Replays.{doing_start, doing_next, doing_stop, doing_full}
use Rattle.replay.proofs.replay.Goals as goal

pub loop-done-init : goal.loop-done-init
loop-done-init c = doing_start _ _ _

pub returns-then-not-serve : goal.returns-then-not-serve
returns-then-not-serve c = doing_stop c.loop-done.invariant (omega arith) c.serve.ensures c.if-not-serve.true

pub loop-done-preserved : goal.loop-done-preserved
loop-done-preserved c = doing_next c.loop-done.invariant (omega arith) c.serve.ensures c.if-not-serve.false

pub returns : goal.returns
returns c = doing_full c.loop-done.invariant (omega arith)
