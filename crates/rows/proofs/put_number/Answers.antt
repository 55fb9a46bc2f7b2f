use native.Mathlib.Omega.{arith}
use Rattle.rows.proofs.Numbers.{partly_start, partly_on, partly_last, partly_end}
use Rattle.rows.proofs.put_number.Goals as goal

pub loop-i-init : goal.loop-i-init
loop-i-init c = let a = c.args in (omega arith, partly_start a.columns a.number a.at a.page.now c.requires)

pub returns-then-rest-lt10 : goal.returns-then-rest-lt10
returns-then-rest-lt10 c blank = partly_last c.loop-i.invariant.1 c.loop-i-test.true (omega (arith, c.if-rest-lt10.true)) blank

pub loop-i-preserved : goal.loop-i-preserved
loop-i-preserved c = (omega (arith, c.loop-i-test.true), partly_on c.loop-i.invariant.1 c.loop-i-test.true (omega (arith, c.if-rest-lt10.false)))

pub returns : goal.returns
returns c blank = partly_end (omega (arith, c.loop-i.invariant.0, c.loop-i-test.false)) c.loop-i.invariant.1
