use native.Mathlib.Omega.{arith}
use Rattle.print.proofs.Digits.{digits_start, digits_on, digits_end}
use Rattle.print.proofs.put_digits.Goals as goal

pub loop-i-init : goal.loop-i-init
loop-i-init c = digits_start c.args.out.now c.args.n

pub loop-i-preserved : goal.loop-i-preserved
loop-i-preserved c = let l = c.loop-i in digits_on l.out l.i l.rest (omega arith) (omega arith) l.invariant

pub returns : goal.returns
returns c = let l = c.loop-i in digits_end l.out l.i l.rest (omega arith) l.invariant
