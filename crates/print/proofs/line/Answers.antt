use native.Mathlib.Omega.{arith}
use Rattle.print.proofs.Digits.{fields_on}
use Rattle.print.proofs.line.Goals as goal

pub loop-number-preserved : goal.loop-number-preserved
loop-number-preserved c = let l = c.loop-number in (omega (arith, c.put_field-next.ensures.near), fields_on _ l.number-index _ c.loop-number-test.true c.put_field-next.ensures.bytes l.invariant.1)
