-- The digits stand behind what was there, and the byte behind them. Assumes nothing.
use native.Mathlib.Omega.{arith}
use Rattle.print.proofs.Digits.{field_put}
use Rattle.print.proofs.put_field.Goals as goal

pub returns : goal.returns
returns c =
    let a = c.args in
    let k = c.digit_count in
    record {
      bytes = field_put a.out.now c.put_digits.new.out a.at k.result a.n a.after k.ensures.0 (omega (arith, k.ensures.1, c.requires)) c.put_digits.ensures;
      near = omega (arith, k.ensures.1);
    }
