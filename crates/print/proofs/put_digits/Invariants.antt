-- `print::put_digits` meets its contract. The loop's invariant: the digits of what is left, with those written behind them, are all digits.
-- Assumes nothing.
use mathlib.Core.Path.{◌≡◌}
use mathlib.Core.List.{◌++◌}
use lib.ListN.{length, drop}
use Rattle.print.specs.Print.{digits}
use Rattle.print.proofs.put_digits.Given as goal

abbrev pub invariant-loop-i : goal.invariant-loop-i
invariant-loop-i l = digits l.i l.rest ++ drop l.i l.out ≡ digits (length l.initial.out) l.n
