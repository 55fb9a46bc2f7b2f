-- `rows::put_number` meets its contract. The loop's invariant: the digits behind i stand on the page, and what is left of the number is to come.
-- Assumes nothing.
use Prim.Native.Nat.{◌≤◌}
use Rattle.rows.proofs.Numbers.{Partly}
use Rattle.rows.proofs.put_number.Given as goal

abbrev pub invariant-loop-i : goal.invariant-loop-i
invariant-loop-i l = (l.at ≤ l.i) × Partly l.columns l.number l.at l.i l.rest l.initial.page l.page
