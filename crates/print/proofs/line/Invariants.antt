-- `print::line` meets its contract. The loop's invariant: what stands on the buffer, with the fields ahead behind it, is the line; each field
-- takes six places at most. Assumes nothing.
use Prim.Native.Nat.{◌*◌, ◌≤◌}
use mathlib.Core.Path.{◌≡◌}
use mathlib.Core.List.{◌++◌}
use lib.ListN.{take, drop}
use Rattle.print.proofs.Digits.{fields}
use Rattle.print.proofs.line.Given as goal

abbrev pub invariant-loop-number : goal.invariant-loop-number
invariant-loop-number l = (l.next ≤ 6 * l.number-index) × (take l.next l.out ++ fields (drop l.number-index l.number-items) ≡ fields l.number-items)
