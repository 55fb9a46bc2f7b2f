-- `sound::rings` meets its contract. The invariant of its loop, for every list of the processes met before: the first i queues are passed. Assumes nothing.
use Prim.Native.Nat.{ℕ, ◌≤◌}
use mathlib.Core.List.{List}
use Rattle.members.specs.Walk.{Met}
use Rattle.sound.proofs.Queues.{Passed}
use Rattle.sound.proofs.rings.Given as goal

abbrev pub invariant-loop-i : goal.invariant-loop-i
invariant-loop-i g l = (l.i ≤ l.number) × ((js : List ℕ) → Met l.roll.processes l.initial.marks js l.count → Passed l.heads l.roll.records.now l.roll.processes g.row.KIND l.i l.marks l.found js)
