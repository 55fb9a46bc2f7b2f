-- `broadcasts::clock::next_waited` meets its contract, which is its loop's invariant: the words passed are below 8. The measure is the words ahead. Assumes nothing.
use Rattle.std.proofs.Common.{ℕ, ◌-◌, ◌<◌, ◌≤◌, get_or}
use Rattle.broadcasts.proofs.clock.next_waited.Given as goal

abbrev pub invariant-loop-i : goal.invariant-loop-i
invariant-loop-i l = (l.from ≤ l.i) × (l.i ≤ l.end) × ((k : ℕ) → l.from ≤ k → k < l.i → get_or l.area k 0 < 8)

abbrev pub decreases-loop-i : goal.decreases-loop-i
decreases-loop-i l = l.end - l.i
