-- `ring::walker::walk` meets its contract. The invariant of its loop: the walker goes along a ring, count are passed, and out has them at its front. For every reading of the ring, those passed, those to come and the tail are its processes. Assumes nothing.
use Rattle.std.proofs.Common.{◌≡◌, List, ◌++◌, ℕ, length, drop}
use Rattle.ring.specs.Ring.{Ring}
use Rattle.ring.specs.Way.{Passed}
use Rattle.ring.proofs.walker.walk.Given as goal

abbrev pub invariant-loop-p : goal.invariant-loop-p
invariant-loop-p l =
    (goal.iterator-loop-p).can_next l.p-iterator
    × (goal.iterator-loop-p).is_finite l.p-iterator
    × (l.count ≡ length l.yielded)
    × (l.out ≡ l.yielded ++ drop l.count l.initial.out)
    × ((xs : List ℕ) → Ring l.records l.tail xs → Passed l.p-iterator l.tail l.yielded xs)
