-- `members::Roll::walk` meets its contract. The invariant of its loop, for every list of the processes met before: what is left of the walk ends as the whole ring
-- does. An eligible process is one of 1 to P, so its record is among the records. The measure is the number of processes not yet met. Assumes nothing.
use Prim.Native.Nat.{ℕ, ◌-◌, ◌/◌, ◌<◌}
use mathlib.Core.List.{List}
use Rattle.members.specs.Walk.{ringed, Met}
use Rattle.members.proofs.Walks.{Going}
use Rattle.members.proofs.Roll.walk.Given as goal

abbrev pub invariant-loop-found : goal.invariant-loop-found
invariant-loop-found l = (l.p < 1024) × ((js : List ℕ) → Met l.self.processes l.initial.marks js l.count → Going l.self.records.now l.self.processes l.kind l.holder l.tail l.marks l.p (l.before / 8192) l.found (ringed l.self.records.now l.self.processes l.kind l.holder l.tail js))

abbrev pub decreases-loop-found : goal.decreases-loop-found
decreases-loop-found l = l.processes - l.found
