-- `broadcasts::clock::sweep_all` meets its contract. The loop's invariant: the conditions whose words are passed are swept, and no other queue has changed. The measure is the words ahead. Assumes nothing.
use Rattle.std.proofs.Common.{◌≡◌, ◌-◌, ◌≤◌, length}
use Rattle.model.specs.Machine.{State, model}
use Rattle.area.specs.Layout.{conditions_at, records_at}
use Rattle.area.specs.Holds.{Holds}
use Rattle.area.specs.Loose.{Loose}
use Rattle.crowds.specs.Crowds.{staying}
use Rattle.broadcasts.proofs.clock.sweep_all.Given as goal

abbrev pub invariant-loop-i : goal.invariant-loop-i
invariant-loop-i l = (conditions_at l.shape ≤ l.i) × (l.i ≤ records_at l.shape) × (length l.area ≡ length l.initial.area) × ((s : State model) → Holds l.shape l.initial.area s → Loose l.shape l.initial.area l.area s.fields (staying s.fields l.time (l.i - conditions_at l.shape) s.queues))

abbrev pub decreases-loop-i : goal.decreases-loop-i
decreases-loop-i l = l.end - l.i
