-- `Reading::count_due` meets its contract. The loop's invariant: count are due of the processes before p. Assumes nothing.
use Rattle.std.proofs.Common.{◌≡◌, ◌-◌, ◌<◌, length}
use Rattle.model.specs.Queue.{up_to, filter}
use Rattle.model.specs.Machine.{State, model}
use Rattle.timers.specs.Telling.{Shows}
use Rattle.timers.proofs.Dues.{is_due}
use Rattle.timers.proofs.Reading.count_due.Given as goal

abbrev pub invariant-loop-p : goal.invariant-loop-p
invariant-loop-p l = record { few : l.count < l.p; counted : (s : State model) → Shows l.self s → l.count ≡ length (filter (is_due l.ticks l.self.shape s) (up_to (l.p - 1))) }
