-- `Reading::write_due` meets its contract. The loop's invariant: those due of the processes before p stand over the front of the buffer, which has room for all. Assumes nothing.
use Rattle.std.proofs.Common.{◌-◌}
use Rattle.model.specs.Queue.{up_to, filter}
use Rattle.model.specs.Machine.{State, model}
use Rattle.timers.specs.Telling.{Shows}
use Rattle.timers.proofs.Dues.{is_due, Over}
use Rattle.timers.proofs.Reading.write_due.Given as goal

abbrev pub invariant-loop-p : goal.invariant-loop-p
invariant-loop-p l = (s : State model) → Shows l.self s → Over (filter (is_due l.ticks l.self.shape s) (up_to (l.p - 1))) l.initial.buffer l.buffer l.at
