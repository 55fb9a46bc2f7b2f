-- `Reading::nearest` meets its contract. The loop's invariant: of the processes before p the nearest so far is the first with the fewest ticks left. Assumes nothing.
use Rattle.std.proofs.Common.{◌-◌}
use Rattle.model.specs.Machine.{State, model}
use Rattle.model.specs.Timers.{left}
use Rattle.timers.specs.Telling.{Shows}
use Rattle.timers.proofs.Least.{Least}
use Rattle.timers.proofs.Reading.nearest.Given as goal

abbrev pub invariant-loop-p : goal.invariant-loop-p
invariant-loop-p l = (s : State model) → Shows l.self s → Least (left l.self.shape s) (l.p - 1) l.process l.least
