-- `replay::replay` meets its contract. The loop's invariant: the calls made so far are a run, the log's calls are those and what its
-- other records say, and their answers stand before what was there (`Doing`). Assumes nothing.
use Rattle.replay.proofs.Replays.{Doing}
use Rattle.replay.proofs.replay.Given as goal

abbrev pub invariant-loop-done : goal.invariant-loop-done
invariant-loop-done l = Doing l.log l.initial.area l.area l.initial.answers l.answers l.done
