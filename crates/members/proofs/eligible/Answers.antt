-- `members::eligible` meets its contract: one test after the other. Assumes nothing.
use Rattle.std.proofs.Common.{arith}
use Rattle.std.proofs.lemmas.Grind.{common_steps}
use Rattle.members.specs.Walk.{is_eligible}
use Rattle.members.proofs.eligible.Goals as goal

pub returns-then-p-processes-clause-same : goal.returns-then-p-processes-clause-same
unfolding is_eligible
returns-then-p-processes-clause-same c = grind (arith, common_steps)

pub returns-else-p-processes-clause-same : goal.returns-else-p-processes-clause-same
unfolding is_eligible
returns-else-p-processes-clause-same c = grind (arith, common_steps)
