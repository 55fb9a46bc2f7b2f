-- `heads::head_at` meets its contract: the two cases of `head_at`. Assumes nothing.
use Rattle.std.proofs.Common.{arith}
use Rattle.std.proofs.lemmas.Grind.{common_steps}
use Rattle.heads.specs.Heads.{head_at}
use Rattle.heads.proofs.head_at.Goals as goal

pub returns-in-1 : goal.returns-in-1
unfolding head_at
returns-in-1 c = grind (arith, common_steps)

pub returns-in_default : goal.returns-in_default
unfolding head_at
returns-in_default c = grind (arith, common_steps)
