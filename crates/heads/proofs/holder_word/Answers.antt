-- `heads::holder_word` meets its contract: the two cases of `holder_in`. Assumes nothing.
use Rattle.std.proofs.Common.{arith}
use Rattle.std.proofs.lemmas.Grind.{common_steps}
use Rattle.heads.specs.Heads.{holder_in}
use Rattle.heads.proofs.holder_word.Goals as goal

pub returns-in-1 : goal.returns-in-1
unfolding holder_in
returns-in-1 c = grind (arith, common_steps)

pub returns-in_default : goal.returns-in_default
unfolding holder_in
returns-in_default c = grind (arith, common_steps)
