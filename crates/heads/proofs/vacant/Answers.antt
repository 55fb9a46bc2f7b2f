-- `heads::vacant` meets its contract: a condition's word but for abortable, or the whole word. Assumes nothing.
use Rattle.std.proofs.Common.{arith}
use Rattle.std.proofs.lemmas.Grind.{common_steps}
use lib.Bits.{and_high}
use Rattle.heads.specs.Heads.{is_vacant}
use Rattle.heads.proofs.vacant.Goals as goal

pub returns-in-2 : goal.returns-in-2
unfolding is_vacant
returns-in-2 c = grind (arith, common_steps, and_high c.args.w 1 1)

pub returns-in_default : goal.returns-in_default
unfolding is_vacant
returns-in_default c = grind (arith, common_steps)
