-- `heads::in_order` meets its contract: one test after the other, as `heading` has them. Assumes nothing.
use Rattle.std.proofs.Common.{arith}
use Rattle.std.proofs.lemmas.Grind.{common_steps}
use lib.Bits.{and_high}
use Rattle.links.proofs.Links.{low_bits}
use Rattle.heads.specs.Heads.{heading}
use Rattle.heads.proofs.in_order.Goals as goal

pub returns-then-processes-w : goal.returns-then-processes-w
unfolding heading
returns-then-processes-w c = grind (arith, common_steps, low_bits c.args.v)

pub returns-then-v-ne0-2 : goal.returns-then-v-ne0-2
unfolding heading
returns-then-v-ne0-2 c = grind (arith, common_steps, low_bits c.args.v, low_bits c.args.w)

pub returns-then-bare-eq-WAKEUP : goal.returns-then-bare-eq-WAKEUP
unfolding heading
returns-then-bare-eq-WAKEUP c = grind (arith, common_steps, low_bits c.args.v, and_high c.args.w 1 1)

pub returns-else-bare-eq-WAKEUP : goal.returns-else-bare-eq-WAKEUP
unfolding heading
returns-else-bare-eq-WAKEUP c = grind (arith, common_steps, low_bits, and_high c.args.w 1 1)

pub returns-in_default : goal.returns-in_default
unfolding heading
returns-in_default c = grind (arith, common_steps, low_bits c.args.v, low_bits c.args.w)
