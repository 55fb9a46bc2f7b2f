-- `members::asleep` meets its contract: waiting, and then no timer, or armed. Assumes nothing.
use borrow.Author.Rules.{rules}
use Rattle.std.proofs.Common.{arith}
use Rattle.std.proofs.lemmas.Bool.Decides.{nat_tests}
use Rattle.members.specs.Walk.{is_asleep}
use Rattle.members.proofs.Steps.{fixed_is}
use Rattle.members.proofs.asleep.Goals as goal

pub returns-then-flags-eq-WAITING : goal.returns-then-flags-eq-WAITING
unfolding is_asleep
returns-then-flags-eq-WAITING c = grind (arith, nat_tests, fixed_is c.args.flags (search rules))

pub returns-else-flags-eq-WAITING : goal.returns-else-flags-eq-WAITING
unfolding is_asleep
returns-else-flags-eq-WAITING c = grind (arith, nat_tests, fixed_is c.args.flags (search rules))

pub overflow_mul-result : goal.overflow_mul-result
overflow_mul-result c = omega (arith, fixed_is c.args.flags (search rules))
