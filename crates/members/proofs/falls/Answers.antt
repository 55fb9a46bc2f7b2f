-- `members::falls` meets its contract: with all bits below its priority set, a link is the highest of that priority. Assumes nothing.
use Rattle.std.proofs.Common.{arith}
use Rattle.std.proofs.lemmas.Bool.Decides.{nat_tests}
use lib.Bits.{and_mask, or_add_and}
use Rattle.members.proofs.falls.Goals as goal

pub returns : goal.returns
returns c = grind (arith, nat_tests, or_add_and c.args.before 8191, and_mask c.args.before 13)
