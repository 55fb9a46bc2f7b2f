-- `members::tidy` meets its contract: by the kind, three low bits or two. Assumes nothing.
use Rattle.std.proofs.Common.{arith}
use Rattle.std.proofs.lemmas.Bool.Decides.{nat_tests}
use lib.Bits.{and_mask}
use Rattle.links.proofs.Links.{low_bits}
use Rattle.members.specs.Walk.{is_tidy}
use Rattle.members.proofs.tidy.Goals as goal

pub returns-in-1 : goal.returns-in-1
unfolding is_tidy
returns-in-1 c = grind (arith, nat_tests, low_bits c.args.link)

pub returns-in_default : goal.returns-in_default
unfolding is_tidy
returns-in_default c = grind (arith, nat_tests, and_mask c.args.link 2)
