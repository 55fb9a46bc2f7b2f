-- `members::fits` meets its contract: the two cases of `fitting`. Assumes nothing.
use Rattle.std.proofs.Common.{arith}
use Rattle.std.proofs.lemmas.Bool.Decides.{nat_tests}
use Rattle.links.proofs.Links.{low_bits}
use Rattle.members.specs.Walk.{fitting}
use Rattle.members.proofs.fits.Goals as goal

pub returns-then-asleep : goal.returns-then-asleep
unfolding fitting
returns-then-asleep c = grind (arith, nat_tests, low_bits c.args.link)

pub returns-else-asleep : goal.returns-else-asleep
unfolding fitting
returns-else-asleep c = grind (arith, nat_tests)

pub returns-then-tidy : goal.returns-then-tidy
unfolding fitting
returns-then-tidy c = grind (arith, nat_tests)

pub returns-else-tidy : goal.returns-else-tidy
unfolding fitting
returns-else-tidy c = grind (arith, nat_tests)
