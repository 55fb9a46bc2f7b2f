-- `links::with_next` meets its contract: the three fields of a link add up to less than 65,536. Assumes nothing.
use native.Mathlib.Omega.{arith}
use Rattle.links.proofs.with_next.Goals as goal

pub returns : goal.returns
returns c = omega arith
