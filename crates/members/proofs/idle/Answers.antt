-- `members::idle` meets its contract: none of the flags but abort, and no timer. Assumes nothing.
use Rattle.members.proofs.Steps.{idle_by}
use Rattle.members.proofs.idle.Goals as goal

pub returns : goal.returns
returns c = rw (c.from.ensures, c.from-2.ensures, c.from-3.ensures) (idle_by _ _)
