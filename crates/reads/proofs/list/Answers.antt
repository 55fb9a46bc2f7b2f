-- `reads::list` meets its contract: an unsound area is refused, and a sound one holds the state that it says, whose queue is listed.
-- Assumes nothing.
use Rattle.sound.proofs.Asked.{held_at}
use Rattle.reads.proofs.Reading.{reads_not, reads_at}
use Rattle.reads.proofs.list.Goals as goal

pub returns-in_err-shape : goal.returns-in_err-shape
returns-in_err-shape c = reads_not c.in_err-shape.ensures c.from_residual.result c.from_residual.ensures.1

pub list-requires : goal.list-requires
list-requires c = held_at c.in_ok-shape.ensures

pub returns : goal.returns
returns c = reads_at c.in_ok-shape.ensures (λ s H v. c.list.ensures s H)
