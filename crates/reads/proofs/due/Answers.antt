-- `reads::due` meets its contract: an unsound area is refused, and a sound one holds the state that it says, of which is told. Assumes nothing.
use Rattle.sound.proofs.Asked.{stands_at}
use Rattle.reads.proofs.Reading.{reads_not, reads_at}
use Rattle.reads.proofs.due.Goals as goal

pub returns-in_err-shape : goal.returns-in_err-shape
returns-in_err-shape c = reads_not c.in_err-shape.ensures c.from_residual.result c.from_residual.ensures.1

pub due-requires : goal.due-requires
due-requires c = stands_at c.in_ok-shape.ensures

pub returns : goal.returns
returns c = reads_at c.in_ok-shape.ensures c.due.ensures
