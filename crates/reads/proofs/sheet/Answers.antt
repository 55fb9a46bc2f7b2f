-- `reads::sheet` meets its contract: an unsound area is refused, and a sound one holds the state that it says, whose sheet is printed. Assumes nothing.
use Rattle.sound.proofs.Asked.{held_at}
use Rattle.reads.proofs.Reading.{reads_not, reads_at}
use Rattle.reads.proofs.sheet.Goals as goal

pub returns-in_err-shape : goal.returns-in_err-shape
returns-in_err-shape c = reads_not c.in_err-shape.ensures c.from_residual.result c.from_residual.ensures.1

pub sheet-requires : goal.sheet-requires
sheet-requires c = held_at c.in_ok-shape.ensures

pub returns : goal.returns
returns c = reads_at c.in_ok-shape.ensures (λ s H v. c.sheet.ensures s H)
