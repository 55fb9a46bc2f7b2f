-- `kernel::cross` meets its contract: the answer of a call has fields of ten bits, so it comes back out of its number. Assumes nothing.
use Rattle.kernel.proofs.Packing.{carried}
use Rattle.kernel.proofs.cross.Goals as goal

pub returns : goal.returns
returns c = carried c.requires.3 (rw c.answer.ensures at c.pack.ensures)
