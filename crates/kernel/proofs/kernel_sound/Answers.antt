-- `kernel::kernel_sound` meets its contract: 1 where the check says yes, else 0. Assumes nothing.
use Rattle.kernel.proofs.Packing.{judges}
use Rattle.kernel.proofs.kernel_sound.Goals as goal

pub returns : goal.returns
returns c = rw c.from.ensures (judges c.sound.result c.sound.ensures)
