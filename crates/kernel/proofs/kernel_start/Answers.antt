-- `kernel::kernel_start` meets its contract: Start's answer crosses as its number, and each field comes back. Assumes nothing.
use Rattle.kernel.proofs.Packing.{begins}
use Rattle.kernel.proofs.kernel_start.Goals as goal

pub returns : goal.returns
returns c = begins c.start.ensures (rw c.answer.ensures at c.pack.ensures)
