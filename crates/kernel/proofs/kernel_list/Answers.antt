-- `kernel::kernel_list` meets its contract: List's code and count cross as one number, and both come back. Assumes nothing.
use Rattle.kernel.proofs.Packing.{writes}
use Rattle.kernel.proofs.kernel_list.Goals as goal

pub returns : goal.returns
returns c = writes c.list.ensures (rw c.report.ensures at c.pack_list.ensures)
