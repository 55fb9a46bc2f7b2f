-- `kernel::kernel_due` meets its contract: the code and the count cross as one number, and both come back. Assumes nothing.
use Rattle.kernel.proofs.Packing.{dues}
use Rattle.kernel.proofs.kernel_due.Goals as goal

pub returns : goal.returns
returns c = dues _ c.due.ensures (rw c.report.ensures at c.pack_report.ensures)
