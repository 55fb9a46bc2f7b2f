-- `kernel::kernel_sheet` meets its contract: the code and the bytes written cross as one number, and both come back. Assumes nothing.
use Rattle.kernel.proofs.Packing.{pages}
use Rattle.kernel.proofs.kernel_sheet.Goals as goal

pub returns : goal.returns
returns c = pages c.sheet.ensures (rw c.report.ensures at c.pack_report.ensures)
