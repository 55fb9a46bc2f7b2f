-- `kernel::kernel_nearest` meets its contract: the code, the process and its ticks left cross as one number, and all three come back. Assumes nothing.
use Rattle.kernel.proofs.Packing.{nears}
use Rattle.kernel.proofs.kernel_nearest.Goals as goal

pub returns : goal.returns
returns c = nears c.nearest.ensures c.pack_nearest.ensures
