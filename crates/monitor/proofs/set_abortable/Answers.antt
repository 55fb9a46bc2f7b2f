-- `monitor::set_abortable` meets its contract: an unsound area is refused, and on a sound one the call does its rule. Assumes nothing.
use Rattle.sound.proofs.Asked.{stands_at}
use Rattle.monitor.proofs.Performs.{performs_not, performs_at}
use Rattle.monitor.proofs.set_abortable.Goals as goal

pub returns-in_err-shape : goal.returns-in_err-shape
returns-in_err-shape c = performs_not c.in_err-shape.ensures c.from_residual.result c.from_residual.ensures.1

pub set_abortable-requires : goal.set_abortable-requires
set_abortable-requires c = stands_at c.in_ok-shape.ensures

pub returns : goal.returns
returns c = performs_at c.in_ok-shape.ensures c.set_abortable.ensures
