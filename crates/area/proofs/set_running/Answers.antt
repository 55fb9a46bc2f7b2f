-- `area::set_running` meets its contract: the word has nothing but who runs. Assumes nothing.
use Rattle.area.proofs.Fields.{takes_runner}
use Rattle.area.proofs.set_running.Goals as goal

pub returns : goal.returns
returns c n s H h = takes_runner H _ h
