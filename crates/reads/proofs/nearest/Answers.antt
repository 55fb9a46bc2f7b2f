-- `reads::nearest` meets its contract: an unsound area is refused, and a sound one holds the state that it says, of which is told. Assumes nothing.
use mathlib.Core.Path.{refl}
use Rattle.sound.proofs.Asked.{stands_at}
use Rattle.reads.proofs.Reading.{nearest_not, nearest_at}
use Rattle.reads.proofs.nearest.Goals as goal

pub nearest-requires : goal.nearest-requires
nearest-requires c = stands_at c.in-Ok.ensures

pub returns-in-Ok : goal.returns-in-Ok
returns-in-Ok c = nearest_at c.in-Ok.ensures c.nearest.ensures

pub returns-in-Err : goal.returns-in-Err
returns-in-Err c = nearest_not c.in-Err.ensures (rw (c.from-in-Err.ensures, c.from.ensures) refl)
