-- `Walker::new` meets its contract: whoever stands at the tail has the whole ring to come. Assumes nothing.
use mathlib.Core.Path.{refl}
use Rattle.ring.proofs.Way.{walks_start, ring_way}
use Rattle.ring.proofs.walker.Walker.new.Goals as goal

pub returns-clause-walks : goal.returns-clause-walks
returns-clause-walks c xs R h = (walks_start _ xs R h refl, record { whole = ring_way xs R h })
