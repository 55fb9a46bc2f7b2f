-- `moves::queue_at` meets its contract: ready's tail stands at one place in every area. Assumes nothing.
use native.Mathlib.Omega.{arith}
use mathlib.Core.Path.{◌≡◌}
use Rattle.model.specs.Queue.Queue.{ready}
use Rattle.area.specs.Layout.{at}
use Rattle.area.specs.Layout.Slot.{Tail}
use Rattle.moves.proofs.queue_at.Goals as goal

pub returns-in-0 : goal.returns-in-0
returns-in-0 c = let here : c.ready_at.result ≡ at c.args.shape (Tail ready) = c.ready_at.ensures c.args.shape in grind arith
