-- `queues::listing::list` meets its contract: the place of the queue, room for it in the buffer, and the copy. There is room where the queue was counted against the buffer, and where the buffer has a word for every process: a queue holds each at most once. Assumes nothing.
use Prim.Native.Nat.{◌≤◌}
use native.Mathlib.Omega.{arith}
use lib.ListN.{length}
use Rattle.model.specs.Queue.{queue_by}
use Rattle.model.specs.Machine.{State, model}
use Rattle.model.proofs.Places.{queue_length}
use Rattle.area.specs.Holds.{Holds}
use Rattle.moves.proofs.QueueBy.{Found, some_by}
use Rattle.queues.proofs.Ways.{list_whole}
use Rattle.queues.proofs.listing.list.Goals as goal
use Rattle.queues.proofs.listing.list.Goals.{After-copy_out-arg-1, else-room-from-via-then-room-from+else-room-from-2, else-room-from-via-else-room-from}

found : (c : After-copy_out-arg-1) → Found c.args.shape c.args.kind c.args.number c.in-Some.i
found c = some_by _ _ _ c.in-Some.ensures

room : (c : After-copy_out-arg-1) (s : State model) → Holds c.args.shape c.args.area.now s → length (s.queues (queue_by c.args.kind c.args.number)) ≤ length c.args.buffer.now
room c s H = let f = found c in elim c.else-room-from.branch [
  | else-room-from-via-then-room-from+else-room-from-2 w ↦ omega (arith, w.count_in.ensures s _ H f.given f.here, w.from-then-room-from.ensures, w.if-room-from-2.false)
  | else-room-from-via-else-room-from w ↦ omega (arith, queue_length c.args.shape.processes s.queues H.placed.place H.placed.once (queue_by c.args.kind c.args.number), c.from.ensures, w.if-room-from.false)
]

pub copy_out-requires : goal.copy_out-requires
copy_out-requires c = let f = found c in let g = c.requires in (g.0, _, g.1, f.given, f.here, room c g.0 g.1)

pub returns : goal.returns
returns c s H =
    let here = (goal.at.returns c).After-copy_out-arg-1 in
    let f = found here in
    let k = c.copy_out.ensures s _ H f.given f.here in
    list_whole f.known k.0 (room here s H) k.1
