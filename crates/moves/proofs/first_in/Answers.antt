-- `moves::first_in` meets its contract: the ring is the one of the queue that is there. Assumes nothing.
use Rattle.moves.proofs.first_in.Goals as goal

pub first_of-requires : goal.first_of-requires
first_of-requires c = let q = c.requires.is_queue in (_, c.ring_at-tail.ensures c.requires.held.0 q.0 c.requires.held.1 q.1 q.2)
