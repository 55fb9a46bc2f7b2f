-- `moves::ring_at` meets its contract: the records are lent to the rings, and the queue is one of them. Assumes nothing.
use Rattle.moves.proofs.Queues.{read_queue}
use Rattle.moves.proofs.ring_at.Goals as goal

pub returns : goal.returns
returns c s q H ok here = read_queue H q ok here c.records_at-at.ensures c.next_field.ensures
