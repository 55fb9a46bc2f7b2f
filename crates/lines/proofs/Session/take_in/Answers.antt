-- Of a piece as much is fed as was lent. Assumes nothing.
use Rattle.lines.proofs.Feeding.{takes_piece}
use Rattle.lines.proofs.Session.take_in.Goals as goal

pub returns-in-Some-clause-takes_in : goal.returns-in-Some-clause-takes_in
returns-in-Some-clause-takes_in c = rw (c.in-Some.is) (takes_piece c.args.chunk.now c.in-Some.n (rw c.in-Some.is at c.in-Some.n-test.1) (rw (← c.min.ensures) c.feed.ensures.feeds))
