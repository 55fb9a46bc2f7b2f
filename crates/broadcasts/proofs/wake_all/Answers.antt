-- `broadcasts::wake_all` meets its contract: nobody waits, or all leave the condition at once and wake along the chain that they still make. Assumes nothing.
use Rattle.model.specs.Queue.Queue.{condition}
use Rattle.broadcasts.proofs.Crowding.{sleepers_wake, sleepers_chain, sleepers_woken, nobody_woken}
use Rattle.broadcasts.proofs.wake_all.Goals as goal

pub returns-then-first-eq0 : goal.returns-then-first-eq0
returns-then-first-eq0 c s k H given here = nobody_woken H k (c.first_in-first.ensures s (condition k) H given here) c.if-first-eq0.true

pub wake_chain-requires : goal.wake_chain-requires
wake_chain-requires c =
    let q = c.requires in
    let H = q.1.1 in
    let E = c.empty-last.ensures q.1.0 (condition q.0) H q.2 q.3 in
    (_, sleepers_wake H q.0 E, sleepers_chain H q.0 E q.2 (c.first_in-first.ensures q.1.0 (condition q.0) H q.2 q.3), E.tail)

pub returns : goal.returns
returns c s k H given here =
    let E = c.empty-last.ensures s (condition k) H given here in
    let W = c.wake_chain.ensures _ (sleepers_wake H k E) (sleepers_chain H k E given (c.first_in-first.ensures s (condition k) H given here)) E.tail in
    (W.0, sleepers_woken H k E W.1)
