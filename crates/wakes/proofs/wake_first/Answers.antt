-- `wakes::wake_first` meets its contract: nobody waits, or the first wakes. Assumes nothing.
use Rattle.model.specs.Queue.Queue.{condition}
use Rattle.moves.proofs.Numbers.{first_there, first_inside}
use Rattle.wakes.proofs.Waking.{first_none, first_wakes}
use Rattle.wakes.proofs.wake_first.Goals as goal

pub returns-then-first-eq0 : goal.returns-then-first-eq0
returns-then-first-eq0 c s H = first_none H c.args.condition (c.first_in-first.ensures s (condition c.args.condition) H c.requires.is_condition c.condition_at-at.ensures) c.if-first-eq0.true

pub rouse-requires : goal.rouse-requires
rouse-requires c = let q = condition c.args.condition in record { held = c.requires.held; is_condition = c.requires.is_condition; is_process = first_inside c.requires.held.1 q (c.first_in-first.ensures _ q c.requires.held.1 c.requires.is_condition c.condition_at-at.ensures) c.if-first-eq0.false }

pub returns : goal.returns
returns c s H =
    let q = condition c.args.condition in
    let e = c.first_in-first.ensures s q H c.requires.is_condition c.condition_at-at.ensures in
    first_wakes H c.args.condition e c.if-first-eq0.false ((c.rouse.ensures s H).done (first_there H q e c.if-first-eq0.false))
