-- `wakes::rouse` meets its contract: the process is sent to ready, if it stands in the condition, and its timer and its armed are put to 0. Assumes nothing.
use native.Mathlib.Omega.{arith}
use mathlib.Core.Path.{refl, sym, ◌∙◌}
use Rattle.model.specs.Queue.Queue.{ready, condition}
use Rattle.model.specs.Field.Field.{armed, timer}
use Rattle.area.proofs.Puts.{becomes_then}
use Rattle.moves.proofs.Shared.{taking, trying}
use Rattle.moves.proofs.Tries.{did, did_not}
use Rattle.wakes.proofs.rouse.Goals as goal

pub send-requires : goal.send-requires
send-requires c = (c.args.shape, c.records_at-base.ensures, trying c.requires.held.1 (condition c.args.condition) ready c.requires.is_condition refl c.condition_at-from.ensures (c.ready_at-to.ensures c.args.shape) c.requires.is_process refl)

pub returns-then-not-send : goal.returns-then-not-send
returns-then-not-send c s H =
    let n = c.args.shape in
    let t = c.send.ensures n c.records_at-base.ensures (trying H (condition c.args.condition) ready c.requires.is_condition refl c.condition_at-from.ensures (c.ready_at-to.ensures n) c.requires.is_process refl) in
    let no = sym t.told ∙ c.if-not-send.true in
    did_not no (t.kept no)

pub put-requires : goal.put-requires
put-requires c =
    let n = c.args.shape in
    let t = c.send.ensures n c.records_at-base.ensures (trying c.requires.held.1 (condition c.args.condition) ready c.requires.is_condition refl c.condition_at-from.ensures (c.ready_at-to.ensures n) c.requires.is_process refl) in
    let b = t.done (sym t.told ∙ c.if-not-send.false) in
    let L = c.timer.ensures in
    (n, timer c.args.p, (_, b.holds), taking (timer c.args.p) L refl (rw L.0 (omega arith)))

pub put-requires-2 : goal.put-requires-2
put-requires-2 c =
    let n = c.args.shape in
    let t = c.send.ensures n c.records_at-base.ensures (trying c.requires.held.1 (condition c.args.condition) ready c.requires.is_condition refl c.condition_at-from.ensures (c.ready_at-to.ensures n) c.requires.is_process refl) in
    let b = t.done (sym t.told ∙ c.if-not-send.false) in
    let L = c.timer.ensures in
    let d = c.put.ensures n _ (timer c.args.p) b.holds (taking (timer c.args.p) L refl (rw L.0 (omega arith))) in
    let K = c.armed.ensures in
    (n, armed c.args.p, (_, d.holds), taking (armed c.args.p) K refl (rw K.0 (omega arith)))

pub returns : goal.returns
returns c s H =
    let n = c.args.shape in
    let t = c.send.ensures n c.records_at-base.ensures (trying H (condition c.args.condition) ready c.requires.is_condition refl c.condition_at-from.ensures (c.ready_at-to.ensures n) c.requires.is_process refl) in
    let yes = sym t.told ∙ c.if-not-send.false in
    let b = t.done yes in
    let L = c.timer.ensures in
    let d = becomes_then b (c.put.ensures n _ (timer c.args.p) b.holds (taking (timer c.args.p) L refl (rw L.0 (omega arith)))) in
    let K = c.armed.ensures in
    did yes (becomes_then d (c.put-2.ensures n _ (armed c.args.p) d.holds (taking (armed c.args.p) K refl (rw K.0 (omega arith)))))
