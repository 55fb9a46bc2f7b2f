-- `queues::requeue` meets its contract: the process moves from one of ready and the parks to another, by the rule of Requeue. Assumes nothing.
use mathlib.Core.Path.{refl, sym, ◌∙◌}
use Rattle.outcomes.proofs.Outcomes.{refusing, passed_on, missing_there}
use Rattle.queues.proofs.Requeues.{between, not_ready, requeue_none, requeue_missing, requeue_absent, requeue_moves}
use Rattle.queues.proofs.requeue.Goals as goal

pub returns-then-shape-source : goal.returns-then-shape-source
returns-then-shape-source c s H v = requeue_none H _ _ _ c.then-shape-source.either

pub returns-in_err-missing : goal.returns-in_err-missing
returns-in_err-missing c s H v = requeue_missing H _ _ _ c.if-shape-source.false c.if-shape-destination.false c.in_err-missing.ensures (refusing _) (passed_on _ _ c.from_residual.ensures.1)

pub send-requires : goal.send-requires
send-requires c =
    let u = c.args in
    let n = u.shape in
    (n, c.records_at-base.ensures, between u.source u.destination c.requires.holds c.if-shape-source.false c.if-shape-destination.false (c.park_at-from.ensures n) (c.park_at-to.ensures n) (missing_there c.in_ok-missing.ensures refl))

pub returns-then-not-send : goal.returns-then-not-send
returns-then-not-send c s H v =
    let u = c.args in
    let n = u.shape in
    let x = c.if-shape-source.false in
    let y = c.if-shape-destination.false in
    let i = missing_there c.in_ok-missing.ensures refl in
    let t = c.send.ensures n c.records_at-base.ensures (between u.source u.destination H x y (c.park_at-from.ensures n) (c.park_at-to.ensures n) i) in
    let no = sym t.told ∙ c.if-not-send.true in
    requeue_absent H _ _ _ x y i (t.kept no) no

pub finish-requires : goal.finish-requires
finish-requires c =
    let u = c.args in
    let n = u.shape in
    let i = missing_there c.in_ok-missing.ensures refl in
    let t = c.send.ensures n c.records_at-base.ensures (between u.source u.destination c.requires.holds c.if-shape-source.false c.if-shape-destination.false (c.park_at-from.ensures n) (c.park_at-to.ensures n) i) in
    (_, (t.done (sym t.told ∙ c.if-not-send.false)).holds)

pub returns : goal.returns
returns c s H v =
    let u = c.args in
    let n = u.shape in
    let x = c.if-shape-source.false in
    let y = c.if-shape-destination.false in
    let i = missing_there c.in_ok-missing.ensures refl in
    let t = c.send.ensures n c.records_at-base.ensures (between u.source u.destination H x y (c.park_at-from.ensures n) (c.park_at-to.ensures n) i) in
    let m = sym t.told ∙ c.if-not-send.false in
    let b = t.done m in
    requeue_moves H _ _ _ x y i m (c.arrives.ensures u.process.0 s.queues m (not_ready H u.source u.process.0 m)) b (c.finish.ensures _ b.holds)
