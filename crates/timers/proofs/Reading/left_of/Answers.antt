-- `Reading::left_of` meets its contract: who is not armed has none left, and the ticks to a timer are those left, but for a timer at the clock. Assumes nothing.
use Rattle.std.proofs.Common.{◌≢◌, ap, arith}
use Rattle.model.specs.Field.Field.{armed}
use Rattle.timers.specs.Telling.{nonzero}
use Rattle.timers.proofs.Left.{left_none, left_round, left_far, nonzero_some}
use Rattle.timers.proofs.Reading.left_of.Goals as goal

pub returns-then-get-eq0 : goal.returns-then-get-eq0
returns-then-get-eq0 c = rw (← c.self.view_is) (λ s S. let n = c.self.inside.shape in ap nonzero (left_none n s c.args.p (c.get.ensures n s (armed c.args.p) S.holds c.armed.ensures) c.if-get-eq0.true))

pub returns-in-0 : goal.returns-in-0
returns-in-0 c = rw (← c.self.view_is) (λ s S. let n = c.self.inside.shape in ap nonzero (left_round n s c.args.p (c.get.ensures n s (armed c.args.p) S.holds c.armed.ensures) S.valid S.now c.if-get-eq0.false (c.ticks_ahead.ensures s S.holds) c.in-0.is))

pub returns-in_default : goal.returns-in_default
returns-in_default c =
    let some : c.ticks_ahead.result ≢ 0 = λ e. omega arith in
    rw (← c.self.view_is) (λ s S. let n = c.self.inside.shape in rw c.from.ensures (nonzero_some (left_far n s c.args.p (c.get.ensures n s (armed c.args.p) S.holds c.armed.ensures) S.valid S.now c.if-get-eq0.false (c.ticks_ahead.ensures s S.holds) some) some))
