-- `waits::alarm_at` meets its contract: the clock plus the ticks, going round, with 0 for none. Assumes nothing.
use mathlib.Core.Path.{sym}
use Rattle.model.proofs.Rules.{alarm_at}
use Rattle.waits.proofs.Waiting.{alarm_none}
use Rattle.waits.proofs.alarm_at.Goals as goal

pub returns-then-t-eq0 : goal.returns-then-t-eq0
returns-then-t-eq0 c = alarm_none c.args.now c.if-t-eq0.true

pub returns : goal.returns
returns c = sym (alarm_at c.args.now c.args.t c.if-t-eq0.false)
