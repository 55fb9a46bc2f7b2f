-- `outcomes::codes::calling` meets its contract: somebody must run before the number is looked at. Assumes nothing.
use mathlib.Core.Path.{refl}
use Rattle.model.proofs.Tests.{eqb_yes, eqb_no}
use Rattle.outcomes.proofs.codes.calling.Goals as goal

pub returns-then-running-eq0 : goal.returns-then-running-eq0
returns-then-running-eq0 c = record { code = rw (eqb_yes c.args.running 0 c.if-running-eq0.true) refl }

pub returns : goal.returns
returns c = record { code = rw (eqb_no c.args.running 0 c.if-running-eq0.false) c.missing.ensures.code }
