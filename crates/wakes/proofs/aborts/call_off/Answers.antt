-- `wakes::aborts::call_off` meets its contract: a condition that is not abortable is passed, and off another the process wakes. Assumes nothing.
use mathlib.Core.Path.{refl}
use Rattle.model.specs.Field.Field.{abortable}
use Rattle.moves.proofs.Tries.{did_not}
use Rattle.wakes.proofs.Aborting.{deaf, heard}
use Rattle.wakes.proofs.aborts.call_off.Goals as goal

pub get-allowed-requires : goal.get-allowed-requires
get-allowed-requires c = (c.args.shape, abortable c.args.condition, c.requires.held, c.abortable.ensures)

pub returns-then-allowed-eq0 : goal.returns-then-allowed-eq0
returns-then-allowed-eq0 c s H = did_not (deaf (c.get-allowed.ensures c.args.shape s (abortable c.args.condition) H c.abortable.ensures) _ c.if-allowed-eq0.true) refl

pub returns : goal.returns
returns c s H = heard (c.get-allowed.ensures c.args.shape s (abortable c.args.condition) H c.abortable.ensures) c.if-allowed-eq0.false (c.rouse.ensures s H)
