-- `locks::again::called_off` meets its contract: both bits are read, abort first. Assumes nothing.
use Rattle.model.specs.Field.Field.{abort, abortable}
use Rattle.locks.proofs.Reentry.{off_clear, off_set}
use Rattle.locks.proofs.again.called_off.Goals as goal

pub abort-requires : goal.abort-requires
abort-requires c = c.requires.is_process

pub get-requires : goal.get-requires
get-requires c = (c.args.shape, abort c.args.p, c.requires.held, c.abort.ensures)

pub returns-else-get-ne0 : goal.returns-else-get-ne0
returns-else-get-ne0 c s H = off_clear (c.get.ensures c.args.shape s (abort c.args.p) H c.abort.ensures) _ c.if-get-ne0.false

pub abortable-requires : goal.abortable-requires
abortable-requires c = c.requires.is_condition

pub get-requires-then-get-ne0 : goal.get-requires-then-get-ne0
get-requires-then-get-ne0 c = (c.args.shape, abortable c.args.condition, c.requires.held, c.abortable.ensures)

pub returns-then-get-ne0 : goal.returns-then-get-ne0
returns-then-get-ne0 c s H =
    off_set (c.get.ensures c.args.shape s (abort c.args.p) H c.abort.ensures) c.if-get-ne0.true
    (c.get-then-get-ne0.ensures c.args.shape s (abortable c.args.condition) H c.abortable.ensures)
