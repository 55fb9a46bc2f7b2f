-- `start::tested` meets its contract: the tests in their order. Assumes nothing.
use mathlib.Core.Path.{sym, ◌∙◌}
use Rattle.start.proofs.Started.{code_counts, code_list, code_priority, code_none}
use Rattle.start.proofs.tested.Goals as goal

pub returns-then-not-in_range : goal.returns-then-not-in_range
returns-then-not-in_range c = code_counts c.args.shape c.args.priorities.now (sym c.if-not-in_range.ensures)

pub returns-then-priorities-from : goal.returns-then-priorities-from
returns-then-priorities-from c = code_list c.args.shape c.args.priorities.now (sym c.if-not-in_range.ensures) (λ e. c.if-priorities-from.true (e ∙ sym c.from.ensures))

pub returns-then-one_above : goal.returns-then-one_above
returns-then-one_above c = code_priority c.args.shape c.args.priorities.now (sym c.if-not-in_range.ensures) (c.if-priorities-from.false ∙ c.from.ensures) (sym c.if-one_above.ensures)

pub returns : goal.returns
returns c = code_none c.args.shape c.args.priorities.now (sym c.if-not-in_range.ensures) (c.if-priorities-from.false ∙ c.from.ensures) (sym c.if-one_above.ensures)
