-- `Yard::wakeup_in` meets its contract: a condition's word is read, and no other queue has a wakeup. Assumes nothing.
use mathlib.Core.Path.{◌∙◌}
use Rattle.model.specs.Field.Field.{wakeup}
use Rattle.sheet.proofs.Rows.{condition_wakeup}
use Rattle.sheet.proofs.Yard.wakeup_in.Goals as goal

pub returns-in-3 : goal.returns-in-3
returns-in-3 c = let a = c.args in rw (← c.self.view_is) (λ s H. c.get.ensures c.self.inside.shape s (wakeup a.number) H c.wakeup.ensures ∙ condition_wakeup s a.kind a.number c.in-3.is)
