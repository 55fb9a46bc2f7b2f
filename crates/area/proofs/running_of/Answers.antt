-- `area::running_of` meets its contract: who runs is read from its word. Assumes nothing.
use mathlib.Core.Path.{refl, ◌∙◌}
use Rattle.model.specs.Field.Field.{running}
use Rattle.area.specs.Layout.Part.{kept}
use Rattle.area.proofs.Stores.{load}
use Rattle.area.proofs.running_of.Goals as goal

pub returns : goal.returns
returns c n s H = c.next_field.ensures ∙ load _ _ _ H.image (kept running) refl
