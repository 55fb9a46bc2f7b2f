-- `area::get` meets its contract: the field is the part that lies at the place. Assumes nothing.
use mathlib.Core.Path.{◌∙◌}
use Rattle.area.specs.Layout.Part.{kept}
use Rattle.area.proofs.Stores.{place_load}
use Rattle.area.proofs.get.Goals as goal

pub returns : goal.returns
returns c n s f H L = c.part_of.ensures ∙ place_load H.image (kept f) L
