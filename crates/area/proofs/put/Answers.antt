-- `area::put` meets its contract: nothing else that the state prescribes goes by the field. Assumes nothing.
use native.Mathlib.Omega.{arith}
use Rattle.area.specs.Layout.Part.{kept}
use Rattle.area.specs.State.{laid}
use Rattle.area.proofs.Fields.{takes_fits, takes}
use Rattle.area.proofs.put.Goals as goal

pub store-requires : goal.store-requires
store-requires c = let h = c.requires in (h.0, laid h.0 h.2.0, kept h.1, h.2.1.image, h.3.lies, omega (arith, takes_fits h.2.1 h.1 h.3))

pub returns : goal.returns
returns c n s f H T = takes H f T (c.store.ensures n (laid n s) (kept f) H.image T.lies (omega (arith, takes_fits H f T)))
