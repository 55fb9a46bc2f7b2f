-- `area::set_waiting` meets its contract: it is a bit of the flags. Assumes nothing.
use mathlib.Core.Path.{refl}
use Rattle.area.specs.Layout.Part.{waiting}
use Rattle.area.proofs.set_waiting.Goals as goal

pub set_flag-requires : goal.set_flag-requires
set_flag-requires c = record { image = (c.requires.image.0, c.requires.image.1, c.requires.image.2, waiting c.args.p, c.requires.image.3, c.requires.image.4, c.requires.image.5, (refl, refl, refl)); is_bit = c.requires.is_bit }

pub returns : goal.returns
returns c n front t fits im h = c.set_flag.ensures n front t (waiting c.args.p) fits im h (refl, refl, refl)
