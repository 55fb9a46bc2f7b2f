-- `area::set_rank` meets its contract: the link stands in the records, and its priority is written. Assumes nothing.
use native.Mathlib.Omega.{arith}
use mathlib.Core.Path.{refl}
use Rattle.area.proofs.Lent.{lent_rank}
use Rattle.area.proofs.set_rank.Goals as goal

pub with_part-requires : goal.with_part-requires
with_part-requires c = (omega arith, omega arith, (13, refl), omega (arith, c.slice_known-2-1.given c.link_at-at.result, c.requires.fits))

pub returns : goal.returns
returns c n front t fits im h = rw c.link_at-at.ensures (lent_rank front _ fits im h _ _ c.requires.fits (rw c.link_at-at.ensures at c.with_part.ensures))
