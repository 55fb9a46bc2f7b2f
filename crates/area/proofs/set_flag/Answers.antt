-- `area::set_flag` meets its contract: the flags stand in the records, and one bit of them is written. Assumes nothing.
use native.Mathlib.Omega.{arith}
use Rattle.area.proofs.Lent.{lent_flag_room, lent_flag}
use Rattle.area.proofs.set_flag.Goals as goal

pub with_part-requires : goal.with_part-requires
with_part-requires c =
    let r = lent_flag_room c.requires.image.1 _ c.requires.image.4 c.requires.image.5 c.requires.image.6 c.requires.image.3 c.requires.image.7 c.requires.is_bit in
    (omega arith, r.0, r.1, rw c.link_at-at.ensures r.2)

pub returns : goal.returns
returns c n front t f fits im h F = rw c.link_at-at.ensures (lent_flag front _ fits im h f F c.requires.is_bit _ (rw c.link_at-at.ensures at c.with_part.ensures))
