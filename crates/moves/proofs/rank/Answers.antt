-- `moves::rank` meets its contract: leaving ready, the priority, and joining ready make the move. Assumes nothing.
use mathlib.Core.Path.{refl}
use lib.ListN.{take}
use Rattle.area.specs.Layout.{records_at}
use Rattle.moves.proofs.Relinks.{lent_front, lent_image, back_stored}
use Rattle.moves.proofs.Moves.{move_leaves, move_joins, moved, in_ready_lem, own_rest}
use Rattle.moves.proofs.rank.Goals as goal

pub take_out-requires : goal.take_out-requires
take_out-requires c = (c.requires.holds.0, c.requires.holds.2, move_leaves (in_ready_lem c.requires.holds.3 c.requires.holds.4 (c.ready_at-at.ensures c.requires.holds.0)))

pub set_rank-requires : goal.set_rank-requires
set_rank-requires c =
    let m = in_ready_lem c.requires.holds.3 c.requires.holds.4 (c.ready_at-at.ensures c.requires.holds.0) in
    let L = (c.take_out.ensures c.requires.holds.0 c.requires.holds.2 (move_leaves m)).done refl in record { image = (c.requires.holds.0, take (records_at c.requires.holds.0) c.take_out.new.area, L.parts, lent_front c.requires.holds.2 L.rings.image, lent_image c.requires.holds.2 L.rings.image, m.process); fits = c.requires.fits }

pub put_in-requires : goal.put_in-requires
put_in-requires c =
    let m = in_ready_lem c.requires.holds.3 c.requires.holds.4 (c.ready_at-at.ensures c.requires.holds.0) in
    let L = (c.take_out.ensures c.requires.holds.0 c.requires.holds.2 (move_leaves m)).done refl in
    let im = L.rings.image in
    let W = own_rest c.requires.holds.3 c.requires.holds.4 c.args.v L (back_stored c.requires.holds.2 im c.set_rank.new.records (c.set_rank.ensures c.requires.holds.0 (take (records_at c.requires.holds.0) c.take_out.new.area) L.parts (lent_front c.requires.holds.2 im) (lent_image c.requires.holds.2 im) m.process)) in
    (c.requires.holds.0, c.requires.holds.2, move_joins m c.args.v c.requires.fits refl L W)

pub returns : goal.returns
returns c n s e H stands =
    let v = c.args.v in
    let m = in_ready_lem H stands (c.ready_at-at.ensures n) in
    let L = (c.take_out.ensures n e (move_leaves m)).done refl in
    let im = L.rings.image in
    let W = own_rest H stands v L (back_stored e im c.set_rank.new.records (c.set_rank.ensures n (take (records_at n) c.take_out.new.area) L.parts (lent_front e im) (lent_image e im) m.process)) in
    moved m v c.requires.fits refl L W (c.put_in.ensures n e (move_joins m v c.requires.fits refl L W)).1
