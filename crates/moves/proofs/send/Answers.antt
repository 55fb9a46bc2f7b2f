-- `moves::send` meets its contract: leaving, the waiting bit, and joining make the move, with the priority that the process has. Assumes nothing.
use native.Mathlib.Omega.{arith}
use mathlib.Core.Path.{sym, ◌∙◌}
use lib.ListN.{take}
use Rattle.area.specs.Layout.{records_at}
use Rattle.moves.proofs.Relinks.{lent_front, lent_image, back_stored}
use Rattle.moves.proofs.Tries.{did, did_not}
use Rattle.moves.proofs.Moves.{move_waits, move_leaves, move_joins, moved, own_rank, own_small, own_waiting, sent_own}
use Rattle.moves.proofs.send.Goals as goal

pub take_out-requires : goal.take_out-requires
take_out-requires c = let pre = c.requires in (pre.0, pre.1, move_leaves pre.2)

pub returns-then-not-take_out : goal.returns-then-not-take_out
returns-then-not-take_out c n e m =
    let t = c.take_out.ensures n e (move_leaves m) in
    let no = sym t.told ∙ c.if-not-take_out.true in
    did_not no (t.kept no)

pub set_waiting-requires : goal.set_waiting-requires
set_waiting-requires c =
    let pre = c.requires in
    let m = pre.2 in
    let t = c.take_out.ensures pre.0 pre.1 (move_leaves m) in
    let yes = sym t.told ∙ c.if-not-take_out.false in
    let L = t.done yes in record { image = (pre.0, take (records_at pre.0) c.take_out.new.area, L.parts, lent_front pre.1 L.rings.image, lent_image pre.1 L.rings.image, m.process); is_bit = omega (arith, move_waits m) }

pub put_in-requires : goal.put_in-requires
put_in-requires c =
    let pre = c.requires in
    let m = pre.2 in
    let t = c.take_out.ensures pre.0 pre.1 (move_leaves m) in
    let yes = sym t.told ∙ c.if-not-take_out.false in
    let L = t.done yes in
    let im = L.rings.image in
    let W = own_waiting m L (back_stored pre.1 im c.set_waiting.new.records (c.set_waiting.ensures pre.0 (take (records_at pre.0) c.take_out.new.area) L.parts (lent_front pre.1 im) (lent_image pre.1 im) m.process)) in
    (pre.0, pre.1, move_joins m (own_rank m) (own_small m) yes L W)

pub returns : goal.returns
returns c n e m =
    let t = c.take_out.ensures n e (move_leaves m) in
    let yes = sym t.told ∙ c.if-not-take_out.false in
    let L = t.done yes in
    let im = L.rings.image in
    let W = own_waiting m L (back_stored e im c.set_waiting.new.records (c.set_waiting.ensures n (take (records_at n) c.take_out.new.area) L.parts (lent_front e im) (lent_image e im) m.process)) in
    did yes (sent_own m (moved m (own_rank m) (own_small m) yes L W (c.put_in.ensures n e (move_joins m (own_rank m) (own_small m) yes L W)).1))
