-- `moves::put_in` meets its contract: the records are lent to the rings, and what comes back changes one ring. Assumes nothing.
use Rattle.moves.proofs.Relinks.{lent_join, back_arrived, back_join}
use Rattle.ring.proofs.Rings.{ring_tail_small}
use Rattle.moves.proofs.put_in.Goals as goal

pub join-arrival-requires : goal.join-arrival-requires
join-arrival-requires c =
    let pre = c.requires in
    let L = lent_join pre.2 pre.1 c.next_field.ensures in record { stands = L.0; in_ring = (_, L.1, L.2, pre.2.out pre.2.queue) }

pub with_next-requires : goal.with_next-requires
with_next-requires c =
    let pre = c.requires in
    let L = lent_join pre.2 pre.1 c.next_field.ensures in
    ring_tail_small _ (c.join-arrival.ensures _ L.1 L.2 (pre.2.out pre.2.queue)).0.ring

pub returns : goal.returns
returns c n e j =
    let reads = c.next_field.ensures in
    let join = c.join-arrival in
    let L = lent_join j e reads in
    let J = join.ensures _ L.1 L.2 (j.out j.queue) in
    (back_arrived j e _ _ J.1, back_join j e reads join.new.records _ c.with_next.result J.0 c.with_next.ensures)
