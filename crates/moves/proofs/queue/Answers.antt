-- `moves::queue` meets its contract: the move is made as by `send`, and the walk to p's place has counted, or p is the last of its queue, and all others are ahead. Assumes nothing.
use native.Mathlib.Omega.{arith}
use mathlib.Core.Path.{◌≡◌, sym, ◌∙◌}
use mathlib.Core.Bool.{true}
use Prim.Native.Nat.{◌+◌}
use lib.ListN.{length, take}
use Rattle.model.specs.declared.Shape.{Shape}
use Rattle.model.specs.Queue.{ahead_of}
use Rattle.model.specs.Queue.Queue.{ready}
use Rattle.model.proofs.Tests.{inside_bounds}
use Rattle.ring.specs.Ring.{Arrived}
use Rattle.ring.proofs.Rings.{ring_ahead}
use Rattle.area.specs.Layout.{records_at, at}
use Rattle.area.specs.Layout.Slot.{Tail}
use Rattle.area.specs.Holds.{Becomes, Moves, sent}
use Rattle.moves.proofs.Relinks.{lent_front, lent_image, back_stored}
use Rattle.moves.proofs.Moves.{move_waits, move_leaves, move_from, move_joins, moved, arrived, own_rank, own_small, own_waiting, sent_own, arrived_own}
use Rattle.moves.proofs.Queues.{lent_queue}
use Rattle.moves.proofs.queue.Goals as goal
use Rattle.moves.proofs.queue.Goals.{After-put_in-arrival, After-length_of-all}

pub take_out-requires : goal.take_out-requires
take_out-requires c = let pre = c.requires in (pre.0, pre.1, move_leaves (move_from pre.2 (c.ready_at-from.ensures pre.0)))

pub set_waiting-requires : goal.set_waiting-requires
set_waiting-requires c =
    let pre = c.requires in
    let m = move_from pre.2 (c.ready_at-from.ensures pre.0) in
    let out = c.take_out in
    let L = (out.ensures pre.0 pre.1 (move_leaves m)).done pre.3 in record { image = (pre.0, take (records_at pre.0) out.new.area, L.parts, lent_front pre.1 L.rings.image, lent_image pre.1 L.rings.image, m.process); is_bit = omega (arith, move_waits m) }

pub put_in-arrival-requires : goal.put_in-arrival-requires
put_in-arrival-requires c =
    let pre = c.requires in
    let m = move_from pre.2 (c.ready_at-from.ensures pre.0) in
    let out = c.take_out in
    let set = c.set_waiting in
    let L = (out.ensures pre.0 pre.1 (move_leaves m)).done pre.3 in
    let im = L.rings.image in
    let W = own_waiting m L (back_stored pre.1 im set.new.records (set.ensures pre.0 (take (records_at pre.0) out.new.area) L.parts (lent_front pre.1 im) (lent_image pre.1 im) m.process)) in
    (pre.0, pre.1, move_joins m (own_rank m) (own_small m) pre.3 L W)

-- the move is made, and p has arrived
made : (c : After-put_in-arrival) (n : Shape) → c.args.base ≡ records_at n → (m : Moves n c.args.area.now (at n (Tail ready)) c.args.to c.args.p c.args.waits) → m.stood ≡ true
    → Arrived c.args.p ((sent c.args.p m.to m.state).queues m.to) c.put_in-arrival.result.tail c.put_in-arrival.result.ahead × Becomes n c.args.area.now c.put_in-arrival.new.area (sent c.args.p m.to m.state)
made c n e m' st =
    let m = move_from m' (c.ready_at-from.ensures n) in
    let out = c.take_out in
    let set = c.set_waiting in
    let L = (out.ensures n e (move_leaves m)).done st in
    let im = L.rings.image in
    let W = own_waiting m L (back_stored e im set.new.records (set.ensures n (take (records_at n) out.new.area) L.parts (lent_front e im) (lent_image e im) m.process)) in
    let J = c.put_in-arrival.ensures n e (move_joins m (own_rank m) (own_small m) st L W) in
    (arrived_own m (arrived m (own_rank m) (own_small m) st L W J.1 J.0), sent_own m (moved m (own_rank m) (own_small m) st L W J.1))

-- where p is the last, all others are ahead
others : (c : After-length_of-all) (n : Shape) → c.args.base ≡ records_at n → (m : Moves n c.args.area.now (at n (Tail ready)) c.args.to c.args.p c.args.waits)
    → Arrived c.args.p ((sent c.args.p m.to m.state).queues m.to) c.put_in-arrival.result.tail c.put_in-arrival.result.ahead × Becomes n c.args.area.now c.put_in-arrival.new.area (sent c.args.p m.to m.state)
    → length (ahead_of c.args.p ((sent c.args.p m.to m.state).queues m.to)) + 1 ≡ c.length_of-all.result
others c n e m t =
    let R = lent_queue t.1.holds m.to {p = c.args.p} m.given_to e (omega (arith, t.0.ends, c.if-arrival-p.true)) in
    ring_ahead _ R (λ z. omega (arith, inside_bounds n.processes c.args.p m.process)) ∙ sym (c.length_of-all.ensures _ R)

pub length_of-all-requires : goal.length_of-all-requires
length_of-all-requires c =
    let pre = c.requires in
    let t = made (goal.at.length_of-all-requires c).After-put_in-arrival pre.0 pre.1 pre.2 pre.3 in
    (_, lent_queue t.1.holds pre.2.to pre.2.given_to pre.1 (omega (arith, t.0.ends, c.if-arrival-p.true)))

pub overflow_sub-result : goal.overflow_sub-result
overflow_sub-result c =
    let pre = c.requires in
    let here = goal.at.overflow_sub-result c in
    omega (arith, others here.After-length_of-all pre.0 pre.1 pre.2 (made here.After-put_in-arrival pre.0 pre.1 pre.2 pre.3))

pub returns-then-arrival-p : goal.returns-then-arrival-p
returns-then-arrival-p c n e m st =
    let here = goal.at.returns-then-arrival-p c in
    let t = made here.After-put_in-arrival n e m st in
    (omega (arith, others here.After-length_of-all n e m t), t.1)

pub returns : goal.returns
returns c n e m st = let t = made (goal.at.returns c).After-put_in-arrival n e m st in (t.0.counts c.if-arrival-p.false, t.1)
