-- `moves::take_out` meets its contract: the records are lent to the rings, and what comes back changes one ring. Assumes nothing.
use mathlib.Core.Path.{refl, sym, ◌∙◌}
use Rattle.ring.proofs.Rings.{before_none, before_some, ring_tail_small}
use Rattle.moves.proofs.Relinks.{leaves_ring, left_relinks, left_stays}
use Rattle.moves.proofs.Tries.{did, did_not}
use Rattle.moves.proofs.take_out.Goals as goal

pub before-prev-requires : goal.before-prev-requires
before-prev-requires c =
    let pre = c.requires in
    (_, leaves_ring pre.2 _ _ pre.1 c.next_field-tail.ensures)

pub returns-then-prev-eq0 : goal.returns-then-prev-eq0
returns-then-prev-eq0 c n e j =
    let R = leaves_ring j _ _ e c.next_field-tail.ensures in
    did_not (sym j.stands ∙ before_none _ _ R (c.before-prev.ensures _ R) c.if-prev-eq0.true) refl

pub leave-new-requires : goal.leave-new-requires
leave-new-requires c =
    let pre = c.requires in
    let next_field = c.next_field-tail in
    let j = pre.2 in
    let R = leaves_ring j _ _ pre.1 next_field.ensures in
    let b = before_some next_field.result c.args.p (j.queues j.queue) (c.before-prev.ensures _ R) c.if-prev-eq0.false in
    (_, R, b.0, b.1)

pub returns-then-new-tail : goal.returns-then-new-tail
returns-then-new-tail c n e j =
    let next_field = c.next_field-tail in
    let leave = c.leave-new in
    let R = leaves_ring j _ _ e next_field.ensures in
    let b = before_some next_field.result c.args.p (j.queues j.queue) (c.before-prev.ensures _ R) c.if-prev-eq0.false in
    did (sym j.stands ∙ b.0) (left_stays j c.args.base next_field.result e next_field.ensures b.0 leave.new.records leave.result (leave.ensures _ R b.0 b.1) c.if-new-tail.true)

pub with_next-requires : goal.with_next-requires
with_next-requires c =
    let pre = c.requires in
    let next_field = c.next_field-tail in
    let j = pre.2 in
    let R = leaves_ring j _ _ pre.1 next_field.ensures in
    let b = before_some next_field.result c.args.p (j.queues j.queue) (c.before-prev.ensures _ R) c.if-prev-eq0.false in
    ring_tail_small _ (c.leave-new.ensures _ R b.0 b.1).ring

pub returns : goal.returns
returns c n e j =
    let next_field = c.next_field-tail in
    let leave = c.leave-new in
    let R = leaves_ring j _ _ e next_field.ensures in
    let b = before_some next_field.result c.args.p (j.queues j.queue) (c.before-prev.ensures _ R) c.if-prev-eq0.false in
    did (sym j.stands ∙ b.0)
    (left_relinks j c.args.base next_field.result e next_field.ensures b.0 leave.new.records leave.result c.with_next.result (leave.ensures _ R b.0 b.1) c.with_next.ensures)
