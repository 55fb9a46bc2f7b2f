-- `links::follow` meets its contract: the two writes, one after the other, and the second writes what was read before the first. Assumes nothing.
use mathlib.Core.Path.{sym, ap, ◌∙◌}
use Prim.Native.Nat.{ℕ, ◌/◌, ◌%◌}
use native.Mathlib.Omega.{arith}
use lib.ListN.{set}
use Rattle.links.specs.Link.{slot, link, next, relink, point}
use Rattle.links.proofs.Links.{next_small, point_read}
use Rattle.links.proofs.follow.Goals as goal

pub set_next-requires : goal.set_next-requires
set_next-requires c = record { stands = c.requires.newcomer_stands; is_number = omega (arith, c.next_field.ensures) }

pub returns : goal.returns
unfolding next
returns c =
    let s = c.args in
    let r = s.records.now in
    ap (set c.set_next.new.records c.link_at-at.result) c.with_next.ensures
    ∙ (λ i. set (c.set_next.ensures i) (c.link_at-at.ensures i) (relink (c.link_of-link.ensures i) s.p))
    ∙ ap (λ (k : ℕ). set (point r s.p k) (slot s.q) (relink (link r s.q) s.p)) (c.next_field.ensures ∙ ap (λ (w : ℕ). w / 8 % 1024) c.link_of-link.ensures)
    ∙ sym (point_read r s.p (next r s.q) s.q s.p (next_small r s.q))
