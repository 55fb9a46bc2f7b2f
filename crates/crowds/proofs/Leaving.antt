-- Many leave: a ring swept by its members' timers, or emptied. Only the links and the tail of the ring at hand change, so the area stays
-- one in the midst of a wake. Assumes nothing.
use Prim.Native.Nat.{ℕ, ◌-◌, ◌/◌, ◌%◌, ◌<◌}
use native.Mathlib.Omega.{arith}
use borrow.Rule.Slice.PartMut.{mid_of, put_mid}
use mathlib.Core.Path.{◌≡◌, refl, sym, ap, ◌∙◌, subst, fun_ext}
use mathlib.Core.Bool.{true, not, ◌&&◌, false≢true}
use mathlib.Core.List.{List, [], ◌++◌}
use lib.Dec.{eqb}
use lib.ListN.{length, get_or, set, take, take-append-drop}
use Rattle.model.specs.declared.Shape.{Shape}
use Rattle.model.specs.Queue.{Queue, inside, exists, member, filter}
use Rattle.model.specs.Field.{Fields, some, priorities}
use Rattle.model.specs.Field.Field.{armed, timer}
use Rattle.model.specs.Rules.{rings}
use Rattle.model.specs.Machine.{State, model}
use Rattle.model.proofs.Tests.{holds, fails, SameCase, same_case, denied}
use Rattle.model.proofs.Lists.{filter_member, falling_filter}
use Rattle.model.proofs.Many.{filter_agree}
use Rattle.links.specs.Link as link
use Rattle.links.specs.Link.{relink}
use Rattle.ring.specs.Ring.{Ring, Kept}
use Rattle.ring.proofs.Frame.{kept_ring}
use Rattle.ring.proofs.Rings.{ring_empty, ring_tail_small}
use Rattle.many.specs.Many.{Swept}
use Rattle.area.specs.Layout.{records_at, at}
use Rattle.area.specs.Layout.Part.{tail}
use Rattle.area.specs.Layout.Slot.{Tail}
use Rattle.area.specs.State.{last, laid}
use Rattle.area.specs.Holds.{Holds}
use Rattle.area.specs.Rings.{records, swap, Relinked}
use Rattle.area.specs.Loose.{Loose}
use Rattle.crowds.specs.Crowds.{Emptied, swept}
use Rattle.area.proofs.Stores.{load_at}
use Rattle.area.proofs.Records.{part_back, rings_said}
use Rattle.moves.proofs.Relinks.{lent, lent_ring, back_set, relink_ring}
use Rattle.moves.proofs.Loose.{loose_of, loose_relinked}

-- a queue changed to what it is
pub swap_own : (qs : Queue → List ℕ) (q : Queue) → swap qs q (qs q) ≡ qs
swap_own qs q = fun_ext (λ o. go o (same_case q o))
  where
    go : (o : Queue) → SameCase q o → swap qs q (qs q) o ≡ qs o
    go o (holds e z) = rw z (ap {A = Queue} (λ x. qs x) e)
    go o (fails e z) = rw z

-- ---- a sweep

module _ {n : Shape} {old ws : List ℕ} {f : Fields} {qs : Queue → List ℕ} (L : Loose n old ws f qs) (q : Queue) {i : ℕ} (given : exists n q ≡ true) (here : i ≡ at n (Tail q)) (a w : ℕ) (at_records : a ≡ records_at n) (reads : w ≡ get_or ws i 0 / 8 % 1024) where
  pub loose_ring : Ring (mid_of a (length ws - a) ws) w (qs q)
  loose_ring = lent_ring q L.rings given here at_records reads

  -- whose timer rings in the words rings by the fields
  by_fields : (time x : ℕ) → inside n.processes x ≡ true → link.rings (mid_of a (length ws - a) ws) time x ≡ rings f time x
  by_fields time x h =
      ap (λ (r : List ℕ). link.rings r time x) (lent n ws at_records) ∙ rings_said n ws L.parts L.rings.image x h time
      ∙ (λ i. some (L.fields (armed x) i) && eqb (L.fields (timer x) i) time)

  pub loose_swept : (time : ℕ) (r : List ℕ) (u v : ℕ) → Swept (mid_of a (length ws - a) ws) r time u (qs q) → v ≡ relink (get_or ws i 0) u
      → Loose n old (set (put_mid a (length ws - a) ws r) i v) f (swept f time qs q)
  loose_swept time r u v S e =
      rw (part_back a ws r, at_records)
      (loose_relinked q xs L
      (λ x m. L.waits q x (there x m))
      (falling_filter (priorities f) (λ x. not (rings f time x)) (qs q) (L.falls q))
      (relink_ring n ws L.parts qs q L.rings given xs r (qs q) u i v
      (λ x m. L.rings.own q x (there x m))
      (λ x o m k. L.rings.one q o x (there x m) k)
      (λ x m. L.rings.own q x m)
      (subst (λ (z : List ℕ). Kept z r (qs q)) (lent n ws at_records) S.kept)
      ring
      (λ o h d. kept_ring S.kept (last (qs o)) (qs o) (λ x m. denied (member x (qs q)) (λ k. d (L.rings.one q o x k m))) (subst (λ (z : List ℕ). Ring z (last (qs o)) (qs o)) (sym (lent n ws at_records)) (L.rings.rings o h)))
      (ring_tail_small xs ring) here e))
    where
      xs : List ℕ
      xs = filter (λ x. not (rings f time x)) (qs q)

      ring : Ring r u xs
      ring = subst (λ (ys : List ℕ). Ring r u ys) (filter_agree (λ x. not (link.rings (mid_of a (length ws - a) ws) time x)) (λ x. not (rings f time x)) (qs q) (λ x m. ap not (by_fields time x (L.rings.own q x m)))) S.ring

      there : (x : ℕ) → member x xs ≡ true → member x (qs q) ≡ true
      there x m = (filter_member (λ x. not (rings f time x)) x (qs q) m).0

-- a word below 8 names nobody: its queue is empty, and a sweep of it changes nothing
pub loose_empty : {n : Shape} {old ws : List ℕ} {f : Fields} {qs : Queue → List ℕ} (L : Loose n old ws f qs) (q : Queue) {i : ℕ} → exists n q ≡ true → i ≡ at n (Tail q) → (time : ℕ) → get_or ws i 0 < 8
    → Loose n old ws f (swept f time qs q)
loose_empty {n} {old} {ws} {f} {qs} L q given here time low =
    let none : qs q ≡ [] = ring_empty (qs q) (loose_ring L q given here _ _ refl refl) (omega arith) in
    subst (Loose n old ws f) (sym (ap (swap qs q) (ap (filter (λ x. not (rings f time x))) none ∙ sym none) ∙ swap_own qs q)) L

-- ---- all leave

-- the ring of nobody
ring_none : (r : List ℕ) → Ring r 0 []
ring_none r = record { linked = tt; ends = refl; stand = λ x m. absurd (false≢true m); once = λ x. omega arith }

-- nothing has changed
kept_none : (r : List ℕ) → Kept r r []
kept_none r = record { long = refl; high = λ i. refl; low = λ i. refl; words = λ i h. refl; links = λ q b m. refl }

pub emptied : {n : Shape} {ws : List ℕ} {s : State model} → Holds n ws s → (q : Queue) {i v t : ℕ} → exists n q ≡ true → i ≡ at n (Tail q) → t ≡ get_or ws i 0 / 8 % 1024 → v ≡ relink (get_or ws i 0) 0
    → Emptied n ws (set ws i v) s q t
emptied {n} {ws} {s} H q {i} {v} {t} given here reads writes = record {
  tail = reads ∙ load_at n ws (laid n s) H.image (tail q) i given here 8 1024 refl refl;
  loose = loose_relinked q [] L
      (λ x m. absurd (false≢true m))
      tt
      (subst (λ (l : List ℕ). Relinked n ws (set l i v) L.parts s.queues q []) whole
      (relink_ring n ws L.parts s.queues q L.rings given [] (records n ws) [] 0 i v
      (λ x m. absurd (false≢true m))
      (λ x o m k. absurd (false≢true m))
      (λ x m. absurd (false≢true m))
      (kept_none (records n ws))
      (ring_none (records n ws))
      (λ o h d. L.rings.rings o h)
      (omega arith) here writes));
  same = ap (λ (l : List ℕ). records n (set l i v)) (sym whole) ∙ back_set n ws L.parts s.queues q L.rings given (records n ws) i v here;
}
  where
    L : Loose n ws ws s.fields s.queues
    L = loose_of H

    whole : take (records_at n) ws ++ records n ws ≡ ws
    whole = take-append-drop (records_at n) ws
