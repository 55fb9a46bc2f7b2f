-- One ring becomes another list, and its tail word is written: the other rings stay, since the change touches the links of this one alone.
-- Assumes nothing.
use Prim.Native.Nat.{ℕ, ◌+◌, ◌-◌, ◌*◌, ◌/◌, ◌%◌, ◌<◌}
use native.Mathlib.Omega.{arith}
use borrow.Rule.Slice.PartMut.{mid_of, put_mid}
use mathlib.Core.Path.{◌≡◌, refl, sym, ap, ◌∙◌, subst}
use mathlib.Core.Bool.{true, false, true≢false}
use mathlib.Core.Logic.{◌≢◌}
use mathlib.Core.List.{List, ◌∷◌, ◌++◌}
use lib.Dec.{eqb}
use lib.ListN.{length, get_or, drop, take, set, take-append-drop}
use lib.Seq.{drop-set-lt, length-take-le, drop-append_seam, set-get_or}
use Rattle.model.specs.declared.Shape.{Shape}
use Rattle.model.specs.Queue.{Queue, inside, exists, member, remove, insert, Falling}
use Rattle.model.specs.Queue.Queue.{ready, park, lock, condition}
use Rattle.model.proofs.Tests.{holds, fails, SameCase, same_case, EqCase, eqb_case, inside_bounds, denied}
use Rattle.model.proofs.Lists.{remove_member, insert_member}
use Rattle.links.specs.Link as link
use Rattle.links.specs.Link.{relink, Stands}
use Rattle.ring.specs.Ring.{Ring, Kept, Left, Joined, Arrived}
use Rattle.links.proofs.Links.{relink_same}
use Rattle.ring.proofs.Frame.{left_kept, left_ring, joined_kept, joined_ring}
use Rattle.ring.proofs.Rings.{ring_tail_small}
use Rattle.ring.proofs.Places.{falling_agree, insert_agree}
use Rattle.area.specs.Layout.{Part, Parts, alter, records_at, at, Image, Stored}
use Rattle.area.specs.Layout.Part.{kept, tail, next, locked, waiting}
use Rattle.area.specs.Layout.Slot.{Tail}
use Rattle.area.specs.State.{last}
use Rattle.area.specs.Rings.{records, Rings, is_ring, swap, ranks, Relinked, Leaves, Joins}
use Rattle.area.proofs.Stores.{alter_here, alter_away, store, stored_then, load_at}
use Rattle.area.proofs.Records.{part_lent, part_back, nexted, front_at, kept_image, priority_said, records_stand, split}

-- the word with another number in bits 3 to 12
told : (w u : ℕ) → relink w u + w / 8 % 1024 * 8 ≡ w + u * 8
told w u = go (w / 8192) (w / 8 % 1024) (w % 8) (split w)
  where
    go : (a b c : ℕ) → w ≡ a * 8192 + b * 8 + c → a * 8192 + u * 8 + c + b * 8 ≡ w + u * 8
    go a b c e = omega arith

-- a tail's word stands before the records
pub tail_front : (n : Shape) (q : Queue) → exists n q ≡ true → at n (Tail q) < records_at n
tail_front n ready h = omega arith
tail_front n (park k) h = omega (arith, inside_bounds n.parks k h)
tail_front n (lock l) h = omega (arith, inside_bounds n.locks l h)
tail_front n (condition c) h = omega (arith, inside_bounds n.conditions c h)

module _ (n : Shape) (ws : List ℕ) (t : Parts) (qs : Queue → List ℕ) (q : Queue) (R : Rings n ws t qs) (given : exists n q ≡ true) where
  -- the records when they are back, and the tail word after that
  back : (r : List ℕ) → drop (records_at n) (take (records_at n) ws ++ r) ≡ r
  back r =
      ap (λ k. drop k (take (records_at n) ws ++ r)) (sym (length-take-le (records_at n) ws (omega (arith, R.image.long))))
      ∙ drop-append_seam (take (records_at n) ws) r

  pub back_set : (r : List ℕ) (i v : ℕ) → i ≡ at n (Tail q) → records n (set (take (records_at n) ws ++ r) i v) ≡ r
  back_set r i v here = drop-set-lt (records_at n) (take (records_at n) ws ++ r) i v (let k = tail_front n q given in omega arith) ∙ back r

  -- the ring of q becomes xs, who are processes and stand in no other
  module _ (xs r zs : List ℕ) (u i v : ℕ)
      (own : (x : ℕ) → member x xs ≡ true → inside n.processes x ≡ true)
      (alone : (x : ℕ) (o : Queue) → member x xs ≡ true → member x (qs o) ≡ true → q ≡ o)
      (touched : (x : ℕ) → member x zs ≡ true → inside n.processes x ≡ true)
      (K : Kept (records n ws) r zs)
      (ring : Ring r u xs)
      (others : (o : Queue) → exists n o ≡ true → q ≢ o → Ring r (last (qs o)) (qs o))
      (small : u < 1024)
      (here : i ≡ at n (Tail q))
      (writes : v ≡ relink (get_or ws i 0) u) where
    abbrev front : List ℕ
    front = take (records_at n) ws ++ r

    abbrev parts : Parts
    parts = alter (tail q) u (nexted (link.next r) t)

    stored_relink : Stored n ws (set front i v) parts
    stored_relink =
        let st = kept_image n ws t R.image r zs touched K in
        let w : get_or front i 0 ≡ get_or ws i 0 = front_at n ws t R.image r i (let k = tail_front n q given in omega arith) in
        stored_then st (store n front (nexted (link.next r) t) st.image (tail q) u i given small here 8 1024 v (get_or front i 0) refl refl refl (rw (writes, w) (told (get_or ws i 0) u)))

    pub relink_ring : Relinked n ws (set front i v) t qs q xs
    relink_ring = record {
      parts = parts;
      stored = stored_relink;
      others = others_at;
      rings = record {
        image = stored_relink.image;
        tails = λ o h. tails_at o h (same_case q o);
        rings = λ o h. rings_at o h (same_case q o);
        own = λ o x m. own_at o x m (same_case q o);
        one = λ a b x m k. one_at a b x m k (same_case q a) (same_case q b);
      };
    }
      where
        others_at : (f : Part) → is_ring f ≡ false → parts f ≡ t f
        others_at (kept f) h = refl
        others_at (tail o) h = absurd (true≢false h)
        others_at (next x) h = absurd (true≢false h)
        others_at (locked l) h = refl
        others_at (waiting x) h = refl

        tails_at : (o : Queue) → exists n o ≡ true → SameCase q o → parts (tail o) ≡ last (swap qs q xs o)
        tails_at o h (holds e z) = rw (z, ← e) (alter_here (tail q) u (nexted (link.next r) t) ∙ sym ring.ends)
        tails_at o h (fails e z) = rw z (alter_away (tail q) (tail o) u (nexted (link.next r) t) (λ d. e (cc)) ∙ R.tails o h)

        rings_at : (o : Queue) → exists n o ≡ true → SameCase q o → Ring (records n (set front i v)) (last (swap qs q xs o)) (swap qs q xs o)
        rings_at o h (holds e z) = rw (back_set r i v here, z) (subst (λ (y : ℕ). Ring r y xs) (sym ring.ends) ring)
        rings_at o h (fails e z) = rw (back_set r i v here, z) (others o h e)

        own_at : (o : Queue) (x : ℕ) → member x (swap qs q xs o) ≡ true → SameCase q o → inside n.processes x ≡ true
        own_at o x m (holds e z) = own x (rw z at m)
        own_at o x m (fails e z) = R.own o x (rw z at m)

        one_at : (a b : Queue) (x : ℕ) → member x (swap qs q xs a) ≡ true → member x (swap qs q xs b) ≡ true → SameCase q a → SameCase q b → a ≡ b
        one_at a b x m k (holds e z) (holds d y) = sym e ∙ d
        one_at a b x m k (holds e z) (fails d y) = sym e ∙ alone x b (rw z at m) (rw y at k)
        one_at a b x m k (fails e z) (holds d y) = sym (alone x a (rw y at k) (rw z at m)) ∙ d
        one_at a b x m k (fails e z) (fails d y) = R.one a b x (rw z at m) (rw y at k)

-- ---- the records, lent

pub lent : (n : Shape) {a : ℕ} (ws : List ℕ) → a ≡ records_at n → mid_of a (length ws - a) ws ≡ records n ws
lent n {a} ws e = part_lent a ws ∙ ap (λ k. drop k ws) e

-- behind the front they are the area, and so is what comes back
module _ {n : Shape} {ws : List ℕ} {t : Parts} {a : ℕ} (e : a ≡ records_at n) (im : Image n ws t) where
  pub lent_front : length (take (records_at n) ws) ≡ records_at n
  lent_front = length-take-le (records_at n) ws (omega (arith, im.long))

  whole : take (records_at n) ws ++ mid_of a (length ws - a) ws ≡ ws
  whole = ap (λ (r : List ℕ). take (records_at n) ws ++ r) (lent n ws e) ∙ take-append-drop (records_at n) ws

  pub lent_image : Image n (take (records_at n) ws ++ mid_of a (length ws - a) ws) t
  lent_image = subst (λ (l : List ℕ). Image n l t) (sym whole) im

  pub back_stored : (r : List ℕ) {u : Parts} → Stored n (take (records_at n) ws ++ mid_of a (length ws - a) ws) (take (records_at n) ws ++ r) u → Stored n ws (put_mid a (length ws - a) ws r) u
  back_stored r {u} st = rw (part_back a ws r, e) (subst (λ (l : List ℕ). Stored n l (take (records_at n) ws ++ r) u) whole st)

-- the tail that its word says
pub tail_read : {n : Shape} {ws : List ℕ} {t : Parts} {qs : Queue → List ℕ} (q : Queue) {i w : ℕ} → Rings n ws t qs → exists n q ≡ true → i ≡ at n (Tail q) → w ≡ get_or ws i 0 / 8 % 1024 → w ≡ last (qs q)
tail_read {n} {ws} {t} q {i} R given here reads = reads ∙ load_at n ws t R.image (tail q) i given here 8 1024 refl refl ∙ R.tails q given

-- a queue is the ring of its tail there
pub lent_ring : {n : Shape} {ws : List ℕ} {t : Parts} {qs : Queue → List ℕ} (q : Queue) {i a w : ℕ} → Rings n ws t qs → exists n q ≡ true → i ≡ at n (Tail q) → a ≡ records_at n → w ≡ get_or ws i 0 / 8 % 1024
    → Ring (mid_of a (length ws - a) ws) w (qs q)
lent_ring {n} {ws} q R given here e reads = rw (lent n ws e, tail_read q R given here reads) (R.rings q given)

-- ---- p leaves

module _ {n : Shape} {ws : List ℕ} {i p : ℕ} (j : Leaves n ws i p) (a w : ℕ) (at_records : a ≡ records_at n) (reads : w ≡ get_or ws i 0 / 8 % 1024) where
  pub leaves_ring : Ring (mid_of a (length ws - a) ws) w (j.queues j.queue)
  leaves_ring = lent_ring j.queue j.rings j.given j.here at_records reads

  pub left_relinks : member p (j.queues j.queue) ≡ true → (r : List ℕ) (u v : ℕ) → Left (mid_of a (length ws - a) ws) r w p u (j.queues j.queue) → v ≡ relink (get_or ws i 0) u
      → Relinked n ws (set (put_mid a (length ws - a) ws r) i v) j.parts j.queues j.queue (remove p (j.queues j.queue))
  left_relinks stands r u v l e =
      rw (part_back a ws r, at_records)
      (relink_ring n ws j.parts j.queues j.queue j.rings j.given (remove p xs) r xs u i v
      (λ x m. j.rings.own j.queue x (stays x m))
      (λ x o m k. j.rings.one j.queue o x (stays x m) k)
      (λ x m. j.rings.own j.queue x m)
      (subst (λ (z : List ℕ). Kept z r xs) (lent n ws at_records) (left_kept p xs leaves_ring stands l))
      l.ring
      (λ o h d. left_ring p xs leaves_ring stands l (last (j.queues o)) (j.queues o) (apart o d) (subst (λ (z : List ℕ). Ring z (last (j.queues o)) (j.queues o)) (sym (lent n ws at_records)) (j.rings.rings o h)))
      (ring_tail_small (remove p xs) l.ring) j.here e)
    where
      xs : List ℕ
      xs = j.queues j.queue

      stays : (x : ℕ) → member x (remove p xs) ≡ true → member x xs ≡ true
      stays x m = remove_member x p xs m

      apart : (o : Queue) → j.queue ≢ o → (x : ℕ) → member x (j.queues o) ≡ true → member x xs ≡ false
      apart o d x m = denied (member x xs) (λ k. d (j.rings.one j.queue o x k m))

  -- where the tail stays, its word need not be written
  pub left_stays : member p (j.queues j.queue) ≡ true → (r : List ℕ) (u : ℕ) → Left (mid_of a (length ws - a) ws) r w p u (j.queues j.queue) → u ≡ w
      → Relinked n ws (put_mid a (length ws - a) ws r) j.parts j.queues j.queue (remove p (j.queues j.queue))
  left_stays stands r u l e =
      subst (λ (z : List ℕ). Relinked n ws z j.parts j.queues j.queue (remove p (j.queues j.queue))) same (left_relinks stands r u (relink (get_or ws i 0) u) l refl)
    where
      here : get_or (put_mid a (length ws - a) ws r) i 0 ≡ get_or ws i 0
      here = rw (part_back a ws r, at_records) (front_at n ws j.parts j.rings.image r i (rw j.here (tail_front n j.queue j.given)))

      same : set (put_mid a (length ws - a) ws r) i (relink (get_or ws i 0) u) ≡ put_mid a (length ws - a) ws r
      same = ap (set (put_mid a (length ws - a) ws r) i) (ap (relink (get_or ws i 0)) (e ∙ reads) ∙ (relink_same (get_or ws i 0) ∙ sym here)) ∙ set-get_or (put_mid a (length ws - a) ws r) i 0

-- ---- p joins

module _ {n : Shape} {ws : List ℕ} {i p : ℕ} (j : Joins n ws i p) where
  abbrev xs : List ℕ
  xs = j.queues j.queue

  pub joins_stands : Stands (records n ws) p
  joins_stands = records_stand n ws j.parts j.rings.image p j.process

  -- the priorities of the records are those of the parts
  pub joins_ranks : (x : ℕ) → inside n.processes x ≡ true → link.priority (records n ws) x ≡ ranks j.parts x
  joins_ranks x h = priority_said n ws j.parts j.rings.image x h

  pub stood_ranks : (x : ℕ) → member x xs ≡ true → link.priority (records n ws) x ≡ ranks j.parts x
  stood_ranks x m = joins_ranks x (j.rings.own j.queue x m)

  pub joins_falls : Falling (link.priority (records n ws)) xs
  joins_falls = falling_agree (ranks j.parts) (link.priority (records n ws)) xs stood_ranks j.falls

  module _ (w : ℕ) (is_tail : w ≡ last xs) where
    pub joins_ring : Ring (records n ws) w xs
    joins_ring = rw is_tail (j.rings.rings j.queue j.given)

    pub joined_relinks : (r : List ℕ) (u v : ℕ) → Joined (records n ws) r w p u xs → v ≡ relink (get_or ws i 0) u
        → Relinked n ws (set (take (records_at n) ws ++ r) i v) j.parts j.queues j.queue (insert (ranks j.parts) p xs)
    joined_relinks r u v l e =
        relink_ring n ws j.parts j.queues j.queue j.rings j.given (insert (ranks j.parts) p xs) r (p ∷ xs) u i v
        (λ x m. own x m (eqb_case p x))
        (λ x o m k. alone x o m k (eqb_case p x))
        (λ x m. touched x m (eqb_case p x))
        (joined_kept xs joins_stands joins_ring l)
        ring
        (λ o h d. joined_ring xs joins_stands joins_ring l (last (j.queues o)) (j.queues o) (j.out o) (apart o d) (j.rings.rings o h))
        (ring_tail_small (insert (ranks j.parts) p xs) ring) j.here e
      where
        ring : Ring r u (insert (ranks j.parts) p xs)
        ring =
            subst (λ (ys : List ℕ). Ring r u ys)
            (insert_agree (ranks j.parts) (link.priority (records n ws)) p xs (joins_ranks p j.process) stood_ranks)
            l.ring

        stood : (x : ℕ) → member x (insert (ranks j.parts) p xs) ≡ true → eqb p x ≡ false → member x xs ≡ true
        stood x m z = insert_member (ranks j.parts) x p xs z m

        own : (x : ℕ) → member x (insert (ranks j.parts) p xs) ≡ true → EqCase p x → inside n.processes x ≡ true
        own x m (holds d z) = rw (← d) j.process
        own x m (fails d z) = j.rings.own j.queue x (stood x m z)

        alone : (x : ℕ) (o : Queue) → member x (insert (ranks j.parts) p xs) ≡ true → member x (j.queues o) ≡ true → EqCase p x → j.queue ≡ o
        alone x o m k (holds d z) = absurd (true≢false (sym k ∙ rw (← d) (j.out o)))
        alone x o m k (fails d z) = j.rings.one j.queue o x (stood x m z) k

        touched : (x : ℕ) → member x (p ∷ xs) ≡ true → EqCase p x → inside n.processes x ≡ true
        touched x m (holds d z) = rw (← d) j.process
        touched x m (fails d z) = j.rings.own j.queue x (rw z at m)

        apart : (o : Queue) → j.queue ≢ o → (x : ℕ) → member x (j.queues o) ≡ true → member x xs ≡ false
        apart o d x m = denied (member x xs) (λ k. d (j.rings.one j.queue o x k m))

-- what is promised of the records when they are lent is promised of them where they stand
pub lent_join : {n : Shape} {ws : List ℕ} {i p : ℕ} (j : Joins n ws i p) {a w : ℕ} → a ≡ records_at n → w ≡ get_or ws i 0 / 8 % 1024
    → Stands (mid_of a (length ws - a) ws) p × Ring (mid_of a (length ws - a) ws) w (j.queues j.queue) × Falling (link.priority (mid_of a (length ws - a) ws)) (j.queues j.queue)
lent_join {n} {ws} j {a} {w} e reads = rw (lent n ws e) (joins_stands j, joins_ring j w (tail_read j.queue j.rings j.given j.here reads), joins_falls j)

-- the ring as the records order it is the ring as the parts do, so what is told of a newcomer there is told here
pub back_arrived : {n : Shape} {ws : List ℕ} {i p : ℕ} (j : Joins n ws i p) {a : ℕ} → a ≡ records_at n → (u k : ℕ)
    → Arrived p (insert (link.priority (mid_of a (length ws - a) ws)) p (j.queues j.queue)) u k → Arrived p (insert (ranks j.parts) p (j.queues j.queue)) u k
back_arrived {n} {ws} {p = p} j {a} e u k A =
    subst (λ (ys : List ℕ). Arrived p ys u k)
    (ap {A = List ℕ} (λ z. insert (link.priority z) p (j.queues j.queue)) (lent n ws e)
    ∙ insert_agree (ranks j.parts) (link.priority (records n ws)) p (j.queues j.queue) (joins_ranks j p j.process) (stood_ranks j)) A

pub back_join : {n : Shape} {ws : List ℕ} {i p : ℕ} (j : Joins n ws i p) {a w : ℕ} (at_records : a ≡ records_at n) (reads : w ≡ get_or ws i 0 / 8 % 1024) (r : List ℕ) (u v : ℕ)
    → Joined (mid_of a (length ws - a) ws) r w p u (j.queues j.queue) → v ≡ relink (get_or ws i 0) u
    → Relinked n ws (set (put_mid a (length ws - a) ws r) i v) j.parts j.queues j.queue (insert (ranks j.parts) p (j.queues j.queue))
back_join {n} {ws} {p = p} j {a} {w} at_records reads r u v l e =
    rw (part_back a ws r, at_records)
    (joined_relinks j w (tail_read j.queue j.rings j.given j.here reads) r u v (subst (λ (z : List ℕ). Joined z r w p u (j.queues j.queue)) (lent n ws at_records) l) e)
