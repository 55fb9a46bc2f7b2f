-- The records, lent to the rings: what a link says in the part is what it says in the area, a change of nexts alone changes the nexts of the
-- area's parts and no other, and each queue of a state is a ring of the records. Assumes nothing.
use Prim.Native.Nat.{ℕ, zero, suc, ◌+◌, ◌-◌, ◌*◌, ◌/◌, ◌%◌, ◌≤◌, ◌<◌}
use native.Mathlib.Nat.{le_of_eq}
use native.Mathlib.Decide.{ℕ_discrete}
use native.Mathlib.Omega.{arith}
use borrow.Rule.Slice.PartMut.{mid_of, put_mid}
use mathlib.Core.Path.{◌≡◌, refl, sym, ap, ◌∙◌}
use mathlib.Core.Bool.{Bool, true, false, ◌&&◌}
use mathlib.Core.Logic.{◌≢◌}
use mathlib.Core.List.{List, ◌++◌, append-nil}
use lib.Dec.{eqb}
use lib.ListN.{length, get_or, drop, take, length-append, length-drop, drop_of_length-le, get_or-append}
use lib.Seq.{ext_get_or, get_or-append-add, get_or-drop, get_or-take, length-take-le}
use Rattle.std.proofs.lemmas.List.{take_rest}
use Rattle.model.specs.declared.Shape.{Shape}
use Rattle.model.specs.Queue.{Queue, inside, exists, member}
use Rattle.model.specs.Queue.Queue.{ready, park, lock, condition}
use Rattle.model.specs.Field.{some}
use Rattle.model.specs.Field.Field.{priority, armed, timer, failed, abort}
use Rattle.model.specs.Machine.{State, model}
use Rattle.model.proofs.Tests.{inside_bounds}
use Rattle.links.specs.Link as link
use Rattle.links.specs.Link.{Stands, slot}
use Rattle.ring.specs.Ring.{Ring, Kept}
use Rattle.area.specs.Layout.{Part, Parts, Slot, word, span, home, records_at, size, at, has, Image, Stored}
use Rattle.area.specs.Layout.Part.{kept, tail, next, locked, waiting}
use Rattle.area.specs.Layout.Slot.{Processes, LocksConditions, Parks, Clock, Running, Tail, Holder, Link, Flags, Timer}
use Rattle.area.specs.State.{last, queues, next_in, laid}
use Rattle.area.specs.Holds.{Holds}
use Rattle.area.specs.Rings.{records}
use Rattle.area.proofs.Whole.{counts_in}
use Rattle.area.proofs.Rings.{ring_ext, queue_once, member_inside, laid_ring}

-- ---- a part from a on, lent and back

pub part_lent : (a : ℕ) (ws : List ℕ) → mid_of a (length ws - a) ws ≡ drop a ws
part_lent a ws = take_rest ws a

pub part_back : (a : ℕ) (ws ys : List ℕ) → put_mid a (length ws - a) ws ys ≡ take a ws ++ ys
part_back a ws ys = rw (drop_of_length-le (drop a ws) {i = length ws - a} (le_of_eq (length-drop a ws)), append-nil ys)

-- the parts with other nexts
abbrev pub nexted : (ℕ → ℕ) → Parts → Parts
nexted nx t (kept f) = t (kept f)
nexted nx t (tail q) = t (tail q)
nexted nx t (next p) = nx p
nexted nx t (locked l) = t (locked l)
nexted nx t (waiting p) = t (waiting p)

-- a link with the priority and the low bits of another
pub split : (w : ℕ) → w ≡ w / 8192 * 8192 + w / 8 % 1024 * 8 + w % 8
split w =
    let a : w ≡ w / 8192 * 8192 + w % 8192 = omega arith in
    let b : w % 8192 ≡ w / 8 % 1024 * 8 + w % 8 = omega arith in
    omega arith

relinked : (w v a b c : ℕ) → w ≡ a * 8192 + b * 8 + c * 4 → b < 1024 → c < 2 → v / 8192 ≡ w / 8192 → v % 8 ≡ w % 8 → v ≡ a * 8192 + v / 8 % 1024 * 8 + c * 4
relinked w v a b c e hb hc hi lo =
    let h : w / 8192 ≡ a = omega arith in
    let l : w % 8 ≡ c * 4 = omega arith in
    joins (v / 8192) (v / 8 % 1024) (v % 8) (split v) (hi ∙ h) (lo ∙ l)
  where
    joins : (x y z : ℕ) → v ≡ x * 8192 + y * 8 + z → x ≡ a → z ≡ c * 4 → v ≡ a * 8192 + y * 8 + c * 4
    joins x y z k p q = rw (← p, ← q) k

-- a bit that is 1 is set
one_some : (b : ℕ) → b < 2 → eqb b 1 ≡ some b
one_some zero h = refl
one_some (suc zero) h = refl
one_some (suc (suc b)) h = let w : ⊥ = omega arith in absurd w

-- ---- what the records say

module _ (n : Shape) (ws : List ℕ) (t : Parts) (im : Image n ws t) where
  pub records_long : length (records n ws) ≡ length ws - records_at n
  records_long = length-drop (records_at n) ws

  pub records_stand : (p : ℕ) → inside n.processes p ≡ true → Stands (records n ws) p
  records_stand p h =
      let b = inside_bounds n.processes p h in
      let c = counts_in n im.counts in
      let l = im.long in
      let k = records_long in
      record { low = b.0; high = omega arith; within = omega arith }

  link_said : (p : ℕ) → inside n.processes p ≡ true → link.link (records n ws) p ≡ word n t (Link p)
  link_said p h = get_or-drop (records_at n) ws (slot p) 0 ∙ im.words (Link p) h

  pub next_said : (p : ℕ) → inside n.processes p ≡ true → link.next (records n ws) p ≡ t (next p)
  unfolding link.next
  next_said p h =
      omega (arith, link_said p h, im.spans (kept (priority p)) h, im.spans (next p) h, im.spans (kept (failed p)) h)

  pub priority_said : (p : ℕ) → inside n.processes p ≡ true → link.priority (records n ws) p ≡ t (kept (priority p))
  unfolding link.priority
  priority_said p h =
      omega (arith, link_said p h, im.spans (next p) h, im.spans (kept (failed p)) h)

  -- whether p's timer rings
  pub rings_said : (p : ℕ) → inside n.processes p ≡ true → (time : ℕ) → link.rings (records n ws) time p ≡ some (t (kept (armed p))) && eqb (t (kept (timer p))) time
  unfolding link.rings
  rings_said p h time =
      let f : get_or (records n ws) (slot p + 1) 0 ≡ word n t (Flags p) = get_or-drop (records_at n) ws (slot p + 1) 0 ∙ ap (λ i. get_or ws i 0) (omega arith) ∙ im.words (Flags p) h in
      let e : get_or (records n ws) (slot p + 2) 0 ≡ t (kept (timer p)) = get_or-drop (records_at n) ws (slot p + 2) 0 ∙ ap (λ i. get_or ws i 0) (omega arith) ∙ im.words (Timer p) h in
      let a : get_or (records n ws) (slot p + 1) 0 / 4 % 2 ≡ t (kept (armed p)) = omega (arith, im.spans (kept (armed p)) h, im.spans (waiting p) h, im.spans (kept (abort p)) h) in
      rw (a, e) (ap (λ (b : Bool). b && eqb (t (kept (timer p))) time) (one_some (t (kept (armed p))) (im.spans (kept (armed p)) h)))

  front_long : length (take (records_at n) ws) ≡ records_at n
  front_long = length-take-le (records_at n) ws (omega (arith, im.long))

  -- a word before the records, whatever they become
  pub front_at : (r : List ℕ) (i : ℕ) → i < records_at n → get_or (take (records_at n) ws ++ r) i 0 ≡ get_or ws i 0
  front_at r i h = get_or-append (take (records_at n) ws) r 0 i (omega (arith, front_long)) ∙ get_or-take (records_at n) ws i 0 h

  -- ---- nexts change, and nothing else

  pub kept_image : (r : List ℕ) (zs : List ℕ) → ((x : ℕ) → member x zs ≡ true → inside n.processes x ≡ true) → Kept (records n ws) r zs → Stored n ws (take (records_at n) ws ++ r) (nexted (link.next r) t)
  unfolding link.next
  kept_image r zs own K = record {
    image = record {
      counts = im.counts;
      long = simp length-append (omega (arith, front_long, r_long, im.long));
      words = λ a h. words_at a h;
      spans = λ f h. spans_at f h;
    };
    beyond = beyond_same;
  }
    where
      r_long : length r ≡ length ws - records_at n
      r_long = K.long ∙ records_long

      -- a word of the records
      record_at : (i o : ℕ) → o ≡ records_at n + i → get_or (take (records_at n) ws ++ r) o 0 ≡ get_or r i 0
      record_at i o e =
          ap (λ k. get_or (take (records_at n) ws ++ r) k 0) (let k : o ≡ length (take (records_at n) ws) + i = omega (arith, front_long) in k)
          ∙ get_or-append-add (take (records_at n) ws) r i 0

      -- a word that is no link
      beside : (i o : ℕ) → o ≡ records_at n + i → i % 3 ≢ 0 → get_or (take (records_at n) ws ++ r) o 0 ≡ get_or ws o 0
      beside i o e h = record_at i o e ∙ K.words i h ∙ get_or-drop (records_at n) ws i 0 ∙ ap (λ k. get_or ws k 0) (sym e)

      -- a word beyond the last record
      far : (i o : ℕ) → o ≡ records_at n + i → 3 * n.processes ≤ i → get_or (take (records_at n) ws ++ r) o 0 ≡ get_or ws o 0
      far i o e h = go (ℕ_discrete (i % 3) 0)
        where
          stranger : (b : Bool) → member (i / 3 + 1) zs ≡ b → member (i / 3 + 1) zs ≡ false
          stranger false z = z
          stranger true z = let b = inside_bounds n.processes (i / 3 + 1) (own (i / 3 + 1) z) in let w : ⊥ = omega arith in absurd w

          go : Dec (i % 3 ≡ 0) → get_or (take (records_at n) ws ++ r) o 0 ≡ get_or ws o 0
          go (no k) = beside i o e k
          go (yes k) =
              let j : i ≡ slot (i / 3 + 1) = omega arith in
              record_at i o e ∙ ap (λ x. get_or r x 0) j ∙ K.links (i / 3 + 1) (omega arith) (stranger (member (i / 3 + 1) zs) refl)
              ∙ ap (λ x. get_or (records n ws) x 0) (sym j) ∙ get_or-drop (records_at n) ws i 0 ∙ ap (λ x. get_or ws x 0) (sym e)

      link_word : (p : ℕ) → inside n.processes p ≡ true → get_or r (slot p) 0 ≡ t (kept (priority p)) * 8192 + link.next r p * 8 + t (kept (failed p)) * 4
      link_word p h =
          relinked (link.link (records n ws) p) (get_or r (slot p) 0) (t (kept (priority p))) (t (next p)) (t (kept (failed p)))
          (link_said p h) (im.spans (next p) h) (im.spans (kept (failed p)) h) (K.high (slot p)) (K.low (slot p))

      words_at : (a : Slot) → has n a ≡ true → get_or (take (records_at n) ws ++ r) (at n a) 0 ≡ word n (nexted (link.next r) t) a
      words_at Processes h = front_at r 0 (omega arith) ∙ im.words Processes h
      words_at LocksConditions h = front_at r 1 (omega arith) ∙ im.words LocksConditions h
      words_at Parks h = front_at r 2 (omega arith) ∙ im.words Parks h
      words_at Clock h = front_at r 3 (omega arith) ∙ im.words Clock h
      words_at Running h = front_at r 4 (omega arith) ∙ im.words Running h
      words_at (Tail ready) h = front_at r 5 (omega arith) ∙ im.words (Tail ready) h
      words_at (Tail (park k)) h = front_at r (at n (Tail (park k))) (omega (arith, inside_bounds n.parks k h)) ∙ im.words (Tail (park k)) h
      words_at (Tail (lock l)) h = front_at r (at n (Tail (lock l))) (omega (arith, inside_bounds n.locks l h)) ∙ im.words (Tail (lock l)) h
      words_at (Tail (condition c)) h = front_at r (at n (Tail (condition c))) (omega (arith, inside_bounds n.conditions c h)) ∙ im.words (Tail (condition c)) h
      words_at (Holder l) h = front_at r (at n (Holder l)) (omega (arith, inside_bounds n.locks l h)) ∙ im.words (Holder l) h
      words_at (Link p) h = record_at (slot p) (at n (Link p)) refl ∙ link_word p h
      words_at (Flags p) h = beside (slot p + 1) (at n (Flags p)) (omega arith) (omega arith) ∙ im.words (Flags p) h
      words_at (Timer p) h = beside (slot p + 2) (at n (Timer p)) (omega arith) (omega arith) ∙ im.words (Timer p) h

      spans_at : (f : Part) → has n (home f) ≡ true → nexted (link.next r) t f < span f
      spans_at (kept f) h = im.spans (kept f) h
      spans_at (tail q) h = im.spans (tail q) h
      spans_at (next p) h = omega arith
      spans_at (locked l) h = im.spans (locked l) h
      spans_at (waiting p) h = im.spans (waiting p) h

      beyond_same : drop (size n) (take (records_at n) ws ++ r) ≡ drop (size n) ws
      beyond_same =
          ext_get_or 0 (drop (size n) (take (records_at n) ws ++ r)) (drop (size n) ws) (simp (length-drop, length-append) (omega (arith, front_long, r_long, im.long)))
          (λ i h. get_or-drop (size n) (take (records_at n) ws ++ r) i 0 ∙ far (3 * n.processes + i) (size n + i) (omega arith) (omega arith) ∙ sym (get_or-drop (size n) ws i 0))

-- ---- the queues of a state are rings of the records

module _ {n : Shape} {ws : List ℕ} {s : State model} (H : Holds n ws s) where
  pub queue_ring : (q : Queue) → exists n q ≡ true → Ring (records n ws) (last (s.queues q)) (s.queues q)
  queue_ring q h = record {
    linked = ring_ext (next_in s.queues (queues n)) (link.next (records n ws)) (s.queues q)
        (λ p m. sym (next_said n ws (laid n s) H.image p (member_inside n s H.placed p q m))) (laid_ring n s H.placed q h);
    ends = refl;
    stand = λ p m. records_stand n ws (laid n s) H.image p (member_inside n s H.placed p q m);
    once = queue_once n s H.placed q;
  }
