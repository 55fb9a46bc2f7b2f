-- The queues of a kind, one after the other: how a pass over their words goes on or breaks off, and that it visits the queues of the area. Assumes nothing.
use Prim.Native.Nat.{ℕ, zero, suc, ◌+◌, ◌-◌, ◌*◌, ◌/◌, ◌%◌, ◌≤◌, ◌<◌}
use native.Mathlib.Numerals.{add-one}
use native.Mathlib.Decide.{ℕ_discrete}
use native.Mathlib.Omega.{arith}
use borrow.Rule.Slice.PartMut.{mid_of}
use mathlib.Core.Path.{◌≡◌, refl, sym, ◌∙◌, ap}
use mathlib.Core.Bool.{Bool, true, false, cond}
use mathlib.Core.List.{List, [], ◌∷◌, ◌++◌}
use Rattle.std.proofs.Common.{Option, None, Some}
use Rattle.std.proofs.lemmas.Option.{none-some, same_Some}
use lib.Bits.{bit_and, and_mask}
use lib.ListN.{length, get_or, drop, length-drop}
use lib.Seq.{get_or-drop}
use Rattle.model.specs.declared.Shape.{Shape}
use Rattle.model.specs.Queue.{Queue, inside}
use Rattle.model.specs.Queue.Queue.{ready, park, lock, condition}
use Rattle.model.proofs.Tests.{inside_bounds}
use Rattle.links.specs.Link as links
use Rattle.links.specs.Link.{Stands}
use Rattle.area.specs.Layout.{size, at, locks_at, conditions_at, records_at}
use Rattle.area.specs.Layout.Slot.{Tail, Holder}
use Rattle.area.specs.Reading.{shape_of}
use Rattle.area.specs.Rings.{records}
use Rattle.area.proofs.Records.{part_lent}
use Rattle.heads.specs.First.{Decides, Counted, Led, Runs}
use Rattle.heads.specs.Heads.{is_vacant, heading, head_at, holder_in}
use Rattle.heads.proofs.Steps.{vacant_is, head_empty}
use Rattle.heads.proofs.Tests.{heading_is}
use Rattle.members.specs.Walk.{ringed, Met, Told}
use Rattle.members.proofs.Steps.{ring_empty}
use Rattle.members.proofs.Chains.{Words}
use Rattle.members.proofs.Walks.{told_none, told_some}
use Rattle.sound.specs.Passed.{queued, then, passed}

-- ---- the test of a queue's words, asked with P masked, which leaves it as it was

module _ (P k w v : ℕ) (few : P < 1024) (ok : Bool) (tested : ok ≡ heading (bit_and P 1023) k w v) where
  unmasked : ok ≡ heading P k w v
  unmasked = let e : bit_and P 1023 ≡ P = and_mask P 10 ∙ omega arith in rw e at tested

  pub tail_within : ok ≡ true → w / 8 ≤ P
  tail_within x = (heading_is P k w v (sym unmasked ∙ x)).tail

-- ---- a pass underway

-- the first i queues are passed, of those that js₀ leaves
pub record Passed (hs rs : List ℕ) (P k i : ℕ) (ms : List ℕ) (m : ℕ) (js₀ : List ℕ) : Type 0 where
  pub js : List ℕ
  pub met : Met P ms js m
  pub so : passed hs rs P k i js₀ ≡ Some js

module _ (hs rs : List ℕ) (P k : ℕ) where
  pub passed_none : (ms : List ℕ) (m : ℕ) (js : List ℕ) → Met P ms js m → Passed hs rs P k 0 ms m js
  unfolding passed
  passed_none ms m js t = record { js = js; met = t; so = refl }

  pub passed_all : (i n : ℕ) (ms : List ℕ) (m : ℕ) (js : List ℕ) → Passed hs rs P k i ms m js → i ≤ n → n ≤ i → Told P (Some m) ms (passed hs rs P k n js)
  passed_all i n ms m js p a b =
      let e : i ≡ n = omega arith in
      told_some P m ms p.js _ (rw e at p.so) p.met

  -- one queue more, and none after one that breaks off
  passed_more : (i : ℕ) (js is : List ℕ) → passed hs rs P k i js ≡ Some is → passed hs rs P k (i + 1) js ≡ queued hs rs P k (head_at k i) is
  unfolding passed
  passed_more i js is e = rw (add-one, e)

  passed_stops : (i n : ℕ) (js : List ℕ) → i ≤ n → passed hs rs P k i js ≡ None → passed hs rs P k n js ≡ None
  unfolding passed
  passed_stops i zero js l e = let z : i ≡ 0 = omega arith in rw z at e
  passed_stops i (suc n) js l e = elim (ℕ_discrete i (suc n)) [
    | yes d ↦ rw d at e
    | no d ↦ rw (passed_stops i n js (omega arith) e)
  ]

  queued_is : (a w v : ℕ) (js : List ℕ) → w ≡ get_or hs a 0 → v ≡ holder_in hs k a → queued hs rs P k a js ≡ cond (heading P k w v) (ringed rs P k (v / 8) (w / 8) js) None
  unfolding queued
  queued_is a w v js e d = rw (e, d)

  module _ (i a w v : ℕ) (e : a ≡ head_at k i) (d : w ≡ get_or hs a 0) (f : v ≡ holder_in hs k a) (n : ℕ) (below : i < n)
      (ms : List ℕ) (m : ℕ) (js₀ : List ℕ) (p : Passed hs rs P k i ms m js₀) where
    here : passed hs rs P k (i + 1) js₀ ≡ cond (heading P k w v) (ringed rs P k (v / 8) (w / 8) p.js) None
    here = passed_more i js₀ p.js p.so ∙ rw (← e) (queued_is a w v p.js d f)

    -- an empty queue
    pub passed_empty : is_vacant k w ≡ true → v ≡ 0 → Passed hs rs P k (i + 1) ms m js₀
    passed_empty z o = record { js = p.js; met = p.met; so = here ∙ rw (← head_empty P k w v z o) (ring_empty rs P k (v / 8) (w / 8) p.js (vacant_is P k w v z).0) }

    module _ (few : P < 1024) (ok : Bool) (tested : ok ≡ heading (bit_and P 1023) k w v) where
      pub passed_odd : (ms' : List ℕ) → ok ≡ false → Told P None ms' (passed hs rs P k n js₀)
      passed_odd ms' x =
          let no : heading P k w v ≡ false = sym (unmasked P k w v few ok tested) ∙ x in
          told_none P ms' _ (passed_stops (i + 1) n js₀ (omega arith) (here ∙ rw no))

      -- past the test the holder o and the tail t, as they are read, are all that stands above the bits below them
      module _ (x : ok ≡ true) where
        accepted : heading P k w v ≡ true
        accepted = sym (unmasked P k w v few ok tested) ∙ x

        module _ (o t : ℕ) (holder : o ≡ v / 8 % 1024) (tail : t ≡ w / 8 % 1024)
            (c : Option ℕ) (ms' : List ℕ) (told : (js : List ℕ) → Met P ms js m → Told P c ms' (ringed rs P k o t js)) where
          after : passed hs rs P k (i + 1) js₀ ≡ ringed rs P k o t p.js
          after =
              let h = heading_is P k w v accepted in
              let reads_holder : v / 8 ≡ o = omega arith in
              let reads_tail : w / 8 ≡ t = omega arith in
              here ∙ rw (accepted, reads_holder, reads_tail)

          pub passed_broken : (ms'' : List ℕ) → c ≡ None → Told P None ms'' (passed hs rs P k n js₀)
          passed_broken ms'' z = go (ringed rs P k o t p.js) after (told p.js p.met)
            where
              go : (out : Option (List ℕ)) → passed hs rs P k (i + 1) js₀ ≡ out → Told P c ms' out → Told P None ms'' (passed hs rs P k n js₀)
              go None q u = told_none P ms'' _ (passed_stops (i + 1) n js₀ (omega arith) q)
              go (Some js) q u = absurd (none-some u.0 (sym z ∙ u.1))

          pub passed_on : (m' : ℕ) → c ≡ Some m' → Passed hs rs P k (i + 1) ms' m' js₀
          passed_on m' z = go (ringed rs P k o t p.js) after (told p.js p.met)
            where
              go : (out : Option (List ℕ)) → passed hs rs P k (i + 1) js₀ ≡ out → Told P c ms' out → Passed hs rs P k (i + 1) ms' m' js₀
              go None q u = absurd (none-some m' (sym u ∙ z))
              go (Some js) q u = record { js = js; met = rw (same_Some m' u.0 (sym z ∙ u.1)) u.2; so = q }

-- ---- the queues of an area

-- the kind of a queue: 0 ready and the parks, 1 the locks, 2 the conditions
abbrev pub kind_of : Queue → ℕ
kind_of ready = 0
kind_of (park k) = 0
kind_of (lock l) = 1
kind_of (condition c) = 2

-- the word with a queue's tail, and the one with its holder, 0 where it has none
abbrev pub tail_word : List ℕ → Queue → ℕ
tail_word ws q = get_or ws (at (shape_of ws) (Tail q)) 0

abbrev pub holder_word : List ℕ → Queue → ℕ
holder_word ws ready = 0
holder_word ws (park k) = 0
holder_word ws (lock l) = get_or ws (at (shape_of ws) (Holder l)) 0
holder_word ws (condition c) = 0

-- a queue: its words, and then its ring
unfoldable pub visit : List ℕ → Queue → List ℕ → Option (List ℕ)
visit ws q js =
    cond (heading (shape_of ws).processes (kind_of q) (tail_word ws q) (holder_word ws q))
    (ringed (records (shape_of ws) ws) (shape_of ws).processes (kind_of q) (holder_word ws q / 8) (tail_word ws q / 8) js) None

-- some queues, in their order
unfoldable pub visits : List ℕ → List Queue → List ℕ → Option (List ℕ)
visits ws [] js = Some js
visits ws (q ∷ qs) js = then (visit ws q js) (visits ws qs)

pub visits_append : (ws : List ℕ) (xs ys : List Queue) (js : List ℕ) → visits ws (xs ++ ys) js ≡ then (visits ws xs js) (visits ws ys)
unfolding visits
visits_append ws [] ys js = refl
visits_append ws (x ∷ xs) ys js = go (visit ws x js) (visits_append ws xs ys)
  where
    go : (o : Option (List ℕ)) → ((is : List ℕ) → visits ws (xs ++ ys) is ≡ then (visits ws xs is) (visits ws ys)) → then o (visits ws (xs ++ ys)) ≡ then (then o (visits ws xs)) (visits ws ys)
    go None ih = refl
    go (Some is) ih = ih is

then_some : (o : Option (List ℕ)) → then o (λ js. Some js) ≡ o
then_some None = refl
then_some (Some js) = refl

-- ---- by kind and number

-- queue i of kind k, from 0; ready is the one before the parks
abbrev pub queue_at : ℕ → ℕ → Queue
queue_at zero zero = ready
queue_at zero (suc i) = park (suc i)
queue_at (suc zero) i = lock (suc i)
queue_at (suc (suc k)) i = condition (suc i)

-- the first m queues of kind k
unfoldable pub queues_of : ℕ → ℕ → List Queue
queues_of k zero = []
queues_of k (suc m) = queues_of k m ++ (queue_at k m ∷ [])

-- where the words of the queues of a kind begin, and how many such queues there are
abbrev pub begins : Shape → ℕ → ℕ
begins n zero = 5
begins n (suc zero) = locks_at n
begins n (suc (suc k)) = conditions_at n

abbrev pub number_of : Shape → ℕ → ℕ
number_of n zero = 1 + n.parks
number_of n (suc zero) = n.locks
number_of n (suc (suc k)) = n.conditions

pub kind_at : (k i : ℕ) → k ≤ 2 → kind_of (queue_at k i) ≡ k
kind_at zero zero h = refl
kind_at zero (suc i) h = refl
kind_at (suc zero) i h = refl
kind_at (suc (suc zero)) i h = refl
kind_at (suc (suc (suc k))) i h = absurd (omega arith)

tail_at : (n : Shape) (k i : ℕ) → k ≤ 2 → begins n k + head_at k i ≡ at n (Tail (queue_at k i))
unfolding head_at
tail_at n zero zero h = omega arith
tail_at n zero (suc i) h = omega arith
tail_at n (suc zero) i h = omega arith
tail_at n (suc (suc zero)) i h = omega arith
tail_at n (suc (suc (suc k))) i h = absurd (omega arith)

holder_at : (ws : List ℕ) (k i : ℕ) → k ≤ 2 → holder_in (drop (begins (shape_of ws) k) ws) k (head_at k i) ≡ holder_word ws (queue_at k i)
unfolding head_at holder_in
holder_at ws zero zero h = refl
holder_at ws zero (suc i) h = refl
holder_at ws (suc zero) i h = get_or-drop (locks_at (shape_of ws)) ws (i * 2 + 1) 0 ∙ ap (λ (j : ℕ). get_or ws j 0) (place (shape_of ws) i)
  where
    place : (n : Shape) (i : ℕ) → locks_at n + (i * 2 + 1) ≡ at n (Holder (suc i))
    place n i = omega arith
holder_at ws (suc (suc zero)) i h = refl
holder_at ws (suc (suc (suc k))) i h = absurd (omega arith)

-- ---- a pass over the words of a kind visits its queues

module _ (ws : List ℕ) where
  abbrev n : Shape
  n = shape_of ws

  module _ (k : ℕ) (h : k ≤ 2) where
    abbrev hs : List ℕ
    hs = drop (begins n k) ws

    queued_visit : (i : ℕ) (js : List ℕ) → queued hs (records n ws) n.processes k (head_at k i) js ≡ visit ws (queue_at k i) js
    unfolding queued visit
    queued_visit i js =
        let w : get_or hs (head_at k i) 0 ≡ tail_word ws (queue_at k i) = get_or-drop (begins n k) ws (head_at k i) 0 ∙ ap (λ (j : ℕ). get_or ws j 0) (tail_at n k i h) in
        rw (w, holder_at ws k i h, kind_at k i h)

    pub passed_visits : (m : ℕ) (js : List ℕ) → passed hs (records n ws) n.processes k m js ≡ visits ws (queues_of k m) js
    unfolding passed visits queues_of
    passed_visits zero js = refl
    passed_visits (suc m) js = rw (visits_append ws (queues_of k m) (queue_at k m ∷ []) js, passed_visits m js) (go (visits ws (queues_of k m) js))
      where
        go : (o : Option (List ℕ)) → then o (queued hs (records n ws) n.processes k (head_at k m)) ≡ then o (visits ws (queue_at k m ∷ []))
        go None = refl
        go (Some is) = queued_visit m is ∙ sym (then_some (visit ws (queue_at k m) is))

-- ---- the words of a kind and the records, lent

-- an area is as long as its counts ask
counted_long : {n : Shape} {ws : List ℕ} → n ≡ shape_of ws → Counted ws → size n ≤ length ws
counted_long e c = rw e c.long

-- the words from a on, lent
abbrev pub from : List ℕ → ℕ → List ℕ
from ws a = mid_of a (length ws - a) ws

-- by the counts n that the words say, and the address r of the records
module _ (ws : List ℕ) {n : Shape} (e : n ≡ shape_of ws) {r : ℕ} (there : r ≡ records_at n) where
  lent_count : n.processes ≡ get_or ws 0 0
  lent_count = ap (λ (m : Shape). m.processes) e

  pub lent_runs : (b : Bool) → Decides b (Runs ws (from ws r)) → Decides b (Runs ws (records (shape_of ws) ws))
  lent_runs b d = rw (there, e, part_lent (records_at (shape_of ws)) ws) at d

  module _ (c : Counted ws) where
    few : n.processes < 1024
    few = let p : n.processes ≤ 1023 = rw e c.processes in omega arith

    lent_records : 3 * n.processes ≤ length (from ws r)
    lent_records = rw (there, part_lent (records_at n) ws, length-drop (records_at n) ws) (let l = counted_long e c in omega arith)

    stands : (p : ℕ) → inside (get_or ws 0 0) p ≡ true → Stands (from ws r) p
    stands p i =
        let b = inside_bounds (get_or ws 0 0) p i in
        let q = lent_count in let f = few in let l = lent_records in
        record { low = b.0; high = omega arith; within = omega arith }

    pub lent_led : ((get_or ws 5 0 / 8 ≡ 0 → ⊥) → (inside (get_or ws 0 0) (get_or ws 5 0 / 8) ≡ true) × (inside (get_or ws 0 0) (links.next (records (shape_of ws) ws) (get_or ws 5 0 / 8)) ≡ true))
        → (6 ≤ length ws) × Led ws (from ws r)
    lent_led h = (c.header, λ z. (stands _ (h z).0, stands _ (rw (there, e, part_lent (records_at (shape_of ws)) ws) (h z).1)))

    number_small : (k : ℕ) → Words ws → number_of n k < 1024
    number_small k small = rw e (go k)
      where
        go : (k : ℕ) → number_of (shape_of ws) k < 1024
        go zero = let p = c.parks in omega arith
        go (suc zero) = let s = small 1 in omega arith
        go (suc (suc k)) = omega arith

    heads_long : (k : ℕ) → k ≤ 2 → head_at k (number_of n k) ≤ length ws - begins n k
    unfolding head_at
    heads_long zero h = let l = counted_long e c in omega arith
    heads_long (suc zero) h = let l = counted_long e c in omega arith
    heads_long (suc (suc zero)) h = let l = counted_long e c in omega arith
    heads_long (suc (suc (suc k))) h = absurd (omega arith)

    pub lent_within : Words ws → (k : ℕ) → k ≤ 2 → {a : ℕ} → a ≡ begins n k → (number_of n k < 1024) × (head_at k (number_of n k) ≤ length (from ws a))
    lent_within small k h here = (number_small k small, rw (here, part_lent (begins n k) ws, length-drop (begins n k) ws) (heads_long k h))
