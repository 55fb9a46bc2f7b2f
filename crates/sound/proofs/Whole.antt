-- What the check finds of a whole area is what makes it sound: from each clause of the one to each clause of the other, both ways. Assumes nothing.
use Prim.Native.Nat.{ℕ, ◌+◌, ◌*◌, ◌/◌, ◌%◌, ◌≤◌, ◌<◌}
use native.Mathlib.Decide.{ℕ_discrete}
use native.Mathlib.Omega.{arith}
use mathlib.Core.Path.{◌≡◌, refl, sym, ◌∙◌, ap, subst}
use mathlib.Core.Logic.{◌≢◌, ◌⊎◌, inl, inr, ⊎_elim}
use mathlib.Core.Bool.{Bool, true, false, not, ◌&&◌, cond, true≢false, false≢true}
use mathlib.Core.List.{List, [], ◌∷◌}
use lib.Dec.{eqb}
use lib.ListN.{get_or}
use Rattle.model.specs.declared.Shape.{Shape}
use Rattle.model.specs.Queue.{Queue, inside, bit, same, exists, member, count, first, All, Falling, is_condition}
use Rattle.model.specs.Queue.Queue.{ready, park, lock, condition}
use Rattle.model.specs.Field.{Field, some, priorities}
use Rattle.model.specs.Field.Field.{clock, running, priority, armed, timer, failed, abort, holder, wakeup, abortable}
use Rattle.model.specs.Machine as machine
use Rattle.model.specs.Rules.{counted}
use Rattle.model.specs.Valid.{room}
use Rattle.model.proofs.Tests.{Case, holds, fails, stops, same_case, eqb_yes, eqb_no, leb_no, inside_bounds}
use Rattle.model.proofs.Lists.{member_here, member_there, members_all}
use Rattle.model.proofs.Places.{at_place, waiting_is}
use Rattle.links.specs.Link as links
use Rattle.links.specs.Link.{slot}
use Rattle.ring.specs.Ring.{last_of, Linked}
use Rattle.ring.proofs.Lists.{member_last}
use Rattle.ring.proofs.Places.{falling_agree}
use Rattle.area.specs.Layout.{Slot, word, at, has}
use Rattle.area.specs.Layout.Part.{kept, tail, next, locked, waiting}
use Rattle.area.specs.Layout.Slot.{Processes, LocksConditions, Parks, Clock, Running, Tail, Holder, Link, Flags, Timer}
use Rattle.area.specs.State.{last}
use Rattle.area.specs.Reading.{shape_of, parts_of, state_of}
use Rattle.area.specs.Rings.{records}
use Rattle.area.specs.Sound.{Sound}
use Rattle.heads.specs.First.{Counted, Runs}
use Rattle.heads.proofs.Tests.{Headed}
use Rattle.members.proofs.Tests.{Asleep, Fits}
use Rattle.members.proofs.Chains.{Words, Member}
use Rattle.sound.proofs.Queues.{kind_of, tail_word, holder_word}
use Rattle.sound.proofs.Lists.{every, every_in, in_every}
use Rattle.sound.proofs.Visits.{reading, total, Visited, link_word, flags_word, timer_word, tail_part, next_part, priority_part, led, total_one, total_two, place_in, place_in_lem}

-- what the check finds
pub record Whole (ws : List ℕ) : Type 0 where
  pub counts : Counted ws
  pub runs : Runs ws (records (shape_of ws) ws)
  pub each : (q : Queue) → exists (shape_of ws) q ≡ true → Visited ws q
  pub once : (x : ℕ) → total ws x (every (shape_of ws)) ≡ bit (inside (get_or ws 0 0) x)

-- ---- lists

-- who comes after a member of a ring is a member
chain_next : (f : ℕ → ℕ) (x : ℕ) (xs : List ℕ) → Linked f x xs → (p : ℕ) → member p (x ∷ xs) ≡ true → (p ≡ last_of x xs) ⊎ (member (f p) xs ≡ true)
chain_next f x [] c p m = go (ℕ_discrete x p)
  where
    go : Dec (x ≡ p) → (p ≡ x) ⊎ (member (f p) [] ≡ true)
    go (yes e) = inl (sym e)
    go (no n) = absurd (false≢true (rw (eqb_no x p n) at m))
chain_next f x (y ∷ ys) c p m = go (ℕ_discrete x p) (chain_next f y ys c.1 p)
  where
    there : (p ≡ last_of y ys) ⊎ (member (f p) ys ≡ true) → (p ≡ last_of y ys) ⊎ (member (f p) (y ∷ ys) ≡ true)
    there (inl e) = inl e
    there (inr i) = inr (member_there (f p) y ys i)

    go : Dec (x ≡ p) → (member p (y ∷ ys) ≡ true → (p ≡ last_of y ys) ⊎ (member (f p) ys ≡ true)) → (p ≡ last_of y ys) ⊎ (member (f p) (y ∷ ys) ≡ true)
    go (yes e) ih = inr (subst (λ (v : ℕ). member v (y ∷ ys) ≡ true) (sym (ap f (sym e) ∙ c.0)) (member_here y ys))
    go (no n) ih = there (ih (rw (eqb_no x p n) at m))

ring_next : (f : ℕ → ℕ) (xs : List ℕ) → Linked f (last xs) xs → (p : ℕ) → member p xs ≡ true → member (f p) xs ≡ true
ring_next f [] c p m = absurd (false≢true m)
ring_next f (x ∷ xs) c p m = go (chain_next f x xs c.1 p m)
  where
    go : (p ≡ last_of x xs) ⊎ (member (f p) xs ≡ true) → member (f p) (x ∷ xs) ≡ true
    go (inl e) = subst (λ (v : ℕ). member v (x ∷ xs) ≡ true) (sym (ap f e ∙ c.0)) (member_here x xs)
    go (inr i) = member_there (f p) x xs i

-- ---- values

ranged : (b : Bool) (x v : ℕ) → x < v → cond b x 0 < cond b v 1
ranged true x v h = h
ranged false x v h = omega arith

-- locked, from the words of a lock
lock_bit : (P w v : ℕ) → P ≤ 1023 → Headed P 1 w v → w / 1 % 2 ≡ bit (not (eqb (v / 8 % 1024) 0))
lock_bit P w v s h = elim (ℕ_discrete v 0) [
  | yes e ↦ let a = h.plain e (λ z. omega arith) in rw (eqb_yes (v / 8 % 1024) 0 (omega arith)) (omega arith)
  | no n ↦ let a = h.held n in let b = h.whole in let c = h.holder in rw (eqb_no (v / 8 % 1024) 0 (λ z. n (omega arith))) (omega arith)
]

-- waiting, from the flags of a member
flag_bit : (q : Queue) (w f t : ℕ) → Fits (kind_of q) w f t → f / 2 % 2 ≡ bit (is_condition q)
flag_bit ready w f t h = let a = h.idle (λ z. omega arith) in omega arith
flag_bit (park k) w f t h = let a = h.idle (λ z. omega arith) in omega arith
flag_bit (lock l) w f t h = let a = h.idle (λ z. omega arith) in omega arith
flag_bit (condition c) w f t h = ⊎_elim (λ d. omega arith) (λ d. let a = d.0 in omega arith) (h.waits refl).0

-- without armed there is no timer
flag_timer : (k w f t : ℕ) → Fits k w f t → f / 4 % 2 ≡ 0 → t ≡ 0
flag_timer k w f t h e = elim (ℕ_discrete k 2) [
  | yes d ↦ ⊎_elim (λ a. let z : ⊥ = omega arith in absurd z) (λ a. a.1) (h.waits d).0
  | no d ↦ (h.idle d).0.1
]

no_condition : (q : Queue) → is_condition q ≡ false → kind_of q ≡ 2 → ⊥
no_condition ready e z = omega arith
no_condition (park k) e z = omega arith
no_condition (lock l) e z = omega arith
no_condition (condition c) e z = true≢false e

-- the link and the flags of a member, and the word of a queue, are their parts
low_three : (w : ℕ) → w % 8 ≡ w / 4 % 2 * 4 + w / 2 % 2 * 2 + w / 1 % 2
low_three w =
    let a : w % 4 ≡ w / 2 % 2 * 2 + w / 1 % 2 = omega arith in
    let b : w % 8 ≡ w / 4 % 2 * 4 + w % 4 = omega arith in
    omega arith

flag_tidy : (f t : ℕ) → Asleep f t → f ≡ f / 4 % 2 * 4 + f / 2 % 2 * 2 + f / 1 % 2
flag_tidy f t (inl d) = omega (arith, low_three f)
flag_tidy f t (inr d) = omega (arith, low_three f, d.0)

record_tidy : (k w f t : ℕ) → w < 65536 → Fits k w f t → (w ≡ w / 8192 % 8 * 8192 + w / 8 % 1024 * 8 + w / 4 % 2 * 4) × (f ≡ f / 4 % 2 * 4 + f / 2 % 2 * 2 + f / 1 % 2)
record_tidy k w f t s h =
    let a : w % 8192 ≡ w / 8 % 1024 * 8 + w % 8 = omega arith in
    elim (ℕ_discrete k 2) [
      | yes e ↦ let b = (h.waits e).1 in (omega arith, flag_tidy f t (h.waits e).0)
      | no n ↦ let b = h.idle n in (omega arith, omega arith)
    ]

lock_tidy : (P w v : ℕ) → P ≤ 1023 → Headed P 1 w v → w ≡ w / 8 % 1024 * 8 + w / 1 % 2
lock_tidy P w v s h =
    let a = h.tail in elim (ℕ_discrete v 0) [ yes e ↦ let b = h.plain e (λ z. omega arith) in omega arith | no n ↦ let b = h.held n in omega arith ]

condition_tidy : (P w : ℕ) → P ≤ 1023 → Headed P 2 w 0 → w ≡ w / 8 % 1024 * 8 + w / 2 % 2 * 2 + w / 1 % 2
condition_tidy P w s h =
    let a : w / 8 % 1024 ≡ w / 8 = omega (arith, h.tail) in
    let b : w / 4 % 2 ≡ 0 = omega (arith, low_three w, (h.wakes refl refl).0) in
    omega (arith, low_three w)

-- ---- from what the check finds to a sound area

module _ (ws : List ℕ) (small : Words ws) (W : Whole ws) where
  abbrev n : Shape
  n = shape_of ws

  abbrev P : ℕ
  P = get_or ws 0 0

  abbrev rs : List ℕ
  rs = records (shape_of ws) ws

  most : P ≤ 1023
  most = W.counts.processes

  -- a queue that the counts do not give is empty
  none_there : (q : Queue) → exists n q ≡ false → reading ws q ≡ []
  none_there q h = rw h

  -- a member of a queue
  there : (x : ℕ) (q : Queue) → member x (reading ws q) ≡ true → (exists n q ≡ true) × Member rs P (kind_of q) (holder_word ws q / 8) x
  there x q m = go (exists n q) refl
    where
      go : (b : Bool) → exists n q ≡ b → (exists n q ≡ true) × Member rs P (kind_of q) (holder_word ws q / 8) x
      go true h = (h, members_all (Member rs P (kind_of q) (holder_word ws q / 8)) (reading ws q) (W.each q h).ring.members x m)
      go false h = absurd (false≢true (rw (none_there q h) at m))

  -- its record
  record_fits : (x k : ℕ) → Fits k (links.link rs x) (get_or rs (slot x + 1) 0) (get_or rs (slot x + 2) 0) → Fits k (get_or ws (at n (Link x)) 0) (get_or ws (at n (Flags x)) 0) (get_or ws (at n (Timer x)) 0)
  record_fits x k f = rw (link_word ws x, flags_word ws x, timer_word ws x) at f

  place : ℕ → Queue
  place x = place_in ws x (every n)

  placed : (x : ℕ) → inside P x ≡ true → (exists n (place x) ≡ true) × (1 ≤ count x (reading ws (place x)))
  unfolding place
  placed x i =
      let t = W.once x in
      let o : bit (inside P x) ≡ 1 = rw i in
      let k = place_in_lem ws x (every n) (omega arith) in
      (in_every n (place_in ws x (every n)) k.0, k.1)

  -- it stands there, and nowhere else
  here : (x : ℕ) (q : Queue) → exists n q ≡ true → inside P x ≡ true → Case (place x ≡ q) (place x ≢ q) (same (place x) q) → count x (reading ws q) ≡ bit (same (place x) q)
  here x q h i (holds e d) =
      let t = W.once x in
      let o : bit (inside P x) ≡ 1 = rw i in
      let k = total_one ws x (every n) q (every_in n q h) in
      let l : 1 ≤ count x (reading ws q) = rw (← e) (placed x i).1 in
      rw d (omega arith)
  here x q h i (fails e d) =
      let t = W.once x in
      let o : bit (inside P x) ≡ 1 = rw i in
      let l = placed x i in
      let k = total_two ws x (every n) (place x) q (every_in n (place x) l.0) (every_in n q h) e in
      rw d (omega arith)

  stands : (x : ℕ) (q : Queue) → count x (reading ws q) ≡ bit (inside P x && same (place x) q)
  stands x q = go (exists n q) refl (inside P x) refl
    where
      go : (b : Bool) → exists n q ≡ b → (i : Bool) → inside P x ≡ i → count x (reading ws q) ≡ bit (inside P x && same (place x) q)
      go true h false i =
          let t = W.once x in
          let o : bit (inside P x) ≡ 0 = rw i in
          let k = total_one ws x (every n) q (every_in n q h) in
          rw i (omega arith)
      go false h false i = rw (none_there q h, i)
      go true h true i = rw i (here x q h i (same_case (place x) q))
      go false h true i =
          rw (none_there q h, i, stops (same_case (place x) q) (λ e. true≢false (sym (placed x i).0 ∙ rw e h)))

  -- the record of each process is that of a member of its place
  own : (x : ℕ) → inside P x ≡ true → Fits (kind_of (place x)) (get_or ws (at n (Link x)) 0) (get_or ws (at n (Flags x)) 0) (get_or ws (at n (Timer x)) 0)
  own x i = record_fits x (kind_of (place x)) (there x (place x) (at_place P (reading ws) place stands x (place x) i refl)).1.fits

  nexts_at : (x : ℕ) → parts_of n ws (next x) ≤ P
  nexts_at x = go (inside P x) refl
    where
      go : (b : Bool) → inside P x ≡ b → parts_of n ws (next x) ≤ P
      go false i = rw i (omega arith)
      go true i =
          let q = place x in
          let v = W.each q (placed x i).0 in
          let m = at_place P (reading ws) place stands x q i refl in
          let l : Linked (links.next rs) (last (reading ws q)) (reading ws q) = rw v.ring.ends v.ring.linked in
          rw (next_part ws x i) (inside_bounds P (links.next rs x) (there (links.next rs x) q (ring_next (links.next rs) (reading ws q) l x m)).1.within).1

  -- running
  first_within : (get_or ws 5 0 / 8 ≡ 0 → ⊥) → links.next rs (get_or ws 5 0 / 8) ≤ P
  first_within z = (inside_bounds P (links.next rs (get_or ws 5 0 / 8)) (led ws (W.each ready refl) z).1).1

  run_word : (get_or ws 4 0 / 8 ≤ P) × (get_or ws 4 0 % 8 ≡ 0)
  run_word = elim (ℕ_discrete (get_or ws 5 0 / 8) 0) [
    | yes e ↦ let a = W.runs.nobody e in (omega arith, omega arith)
    | no e ↦ let b = (W.runs.somebody e).first in let c = first_within e in (omega arith, omega arith)
  ]

  counts_are : counted n ≡ true
  counts_are =
      let c = W.counts in let s = small 1 in
      rw (eqb_no P 0 (omega arith), leb_no 1024 P (omega arith), leb_no 256 (get_or ws 1 0 / 256) (omega arith), leb_no 256 (get_or ws 1 0 % 256) (omega arith), leb_no 9 (get_or ws 2 0 / 4096) (omega arith))

  tidy_at : (a : Slot) → has n a ≡ true → get_or ws (at n a) 0 ≡ word n (parts_of n ws) a
  tidy_at Processes h = refl
  tidy_at LocksConditions h = omega arith
  tidy_at Parks h = omega (arith, W.counts.unnamed)
  tidy_at Clock h = omega (arith, small 3)
  tidy_at Running h = omega (arith, run_word, most)
  tidy_at (Tail ready) h = let d = (W.each ready refl).head in omega (arith, d.plain refl (λ z. omega arith), d.tail, most)
  tidy_at (Tail (park k)) h = let d = (W.each (park k) h).head in rw h (omega (arith, d.plain refl (λ z. omega arith), d.tail, most))
  tidy_at (Tail (lock l)) h = rw h (lock_tidy _ _ _ most (W.each (lock l) h).head)
  tidy_at (Tail (condition c)) h = rw h (condition_tidy _ _ most (W.each (condition c) h).head)
  tidy_at (Holder l) h = let d = (W.each (lock l) h).head in rw h (omega (arith, d.whole, d.holder, most))
  tidy_at (Link p) h = rw h (record_tidy _ _ _ _ (small (at n (Link p))) (own p h)).0
  tidy_at (Flags p) h = rw h (record_tidy _ _ _ _ (small (at n (Link p))) (own p h)).1
  tidy_at (Timer p) h = rw h (omega (arith, small (at n (Timer p))))

  tails_at : (q : Queue) → parts_of n ws (tail q) ≤ P
  tails_at q = go (exists n q) refl
    where
      go : (b : Bool) → exists n q ≡ b → parts_of n ws (tail q) ≤ P
      go true h = let t = (W.each q h).head.tail in rw (tail_part ws q h most t) t
      go false h = rw h (omega arith)

  closed_at : (q : Queue) → last (reading ws q) ≡ parts_of n ws (tail q)
  closed_at q = go (exists n q) refl
    where
      go : (b : Bool) → exists n q ≡ b → last (reading ws q) ≡ parts_of n ws (tail q)
      go true h = let v = W.each q h in v.ring.ends ∙ sym (tail_part ws q h most v.head.tail)
      go false h = rw (none_there q h, h)

  real_at : (x : ℕ) → inside P x ≡ true → exists n (place x) ≡ true
  real_at x i = (placed x i).0

  waits_at : (x : ℕ) → parts_of n ws (waiting x) ≡ bit (machine.waiting n (reading ws) x)
  waits_at x = rw (waiting_is n (reading ws) place stands x (real_at x)) (go (inside P x) refl)
    where
      go : (b : Bool) → inside P x ≡ b → parts_of n ws (waiting x) ≡ bit (inside P x && is_condition (place x))
      go true i = rw i (flag_bit (place x) _ _ _ (own x i))
      go false i = rw i

  locks_at_lem : (l : ℕ) → parts_of n ws (locked l) ≡ bit (machine.locked (state_of ws).fields l)
  locks_at_lem l = go (inside n.locks l) refl
    where
      go : (b : Bool) → inside n.locks l ≡ b → parts_of n ws (locked l) ≡ bit (machine.locked (state_of ws).fields l)
      go true h = rw h (lock_bit P (tail_word ws (lock l)) (holder_word ws (lock l)) most (W.each (lock l) h).head)
      go false h = rw h

  range_at : (f : Field) → parts_of n ws (kept f) < room n f
  range_at clock = omega arith
  range_at running = omega (arith, run_word.0)
  range_at (priority p) = ranged (inside P p) _ 8 (omega arith)
  range_at (armed p) = ranged (inside P p) _ 2 (omega arith)
  range_at (timer p) = ranged (inside P p) _ 65536 (omega arith)
  range_at (failed p) = ranged (inside P p) _ 2 (omega arith)
  range_at (abort p) = ranged (inside P p) _ 2 (omega arith)
  range_at (holder l) = go (inside n.locks l) refl
    where
      go : (b : Bool) → inside n.locks l ≡ b → parts_of n ws (kept (holder l)) < room n (holder l)
      go true h = let d = (W.each (lock l) h).head.holder in rw h (omega arith)
      go false h = rw h (omega arith)
  range_at (wakeup c) = ranged (inside n.conditions c) _ 2 (omega arith)
  range_at (abortable c) = ranged (inside n.conditions c) _ 2 (omega arith)

  falls_at : (q : Queue) → Falling (priorities (state_of ws).fields) (reading ws q)
  falls_at q = go (exists n q) refl
    where
      level : (x : ℕ) → member x (reading ws q) ≡ true → links.priority rs x ≡ parts_of n ws (kept (priority x))
      level x m = sym (priority_part ws x small (there x q m).1.within)

      go : (b : Bool) → exists n q ≡ b → Falling (priorities (state_of ws).fields) (reading ws q)
      go true h = falling_agree (links.priority rs) (priorities (state_of ws).fields) (reading ws q) (λ p m. sym (level p m)) (W.each q h).ring.falls
      go false h = rw (none_there q h) tt

  runs_at : get_or ws 4 0 / 8 % 1024 ≡ first (reading ws ready)
  runs_at = go (reading ws ready) v.ring.linked v.ring.ends v.ring.members
    where
      v : Visited ws ready
      v = W.each ready refl

      go : (ys : List ℕ) → Linked (links.next rs) (get_or ws 5 0 / 8) ys → last_of 0 ys ≡ get_or ws 5 0 / 8 → All (Member rs P 0 0) ys → get_or ws 4 0 / 8 % 1024 ≡ first ys
      go [] l e m = let a = W.runs.nobody (sym e) in omega arith
      go (y ∷ ys) l e m =
          let b = inside_bounds P (last_of y ys) (members_all (Member rs P 0 0) (y ∷ ys) m (last_of y ys) (member_last y ys)).within in
          let z : get_or ws 5 0 / 8 ≡ 0 → ⊥ = λ z. omega arith in
          let f = (W.runs.somebody z).first in let w = first_within z in let o = l.0 in let u = most in
          omega arith

  steady_at : parts_of n ws (kept (failed (get_or ws 4 0 / 8 % 1024))) ≡ 0
  steady_at = go (inside P (get_or ws 4 0 / 8 % 1024)) refl (ℕ_discrete (get_or ws 5 0 / 8) 0)
    where
      go : (b : Bool) → inside P (get_or ws 4 0 / 8 % 1024) ≡ b → Dec (get_or ws 5 0 / 8 ≡ 0) → parts_of n ws (kept (failed (get_or ws 4 0 / 8 % 1024))) ≡ 0
      go false i d = rw i
      go true i (yes e) = let a = W.runs.nobody e in let b = inside_bounds P (get_or ws 4 0 / 8 % 1024) i in absurd (omega arith)
      go true i (no e) =
          let a = W.runs.somebody e in
          let f = a.first in let w = first_within e in let u = most in
          let z : get_or ws 4 0 / 8 % 1024 ≡ links.next rs (get_or ws 5 0 / 8) = omega arith in
          rw (i, z, ← link_word ws (links.next rs (get_or ws 5 0 / 8))) a.clear

  arms_at : (x : ℕ) → machine.waiting n (reading ws) x ≡ false → parts_of n ws (kept (armed x)) ≡ 0
  arms_at x w = go (inside P x) refl
    where
      go : (b : Bool) → inside P x ≡ b → parts_of n ws (kept (armed x)) ≡ 0
      go false i = rw i
      go true i =
          let e : is_condition (place x) ≡ false = rw i at (sym (waiting_is n (reading ws) place stands x (real_at x)) ∙ w) in
          let t = ((own x i).idle (no_condition (place x) e)).0.0 in
          rw i (omega arith)

  timers_at : (x : ℕ) → parts_of n ws (kept (armed x)) ≡ 0 → parts_of n ws (kept (timer x)) ≡ 0
  timers_at x a = go (inside P x) refl
    where
      go : (b : Bool) → inside P x ≡ b → parts_of n ws (kept (timer x)) ≡ 0
      go false i = rw i
      go true i = let t = flag_timer _ _ _ _ (own x i) (rw i at a) in rw i (omega arith)

  blocked_at : (l x : ℕ) → member x (reading ws (lock l)) ≡ true → parts_of n ws (kept (failed x)) ≡ 1
  blocked_at l x m = let k = (there x (lock l) m).1 in let f = (record_fits x 1 k.fits).blocked refl in rw k.within (omega arith)

  asleep_at : (c x : ℕ) → member x (reading ws (condition c)) ≡ true → parts_of n ws (kept (failed x)) ≡ 0
  asleep_at c x m = let k = (there x (condition c) m).1 in let f = ((record_fits x 2 k.fits).waits refl).1 in rw k.within (omega arith)

  holders_at : (l : ℕ) → member (parts_of n ws (kept (holder l))) (reading ws (lock l)) ≡ false
  holders_at l = go (member (parts_of n ws (kept (holder l))) (reading ws (lock l))) refl
    where
      go : (b : Bool) → member (parts_of n ws (kept (holder l))) (reading ws (lock l)) ≡ b → b ≡ false
      go false m = refl
      go true m =
          let k = there (parts_of n ws (kept (holder l))) (lock l) m in
          let d = (W.each (lock l) k.0).head.holder in let u = most in
          let e : parts_of n ws (kept (holder l)) ≡ holder_word ws (lock l) / 8 = rw k.0 (omega arith) in
          absurd (k.1.free e)

  wakeups_at : (c : ℕ) → some (parts_of n ws (kept (wakeup c))) ≡ true → reading ws (condition c) ≡ []
  wakeups_at c w = go (inside n.conditions c) refl
    where
      go : (b : Bool) → inside n.conditions c ≡ b → reading ws (condition c) ≡ []
      go false h = none_there (condition c) h
      go true h =
          let d = (W.each (condition c) h).head in
          let k = d.wakes refl refl in
          let o : get_or ws (at n (Tail (condition c))) 0 / 1 % 2 ≡ 0 → ⊥ = λ z. false≢true (rw (h, z) at w) in
          let e : tail_word ws (condition c) % 2 ≡ 1 = elim (ℕ_discrete (get_or ws (at n (Tail (condition c))) 0 / 1 % 2) 0) [ yes z ↦ absurd (o z) | no z ↦ omega arith ] in
          let f = k.1 e in
          let t : parts_of n ws (tail (condition c)) ≡ 0 = rw h (omega arith) in
          rw t

  pub whole_sound : Sound ws
  whole_sound = record {
    long = W.counts.long;
    tails = tails_at;
    nexts = nexts_at;
    tidy = tidy_at;
    closed = closed_at;
    waits = waits_at;
    locks = locks_at_lem;
    valid = record {
      placed = record { counts = counts_are; range = range_at; place = place; real = real_at; once = stands; falls = falls_at };
      runs = runs_at;
      steady = steady_at;
      arms = arms_at;
      timers = timers_at;
      blocked = blocked_at;
      asleep = asleep_at;
      holders = holders_at;
      wakeups = wakeups_at;
    };
  }
