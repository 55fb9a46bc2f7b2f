-- A pass over queues accepts exactly rings of processes of which none is met twice, and the rings are the readings of the queues. Assumes nothing.
use Prim.Native.Nat.{ℕ, ◌+◌, ◌/◌, ◌≤◌}
use native.Mathlib.Omega.{arith}
use mathlib.Core.Path.{◌≡◌, refl, sym, ◌∙◌, ap}
use mathlib.Core.Logic.{◌≢◌, inl, inr}
use mathlib.Core.Bool.{Bool, true, false, ◌&&◌, cond}
use mathlib.Core.List.{List, [], ◌∷◌}
use Rattle.std.proofs.Common.{Option, None, Some}
use Rattle.std.proofs.lemmas.Option.{none-some, same_Some}
use lib.ListN.{get_or}
use lib.Seq.{get_or-drop}
use Rattle.model.specs.Queue.{Queue, inside, bit, same, exists, member, count, All}
use Rattle.model.specs.Queue.Queue.{ready}
use Rattle.model.specs.Field.Field.{priority}
use Rattle.model.proofs.Tests.{inside_bounds}
use Rattle.model.proofs.Lists.{member_count, absent_count, at_most, members_all}
use Rattle.links.specs.Link as links
use Rattle.links.specs.Link.{slot}
use Rattle.ring.specs.Ring.{last_of, Linked}
use Rattle.ring.proofs.Lists.{member_last}
use Rattle.area.specs.Layout.{at, records_at}
use Rattle.area.specs.Layout.Part.{kept, tail, next}
use Rattle.area.specs.Layout.Slot.{Link, Flags, Timer}
use Rattle.area.specs.Reading.{shape_of, parts_of, queue_of}
use Rattle.area.specs.Rings.{records}
use Rattle.area.proofs.Rings.{Once, ring_ext, In}
use Rattle.area.proofs.States.{read_ring}
use Rattle.heads.specs.Heads.{heading}
use Rattle.heads.proofs.Tests.{Headed, heading_is, is_heading}
use Rattle.members.proofs.Chains.{Words, Member, Ringed, ring_read, ring_full, onto, count_onto}
use Rattle.sound.specs.Passed.{then}
use Rattle.sound.proofs.Queues.{kind_of, tail_word, holder_word, visit, visits}
use Rattle.sound.proofs.Lists.{hits}

-- the reading of a queue
abbrev pub reading : List ℕ → Queue → List ℕ
reading ws q = queue_of (shape_of ws) (parts_of (shape_of ws) ws) q

-- how often x stands in some queues
abbrev pub total : List ℕ → ℕ → List Queue → ℕ
total ws x [] = 0
total ws x (q ∷ qs) = count x (reading ws q) + total ws x qs

-- a queue whose words are in order and whose reading is a ring
pub record Visited (ws : List ℕ) (q : Queue) : Type 0 where
  pub head : Headed (get_or ws 0 0) (kind_of q) (tail_word ws q) (holder_word ws q)
  pub ring : Ringed (records (shape_of ws) ws) (get_or ws 0 0) (kind_of q) (holder_word ws q / 8) (tail_word ws q / 8) (reading ws q)

-- ---- what the words say of a queue and of a process

-- the words of a record
module _ (ws : List ℕ) (p : ℕ) where
  pub link_word : links.link (records (shape_of ws) ws) p ≡ get_or ws (at (shape_of ws) (Link p)) 0
  link_word = get_or-drop (records_at (shape_of ws)) ws (slot p) 0

  pub flags_word : get_or (records (shape_of ws) ws) (slot p + 1) 0 ≡ get_or ws (at (shape_of ws) (Flags p)) 0
  flags_word = get_or-drop (records_at (shape_of ws)) ws (slot p + 1) 0 ∙ ap (λ (i : ℕ). get_or ws i 0) (omega arith)

  pub timer_word : get_or (records (shape_of ws) ws) (slot p + 2) 0 ≡ get_or ws (at (shape_of ws) (Timer p)) 0
  timer_word = get_or-drop (records_at (shape_of ws)) ws (slot p + 2) 0 ∙ ap (λ (i : ℕ). get_or ws i 0) (omega arith)

records_small : (ws : List ℕ) → Words ws → Words (records (shape_of ws) ws)
records_small ws small i = rw (get_or-drop (records_at (shape_of ws)) ws i 0) (small (records_at (shape_of ws) + i))

pub tail_part : (ws : List ℕ) (q : Queue) → exists (shape_of ws) q ≡ true → get_or ws 0 0 ≤ 1023 → tail_word ws q / 8 ≤ get_or ws 0 0 → parts_of (shape_of ws) ws (tail q) ≡ tail_word ws q / 8
tail_part ws q h s l = rw h (omega arith)

pub next_part : (ws : List ℕ) (p : ℕ) → inside (get_or ws 0 0) p ≡ true → parts_of (shape_of ws) ws (next p) ≡ links.next (records (shape_of ws) ws) p
unfolding links.next
next_part ws p h = rw (h, link_word ws p)

pub priority_part : (ws : List ℕ) (p : ℕ) → Words ws → inside (get_or ws 0 0) p ≡ true → parts_of (shape_of ws) ws (kept (priority p)) ≡ links.priority (records (shape_of ws) ws) p
unfolding links.priority
priority_part ws p small h = rw (h, link_word ws p) (omega (arith, small (at (shape_of ws) (Link p))))

once_inside : (P : ℕ) (xs : List ℕ) → Once xs → ((x : ℕ) → member x xs ≡ true → inside P x ≡ true) → (x : ℕ) → count x xs ≤ bit (inside P x)
once_inside P xs o m x = go (member x xs) refl
  where
    go : (b : Bool) → member x xs ≡ b → count x xs ≤ bit (inside P x)
    go true e = rw (m x e) (o x)
    go false e = let z = absent_count x xs e in omega arith

-- a ring is its queue's reading
read_queue : (ws : List ℕ) (q : Queue) (k o : ℕ) (ys : List ℕ) → exists (shape_of ws) q ≡ true → get_or ws 0 0 ≤ 1023 → tail_word ws q / 8 ≤ get_or ws 0 0 → Once ys
    → Ringed (records (shape_of ws) ws) (get_or ws 0 0) k o (tail_word ws q / 8) ys → reading ws q ≡ ys
read_queue ws q k o ys h s l once R =
    rw (tail_part ws q h s l, ← R.ends)
    (read_ring (λ p. parts_of (shape_of ws) ws (next p)) (get_or ws 0 0) ys
    (ring_ext (links.next (records (shape_of ws) ws)) (λ p. parts_of (shape_of ws) ws (next p)) ys (λ p m. sym (next_part ws p (ins p m))) (rw (← R.ends) at R.linked))
    once
    (λ p m. (inside_bounds (get_or ws 0 0) p (ins p m)).0)
    (at_most (get_or ws 0 0) ys (once_inside (get_or ws 0 0) ys once ins)))
  where
    ins : (p : ℕ) → member p ys ≡ true → inside (get_or ws 0 0) p ≡ true
    ins p m = (members_all (Member (records (shape_of ws) ws) (get_or ws 0 0) k o) ys R.members p m).within

-- ---- one queue

record Visit (ws : List ℕ) (q : Queue) (js js' : List ℕ) : Type 0 where
  visited : Visited ws q
  counts : (x : ℕ) → count x js' ≡ count x (reading ws q) + count x js
  once : Once js'

visit_read : (ws : List ℕ) (q : Queue) (js js' : List ℕ) → exists (shape_of ws) q ≡ true → get_or ws 0 0 ≤ 1023 → Once js → visit ws q js ≡ Some js' → Visit ws q js js'
unfolding visit
visit_read ws q js js' h s once w = go (heading (get_or ws 0 0) (kind_of q) (tail_word ws q) (holder_word ws q)) refl
  where
    go : (b : Bool) → heading (get_or ws 0 0) (kind_of q) (tail_word ws q) (holder_word ws q) ≡ b → Visit ws q js js'
    go false e = absurd (none-some js' (rw e at w))
    go true e =
        let d = heading_is (get_or ws 0 0) (kind_of q) (tail_word ws q) (holder_word ws q) e in
        let a = ring_read (records (shape_of ws) ws) (get_or ws 0 0) (kind_of q) (holder_word ws q / 8) (tail_word ws q / 8) js js' (rw e at w) in
        let sum : (x : ℕ) → count x js' ≡ count x a.ys + count x js = λ x. ap (count x) a.done ∙ count_onto x a.ys js in
        let r = read_queue ws q (kind_of q) (holder_word ws q / 8) a.ys h s d.tail (λ x. let y = a.once once x in let z = sum x in omega arith) a.ring in
        record { visited = record { head = d; ring = rw r a.ring }; counts = λ x. rw r (sum x); once = a.once once }

visit_full : (ws : List ℕ) (q : Queue) (js : List ℕ) → Words ws → Visited ws q → ((x : ℕ) → count x (reading ws q) + count x js ≤ bit (inside (get_or ws 0 0) x)) → visit ws q js ≡ Some (onto (reading ws q) js)
unfolding visit
visit_full ws q js small v c =
    rw (is_heading (get_or ws 0 0) (kind_of q) (tail_word ws q) (holder_word ws q) v.head)
    (ring_full (records (shape_of ws) ws) (get_or ws 0 0) (kind_of q) (holder_word ws q / 8) (tail_word ws q / 8) (records_small ws small) (reading ws q) js v.ring c)

-- the tail of ready, if it has one, and who comes after it are processes
pub led : (ws : List ℕ) → Visited ws ready → (get_or ws 5 0 / 8 ≡ 0 → ⊥)
    → (inside (get_or ws 0 0) (get_or ws 5 0 / 8) ≡ true) × (inside (get_or ws 0 0) (links.next (records (shape_of ws) ws) (get_or ws 5 0 / 8)) ≡ true)
led ws v z = go (reading ws ready) v.ring.linked v.ring.ends v.ring.members
  where
    T : ℕ → Type 0
    T = Member (records (shape_of ws) ws) (get_or ws 0 0) 0 0

    go : (ys : List ℕ) → Linked (links.next (records (shape_of ws) ws)) (get_or ws 5 0 / 8) ys → last_of 0 ys ≡ get_or ws 5 0 / 8 → All T ys
        → (inside (get_or ws 0 0) (get_or ws 5 0 / 8) ≡ true) × (inside (get_or ws 0 0) (links.next (records (shape_of ws) ws) (get_or ws 5 0 / 8)) ≡ true)
    go [] l e m = absurd (z (sym e))
    go (y ∷ ys) l e m = (rw (← e) (members_all T (y ∷ ys) m (last_of y ys) (member_last y ys)).within, rw l.0 m.0.within)

-- ---- several queues

pub record AllVisited (ws : List ℕ) (qs : List Queue) (js js' : List ℕ) : Type 0 where
  pub each : All (Visited ws) qs
  pub counts : (x : ℕ) → count x js' ≡ total ws x qs + count x js
  pub once : Once js'

pub visits_read : (ws : List ℕ) (qs : List Queue) (js js' : List ℕ) → All (λ q. exists (shape_of ws) q ≡ true) qs → get_or ws 0 0 ≤ 1023 → Once js → visits ws qs js ≡ Some js' → AllVisited ws qs js js'
unfolding visits
visits_read ws [] js js' h s once w = let d = same_Some js' js (sym w) in record { each = tt; counts = λ x. rw d (omega arith); once = rw d once }
visits_read ws (q ∷ qs) js js' h s once w = go (visit ws q js) refl w (λ is. visits_read ws qs is js' h.1 s)
  where
    go : (out : Option (List ℕ)) → visit ws q js ≡ out → then out (visits ws qs) ≡ Some js' → ((is : List ℕ) → Once is → visits ws qs is ≡ Some js' → AllVisited ws qs is js') → AllVisited ws (q ∷ qs) js js'
    go None e v ih = absurd (none-some js' v)
    go (Some is) e v ih =
        let a = visit_read ws q js is h.0 s once e in
        let b = ih is a.once v in
        record { each = (a.visited, b.each); counts = λ x. let c = a.counts x in let d = b.counts x in omega arith; once = b.once }

pub record Full (ws : List ℕ) (qs : List Queue) (js : List ℕ) : Type 0 where
  pub left : List ℕ
  pub is : visits ws qs js ≡ Some left
  pub counts : (x : ℕ) → count x left ≡ total ws x qs + count x js

pub visits_full : (ws : List ℕ) (qs : List Queue) (js : List ℕ) → Words ws → All (Visited ws) qs → ((x : ℕ) → total ws x qs + count x js ≤ bit (inside (get_or ws 0 0) x)) → Full ws qs js
unfolding visits
visits_full ws [] js small v c = record { left = js; is = refl; counts = λ x. omega arith }
visits_full ws (q ∷ qs) js small v c =
    let o : (x : ℕ) → count x (onto (reading ws q) js) ≡ count x (reading ws q) + count x js = λ x. count_onto x (reading ws q) js in
    let a = visit_full ws q js small v.0 (λ x. let b = c x in omega arith) in
    let f = visits_full ws qs (onto (reading ws q) js) small v.1 (λ x. let b = c x in let d = o x in omega arith) in
    record { left = f.left; is = rw a f.is; counts = λ x. let b = f.counts x in let d = o x in omega arith }

-- ---- where the processes stand

-- two queues of a list have no more of x than the list
module _ (ws : List ℕ) (x : ℕ) where
  pub total_one : (qs : List Queue) (q : Queue) → In q qs → count x (reading ws q) ≤ total ws x qs
  total_one [] q x'' = elim x'' [ ]
  total_one (r ∷ rs) q (inl e) = rw e (omega arith)
  total_one (r ∷ rs) q (inr i) = let h = total_one rs q i in omega arith

  pub total_two : (qs : List Queue) (q p : Queue) → In q qs → In p qs → q ≢ p → count x (reading ws q) + count x (reading ws p) ≤ total ws x qs
  total_two [] q p x4 _ n = elim x4 [ ]
  total_two (r ∷ rs) q p (inl e) (inl d) n = absurd (n (e ∙ sym d))
  total_two (r ∷ rs) q p (inl e) (inr i) n = let h = total_one rs p i in rw e (omega arith)
  total_two (r ∷ rs) q p (inr i) (inl e) n = let h = total_one rs q i in rw e (omega arith)
  total_two (r ∷ rs) q p (inr i) (inr j) n = let h = total_two rs q p i j n in omega arith

  -- a list of queues that has x has it in one of them
  abbrev pub place_in : List Queue → Queue
  place_in [] = ready
  place_in (q ∷ qs) = cond (member x (reading ws q)) q (place_in qs)

  pub place_in_lem : (qs : List Queue) → 1 ≤ total ws x qs → In (place_in qs) qs × (1 ≤ count x (reading ws (place_in qs)))
  place_in_lem [] h = absurd (omega arith)
  place_in_lem (q ∷ qs) h = go (member x (reading ws q)) refl (place_in_lem qs)
    where
      go : (b : Bool) → member x (reading ws q) ≡ b → (1 ≤ total ws x qs → In (place_in qs) qs × (1 ≤ count x (reading ws (place_in qs))))
          → In (cond b q (place_in qs)) (q ∷ qs) × (1 ≤ count x (reading ws (cond b q (place_in qs))))
      go true e ih = (inl refl, member_count x (reading ws q) e)
      go false e ih = let z = absent_count x (reading ws q) e in let k = ih (omega arith) in (inr k.0, k.1)

  pub total_hits : (b : Bool) (r : Queue) → ((q : Queue) → count x (reading ws q) ≡ bit (b && same r q)) → (qs : List Queue) → total ws x qs ≡ cond b (hits r qs) 0
  total_hits true r h [] = refl
  total_hits true r h (q ∷ qs) = let a = h q in let ih = total_hits true r h qs in omega arith
  total_hits false r h [] = refl
  total_hits false r h (q ∷ qs) = let a = h q in let ih = total_hits false r h qs in omega arith
