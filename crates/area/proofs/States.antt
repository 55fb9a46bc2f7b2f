-- Sound areas are exactly the words of valid states, and an area has one state: what a state prescribes reads back as the state, and a sound
-- area's words are what its own reading prescribes. Assumes nothing.
use Prim.Native.Nat.{ℕ, zero, suc, ◌≤◌, ◌<◌}
use native.Mathlib.Omega.{arith}
use mathlib.Core.Path.{◌≡◌, refl, sym, ap, ◌∙◌, subst, fun_ext}
use mathlib.Core.Bool.{Bool, true, false, cond}
use mathlib.Core.List.{List, [], ◌∷◌}
use lib.ListN.{length}
use lib.Dec.{eqb}
use Rattle.model.specs.declared.Shape.{Shape}
use Rattle.model.specs.Queue.{Queue, inside, exists, member, first}
use Rattle.model.specs.Field.{Field}
use Rattle.model.specs.Field.Field.{holder}
use Rattle.model.specs.Machine as machine
use Rattle.model.specs.Machine.{State, model}
use Rattle.model.specs.Valid.{Placed, Valid}
use Rattle.model.proofs.Tests.{eqb_yes, eqb_no, inside_bounds, bit_small}
use Rattle.model.proofs.Lists.{member_here, member_there}
use Rattle.model.proofs.Places.{queue_length, waiting_is}
use Rattle.ring.specs.Ring.{last_of, Linked}
use Rattle.ring.proofs.Lists.{member_last}
use Rattle.area.specs.Layout.{Part, span, home, has, Image}
use Rattle.area.specs.Layout.Part.{kept, tail, next, locked, waiting}
use Rattle.area.specs.State.{last, first_or, after_in, queues, next_in, laid, write}
use Rattle.area.specs.Reading.{shape_of, parts_of, read_from, queue_of, state_of}
use Rattle.area.specs.Sound.{Says, Sound}
use Rattle.area.proofs.Stores.{word_ext, parts_said}
use Rattle.area.proofs.Whole.{counts_in, image_shape, stored_write}
use Rattle.area.proofs.Fields.{room_span}
use Rattle.area.proofs.Rings.{ring_ext, Once, once_rest, once_apart, member_inside, queue_once, queue_none, laid_ring, rings_laid}

-- ---- the words of a placed state have room for it

after_small : (b h : ℕ) (xs : List ℕ) (p : ℕ) → h ≤ b → ((x : ℕ) → member x xs ≡ true → x ≤ b) → after_in h xs p ≤ b
after_small b h [] p k m = omega arith
after_small b h (x ∷ xs) p k m = go (eqb x p) xs (λ y e. m y (member_there y x xs e)) (after_small b h xs p k (λ y e. m y (member_there y x xs e)))
  where
    go : (c : Bool) (ys : List ℕ) → ((y : ℕ) → member y ys ≡ true → y ≤ b) → after_in h xs p ≤ b → cond c (first_or h ys) (after_in h xs p) ≤ b
    go true [] l ih = k
    go true (y ∷ ys) l ih = l y (member_here y ys)
    go false ys l ih = ih

pub first_small : (b : ℕ) (xs : List ℕ) → ((x : ℕ) → member x xs ≡ true → x ≤ b) → first xs ≤ b
first_small b [] m = omega arith
first_small b (x ∷ xs) m = m x (member_here x xs)

pub last_small : (b : ℕ) (xs : List ℕ) → ((x : ℕ) → member x xs ≡ true → x ≤ b) → last xs ≤ b
last_small b [] m = omega arith
last_small b (x ∷ xs) m = m (last_of x xs) (member_last x xs)

module _ (n : Shape) (s : State model) (P : Placed n s) where
  pub members_small : (q : Queue) (x : ℕ) → member x (s.queues q) ≡ true → x ≤ n.processes
  members_small q x m = (inside_bounds n.processes x (member_inside n s P x q m)).1

  next_small : (rs : List Queue) (p : ℕ) → next_in s.queues rs p ≤ n.processes
  next_small [] p = omega arith
  next_small (r ∷ rs) p = go (member p (s.queues r)) (next_small rs p)
    where
      go : (b : Bool) → next_in s.queues rs p ≤ n.processes → cond b (after_in (first (s.queues r)) (s.queues r) p) (next_in s.queues rs p) ≤ n.processes
      go true ih = after_small n.processes (first (s.queues r)) (s.queues r) p (first_small n.processes (s.queues r) (members_small r)) (members_small r)
      go false ih = ih

  -- a field that the counts give has a value of its bits, and any other is 0
  within : (f : Field) (b : Bool) → has n (home (kept f)) ≡ b → s.fields f < cond b (span (kept f)) 1
  within f b h = rw (← h) (let r = P.range f in let k = room_span n P.counts f in omega arith)

  stray : (f : Field) → has n (home (kept f)) ≡ false → s.fields f ≡ 0
  stray f h = let r : s.fields f < 1 = within f false h in omega arith

  pub laid_spans : (f : Part) → has n (home f) ≡ true → laid n s f < span f
  laid_spans (kept f) h = within f true h
  laid_spans (tail q) h = let c = counts_in n P.counts in let r = last_small n.processes (s.queues q) (members_small q) in omega arith
  laid_spans (next p) h = let c = counts_in n P.counts in let r = next_small (queues n) p in omega arith
  laid_spans (locked l) h = let b = bit_small (machine.locked s.fields l) in omega arith
  laid_spans (waiting p) h = let b = bit_small (machine.waiting n s.queues p) in omega arith

-- ---- a ring is read from its first to its last

read_chain : (nx : ℕ → ℕ) (t k x : ℕ) (xs : List ℕ) → last_of x xs ≡ t → Linked nx x xs → Once (x ∷ xs) → length (x ∷ xs) ≤ k → read_from nx t k x ≡ x ∷ xs
read_chain nx t zero x xs e c d h = absurd (omega arith)
read_chain nx t (suc k) x [] e c d h = rw (eqb_yes x t e)
read_chain nx t (suc k) x (y ∷ ys) e c d h =
    rw (eqb_no x t (λ q. once_apart x (y ∷ ys) d (last_of y ys) (member_last y ys) (q ∙ sym e)), c.0)
    (ap {B = List ℕ} (λ r. x ∷ r) (read_chain nx t k y ys e c.1 (once_rest x (y ∷ ys) d) (omega arith)))

pub read_ring : (nx : ℕ → ℕ) (k : ℕ) (xs : List ℕ) → Linked nx (last xs) xs → Once xs → ((x : ℕ) → member x xs ≡ true → 1 ≤ x) → length xs ≤ k
    → cond (eqb (last xs) 0) [] (read_from nx (last xs) k (nx (last xs))) ≡ xs
read_ring nx k [] c d z h = refl
read_ring nx k (x ∷ xs) c d z h =
    let l = z (last_of x xs) (member_last x xs) in
    rw (eqb_no (last_of x xs) 0 (omega arith), c.0) (read_chain nx (last_of x xs) k x xs refl c.1 d h)

-- what is read is a chain
pub chain_read : (nx : ℕ → ℕ) (t k a p : ℕ) → nx a ≡ p → Linked nx a (read_from nx t k p)
chain_read nx t zero a p e = tt
chain_read nx t (suc k) a p e = (e, go (eqb p t) (chain_read nx t k p (nx p) refl))
  where
    go : (b : Bool) → Linked nx p (read_from nx t k (nx p)) → Linked nx p (cond b [] (read_from nx t k (nx p)))
    go true c = tt
    go false c = c

-- ---- the words of a state read back as the state

module _ (n : Shape) (ws : List ℕ) (s : State model) (P : Placed n s) (im : Image n ws (laid n s)) where
  -- a part reads as it is laid, if it is 0 where the counts do not give it
  part_read : (f : Part) → (has n (home f) ≡ false → laid n s f ≡ 0) → parts_of n ws f ≡ laid n s f
  part_read f z = go (has n (home f)) refl
    where
      go : (b : Bool) → has n (home f) ≡ b → parts_of n ws f ≡ laid n s f
      go true h = parts_said n ws (laid n s) im f h
      go false h = rw h (sym (z h))

  fields_read : (f : Field) → parts_of n ws (kept f) ≡ s.fields f
  fields_read f = part_read (kept f) (stray n s P f)

  queue_read : (q : Queue) → queue_of n (parts_of n ws) q ≡ s.queues q
  queue_read q = go (exists n q) refl
    where
      go : (b : Bool) → exists n q ≡ b → queue_of n (parts_of n ws) q ≡ s.queues q
      go false h = rw (h, queue_none n s P q h)
      go true h =
          rw (parts_said n ws (laid n s) im (tail q) h)
          (read_ring (λ p. parts_of n ws (next p)) n.processes (s.queues q)
          (ring_ext (next_in s.queues (queues n)) (λ p. parts_of n ws (next p)) (s.queues q)
          (λ p m. sym (parts_said n ws (laid n s) im (next p) (member_inside n s P p q m))) (laid_ring n s P q h))
          (queue_once n s P q)
          (λ x m. (inside_bounds n.processes x (member_inside n s P x q m)).0)
          (queue_length n.processes s.queues P.place P.once q))

  -- an area that holds a state says its counts and that state, and no other
  pub state_read : state_of ws ≡ s
  state_read =
      ap {A = Shape} {B = State model} (λ m. record { fields = λ f. parts_of m ws (kept f); queues = queue_of m (parts_of m ws) }) (image_shape n ws (laid n s) im)
      ∙ (λ i. record { fields = fun_ext fields_read i; queues = fun_ext queue_read i })

-- ---- sound areas are the words of valid states

module _ (n : Shape) (ws : List ℕ) (s : State model) (valid : Valid n s) (im : Image n ws (laid n s)) where
  pub state_says : Says n s ws
  state_says = record {
    long = im.long;
    tails = tails_at;
    nexts = nexts_at;
    tidy = λ a h. im.words a h ∙ word_ext n (laid n s) (parts_of n ws) a (λ f e. sym (parts_said n ws (laid n s) im f (rw e h)));
    closed = λ q. sym (tail_read q);
    waits = λ p. part_read n ws s P im (waiting p) (λ h. rw (waiting_is n s.queues P.place P.once p (P.real p), h));
    locks = λ l. part_read n ws s P im (locked l) (λ h. rw (stray n s P (holder l) h));
    valid = valid;
  }
    where
      P : Placed n s
      P = valid.placed

      tail_read : (q : Queue) → parts_of n ws (tail q) ≡ last (s.queues q)
      tail_read q = part_read n ws s P im (tail q) (λ h. rw (queue_none n s P q h))

      tails_at : (q : Queue) → parts_of n ws (tail q) ≤ n.processes
      tails_at q = rw (tail_read q) (last_small n.processes (s.queues q) (members_small n s P q))

      nexts_at : (p : ℕ) → parts_of n ws (next p) ≤ n.processes
      nexts_at p = go (inside n.processes p) refl
        where
          go : (b : Bool) → inside n.processes p ≡ b → parts_of n ws (next p) ≤ n.processes
          go true h = rw (parts_said n ws (laid n s) im (next p) h) (next_small n s P (queues n) p)
          go false h = rw h (omega arith)

  -- the words of a valid state are a sound area
  pub image_sound : Sound ws
  image_sound =
      subst (λ (m : Shape). Says m (state_of ws) ws) (sym (image_shape n ws (laid n s) im))
      (subst (λ (t : State model). Says n t ws) (sym (state_read n ws s valid.placed im)) state_says)

-- the words of a sound area are those of the state that it says
module _ (ws : List ℕ) (S : Sound ws) where
  own_ring : (q : Queue) → exists (shape_of ws) q ≡ true → Linked (λ p. parts_of (shape_of ws) ws (next p)) (last ((state_of ws).queues q)) ((state_of ws).queues q)
  own_ring q h = rw (S.closed q) (go (eqb (parts_of (shape_of ws) ws (tail q)) 0))
    where
      nx : ℕ → ℕ
      nx p = parts_of (shape_of ws) ws (next p)

      t : ℕ
      t = parts_of (shape_of ws) ws (tail q)

      go : (b : Bool) → Linked nx t (cond b [] (read_from nx t (shape_of ws).processes (nx t)))
      go true = tt
      go false = chain_read nx t (shape_of ws).processes t (nx t) refl

  own_parts : (f : Part) → has (shape_of ws) (home f) ≡ true → parts_of (shape_of ws) ws f ≡ laid (shape_of ws) (state_of ws) f
  own_parts (kept f) h = refl
  own_parts (tail q) h = sym (S.closed q)
  own_parts (next p) h = rings_laid (shape_of ws) (state_of ws) S.valid.placed (λ p. parts_of (shape_of ws) ws (next p)) own_ring p h
  own_parts (locked l) h = S.locks l
  own_parts (waiting p) h = S.waits p

  pub sound_image : Image (shape_of ws) ws (laid (shape_of ws) (state_of ws))
  sound_image = record {
    counts = S.valid.placed.counts;
    long = S.long;
    words = λ a h. S.tidy a h ∙ word_ext (shape_of ws) (parts_of (shape_of ws) ws) (laid (shape_of ws) (state_of ws)) a (λ f e. own_parts f (rw e h));
    spans = laid_spans (shape_of ws) (state_of ws) S.valid.placed;
  }

  -- its own state, written over it, leaves it as it is
  pub sound_write : write (shape_of ws) (state_of ws) ws ≡ ws
  sound_write = sym (stored_write (shape_of ws) ws ws (state_of ws) record { image = sound_image; beyond = refl })
