-- Validity over the place of each process instead of over queues, and both ways between the two; one law for a put, one for a move. Assumes nothing.
use Prim.Native.Nat.{ℕ, suc, ◌≤◌, ◌<◌}
use native.Mathlib.Omega.{arith}
use mathlib.Core.Path.{◌≡◌, refl, sym, ◌∙◌, subst}
use mathlib.Core.Bool.{Bool, true, false, ◌&&◌, cond, and-false, false≢true}
use mathlib.Core.List.{List, [], ◌∷◌}
use lib.Dec.{eqb}
use Rattle.model.specs.declared.Shape.{Shape}
use Rattle.model.specs.Queue.{Queue, inside, same, exists, member, first, Falling, to_ready, is_condition}
use Rattle.model.specs.Queue.Queue.{ready, park, lock, condition}
use Rattle.model.specs.Field.{Field, Fields, put, some, priorities}
use Rattle.model.specs.Field.Field.{clock, running, priority, armed, timer, failed, abort, holder, wakeup, abortable}
use Rattle.model.specs.Rules.{counted, disarm, calm}
use Rattle.model.specs.Machine.{State, model}
use Rattle.model.specs.Valid.{each, room, Valid}
use Rattle.model.proofs.Tests.{holds, fails, so, not_so, EqCase, eqb_case, PutCase, put_case, put_here, not_true, not_false, bounds_inside}
use Rattle.model.proofs.Lists.{nobody, member_here, member_there}
use Rattle.model.proofs.Places.{sent, relocate, Stands, member_is, stands_at, at_place, waiting_is}

-- the armed bit a and the failed bit b that a process may have in a queue
abbrev pub Fits : Queue → ℕ → ℕ → Type 0
Fits ready a b = a ≡ 0
Fits (park k) a b = a ≡ 0
Fits (lock l) a b = (b ≡ 1) × (a ≡ 0)
Fits (condition c) a b = b ≡ 0

pub record Good (n : Shape) (s : Fields) (place : ℕ → Queue) : Type 0 where
  pub range : (f : Field) → s f < room n f
  pub real : (p : ℕ) → inside n.processes p ≡ true → exists n (place p) ≡ true
  pub fits : (p : ℕ) → inside n.processes p ≡ true → Fits (place p) (s (armed p)) (s (failed p))
  pub timers : (p : ℕ) → s (armed p) ≡ 0 → s (timer p) ≡ 0
  pub holders : (l : ℕ) → some (s (holder l)) ≡ true → same (place (s (holder l))) (lock l) ≡ false
  pub wakeups : (c : ℕ) → some (s (wakeup c)) ≡ true → (p : ℕ) → inside n.processes p ≡ true → same (place p) (condition c) ≡ false

-- ---- a put

-- what a new value of a field must suit besides its range
abbrev pub Suits : Shape → Fields → (ℕ → Queue) → Field → ℕ → Type 0
Suits n s place clock v = Unit {0}
Suits n s place running v = Unit {0}
Suits n s place (priority p) v = Unit {0}
Suits n s place (armed p) v = (inside n.processes p ≡ true → Fits (place p) v (s (failed p))) × (v ≡ 0 → s (timer p) ≡ 0)
Suits n s place (timer p) v = s (armed p) ≡ 0 → v ≡ 0
Suits n s place (failed p) v = inside n.processes p ≡ true → Fits (place p) (s (armed p)) v
Suits n s place (abort p) v = Unit {0}
Suits n s place (holder l) v = some v ≡ true → same (place v) (lock l) ≡ false
Suits n s place (wakeup c) v = some v ≡ true → (p : ℕ) → inside n.processes p ≡ true → same (place p) (condition c) ≡ false
Suits n s place (abortable c) v = Unit {0}

pub good_put : (n : Shape) (s : Fields) (place : ℕ → Queue) (f : Field) (v : ℕ) → Good n s place → v < room n f → Suits n s place f v → Good n (put f v s) place
good_put n s place f v h r k = record {
  range = λ g. range_go g (put_case f g);
  real = h.real;
  fits = λ p i. fits_go p i (put_case f (armed p)) (put_case f (failed p));
  timers = λ p. timers_go p (put_case f (armed p)) (put_case f (timer p));
  holders = λ l. holders_go l (put_case f (holder l));
  wakeups = λ c. wakeups_go c (put_case f (wakeup c));
}
  where
    suits : (g : Field) → f ≡ g → Suits n s place g v
    suits g e = subst (λ (g : Field). Suits n s place g v) e k

    range_go : (g : Field) → PutCase f g → put f v s g < room n g
    range_go g (holds d z) = rw z (rw d at r)
    range_go g (fails d z) = rw z (h.range g)

    fits_go : (p : ℕ) → inside n.processes p ≡ true → PutCase f (armed p) → PutCase f (failed p) → Fits (place p) (put f v s (armed p)) (put f v s (failed p))
    fits_go p i (holds d z) (holds e y) = let w : ◌≡◌ {A = ℕ} 0 1 = cc in let u : ⊥ = omega arith in absurd u
    fits_go p i (holds d z) (fails e y) = rw (z, y) ((suits (armed p) d).0 i)
    fits_go p i (fails d z) (holds e y) = rw (z, y) (suits (failed p) e i)
    fits_go p i (fails d z) (fails e y) = rw (z, y) (h.fits p i)

    timers_go : (p : ℕ) → PutCase f (armed p) → PutCase f (timer p) → put f v s (armed p) ≡ 0 → put f v s (timer p) ≡ 0
    timers_go p (holds d z) (holds e y) = let w : ◌≡◌ {A = ℕ} 0 1 = cc in let u : ⊥ = omega arith in absurd u
    timers_go p (holds d z) (fails e y) = rw (z, y) (suits (armed p) d).1
    timers_go p (fails d z) (holds e y) = rw (z, y) (suits (timer p) e)
    timers_go p (fails d z) (fails e y) = rw (z, y) (h.timers p)

    holders_go : (l : ℕ) → PutCase f (holder l) → some (put f v s (holder l)) ≡ true → same (place (put f v s (holder l))) (lock l) ≡ false
    holders_go l (holds d z) = rw z (suits (holder l) d)
    holders_go l (fails d z) = rw z (h.holders l)

    wakeups_go : (c : ℕ) → PutCase f (wakeup c) → some (put f v s (wakeup c)) ≡ true → (p : ℕ) → inside n.processes p ≡ true → same (place p) (condition c) ≡ false
    wakeups_go c (holds d z) = rw z (suits (wakeup c) d)
    wakeups_go c (fails d z) = rw z (h.wakeups c)

-- 0 is in every field's range
pub good_zero : (n : Shape) (s : Fields) (place : ℕ → Queue) (f : Field) → Good n s place → Suits n s place f 0 → Good n (put f 0 s) place
good_zero n s place f h k = good_put n s place f 0 h (let r = h.range f in omega arith) k

-- armed may always be cleared
fits_calm : (q : Queue) (a b : ℕ) → Fits q a b → Fits q 0 b
fits_calm ready a b h = refl
fits_calm (park k) a b h = refl
fits_calm (lock l) a b h = (h.0, refl)
fits_calm (condition c) a b h = h

-- the timer first, and then armed
good_disarm : (n : Shape) (p : ℕ) (s : Fields) (place : ℕ → Queue) → Good n s place → Good n (disarm p s) place
good_disarm n p s place h =
    good_zero n (put (timer p) 0 s) place (armed p) (good_zero n s place (timer p) h (λ e. refl)) ((λ i. fits_calm (place p) _ _ (h.fits p i)), (λ e. put_here (timer p) 0 s))

pub good_calm : (n : Shape) (ps : List ℕ) (s : Fields) (place : ℕ → Queue) → Good n s place → Good n (calm ps s) place
good_calm n [] s place h = h
good_calm n (p ∷ ps) s place h = good_calm n ps (disarm p s) place (good_disarm n p s place h)

-- ---- a move

pub good_move : (n : Shape) (s : Fields) (place : ℕ → Queue) (x : ℕ) (q : Queue) → Good n s place → exists n q ≡ true → Fits q (s (armed x)) (s (failed x))
    → ((l : ℕ) → s (holder l) ≡ x → same q (lock l) ≡ false) → ((c : ℕ) → some (s (wakeup c)) ≡ true → same q (condition c) ≡ false)
    → Good n s (sent place (x, q))
good_move n s place x q h e k hold wake = record {
  range = h.range;
  real = λ p i. real_go p i (eqb_case x p);
  fits = λ p i. fits_go p i (eqb_case x p);
  timers = h.timers;
  holders = λ l w. holders_go l w (eqb_case x (s (holder l)));
  wakeups = λ c w p i. wakeups_go c w p i (eqb_case x p);
}
  where
    real_go : (p : ℕ) → inside n.processes p ≡ true → EqCase x p → exists n (sent place (x, q) p) ≡ true
    real_go p i (holds d z) = rw z e
    real_go p i (fails d z) = rw z (h.real p i)

    fits_go : (p : ℕ) → inside n.processes p ≡ true → EqCase x p → Fits (sent place (x, q) p) (s (armed p)) (s (failed p))
    fits_go p i (holds d z) = rw (z, ← d) k
    fits_go p i (fails d z) = rw z (h.fits p i)

    holders_go : (l : ℕ) → some (s (holder l)) ≡ true → EqCase x (s (holder l)) → same (sent place (x, q) (s (holder l))) (lock l) ≡ false
    holders_go l w (holds d z) = rw z (hold l (sym d))
    holders_go l w (fails d z) = rw z (h.holders l w)

    wakeups_go : (c : ℕ) → some (s (wakeup c)) ≡ true → (p : ℕ) → inside n.processes p ≡ true → EqCase x p → same (sent place (x, q) p) (condition c) ≡ false
    wakeups_go c w p i (holds d z) = rw z (wake c w)
    wakeups_go c w p i (fails d z) = rw z (h.wakeups c w p i)

-- whoever is not armed may go to ready
pub good_ready : (n : Shape) (s : Fields) (xs : List ℕ) (place : ℕ → Queue) → Good n s place → ((p : ℕ) → member p xs ≡ true → s (armed p) ≡ 0) → Good n s (relocate place (to_ready xs))
good_ready n s [] place h t = h
good_ready n s (x ∷ xs) place h t =
    good_ready n s xs (sent place (x, ready)) (good_move n s place x ready h refl (t x (member_here x xs)) (λ l e. refl) (λ c e. refl)) (λ p e. t p (member_there p x xs e))

-- ---- values in range

pub each_most : (n i v w : ℕ) → w < each n i v → 1 ≤ v → w < v
each_most n i v w h o = go (inside n i) h
  where
    go : (b : Bool) → w < cond b v 1 → w < v
    go true k = k
    go false k = omega arith

pub each_none : (n i v w : ℕ) → inside n i ≡ false → w < each n i v → w ≡ 0
each_none n i v w e h = let k : w < 1 = rw e at h in omega arith

pub each_low : (n i v w : ℕ) → w < v → (inside n i ≡ false → w ≡ 0) → w < each n i v
each_low n i v w h k = go (inside n i) k
  where
    go : (b : Bool) → (b ≡ false → w ≡ 0) → w < cond b v 1
    go true z = h
    go false z = let e = z refl in omega arith

-- ---- to and from queues

-- who is not in a condition is not armed
fits_armed : (q : Queue) (a b : ℕ) → is_condition q ≡ false → Fits q a b → a ≡ 0
fits_armed ready a b e h = h
fits_armed (park k) a b e h = h
fits_armed (lock l) a b e h = h.1
fits_armed (condition c) a b e h = absurd (false≢true (sym e))

module _ (n : Shape) (s : State model) where
  pub of_valid : (v : Valid n s) → Good n s.fields v.placed.place
  of_valid v = record {
    range = v.placed.range;
    real = v.placed.real;
    fits = λ p i. fits_go p i (v.placed.place p) refl;
    timers = v.timers;
    holders = holders_go;
    wakeups = λ c e p i. let z : false ≡ true && same (v.placed.place p) (condition c) = rw (v.wakeups c e, i) at (member_is n.processes s.queues v.placed.place v.placed.once p (condition c)) in sym z;
  }
    where
      idle : (p : ℕ) → is_condition (v.placed.place p) ≡ false → s.fields (armed p) ≡ 0
      idle p e = v.arms p (waiting_is n s.queues v.placed.place v.placed.once p (v.placed.real p) ∙ rw (e, and-false))

      there : (p : ℕ) (q : Queue) → inside n.processes p ≡ true → v.placed.place p ≡ q → member p (s.queues q) ≡ true
      there p q i e = at_place n.processes s.queues v.placed.place v.placed.once p q i e

      fits_go : (p : ℕ) → inside n.processes p ≡ true → (q : Queue) → v.placed.place p ≡ q → Fits (v.placed.place p) (s.fields (armed p)) (s.fields (failed p))
      fits_go p i ready e = rw e (idle p (rw e))
      fits_go p i (park k) e = rw e (idle p (rw e))
      fits_go p i (lock l) e = rw e (v.blocked l p (there p (lock l) i e), idle p (rw e))
      fits_go p i (condition c) e = rw e (v.asleep c p (there p (condition c) i e))

      holders_go : (l : ℕ) → some (s.fields (holder l)) ≡ true → same (v.placed.place (s.fields (holder l))) (lock l) ≡ false
      holders_go l e =
          let h = s.fields (holder l) in
          let a = not_so (eqb_case h 0) (not_true (eqb h 0) e) in
          let b = each_most n.locks l (suc n.processes) h (v.placed.range (holder l)) (omega arith) in
          let m = member_is n.processes s.queues v.placed.place v.placed.once h (lock l) in
          sym (rw (bounds_inside n.processes h (omega arith) (omega arith)) at m) ∙ v.holders l

  pub to_valid : counted n ≡ true → (place : ℕ → Queue) → Good n s.fields place → Stands n.processes s.queues place
      → ((q : Queue) → Falling (priorities s.fields) (s.queues q)) → s.fields running ≡ first (s.queues ready) → s.fields (failed (s.fields running)) ≡ 0
      → Valid n s
  to_valid counts place h st falls runs steady = record {
    placed = record { counts = counts; range = h.range; place = place; real = h.real; once = st; falls = falls };
    runs = runs;
    steady = steady;
    arms = λ p e. arms_go p (inside n.processes p) refl (sym (waiting_is n s.queues place st p (h.real p)) ∙ e);
    timers = h.timers;
    blocked = λ l p e. let k = stands_at n.processes s.queues place st p (lock l) e in (fit p (lock l) k.0 k.1).0;
    asleep = λ c p e. let k = stands_at n.processes s.queues place st p (condition c) e in fit p (condition c) k.0 k.1;
    holders = λ l. is (s.fields (holder l)) (lock l) ∙ holders_go l (some (s.fields (holder l))) refl;
    wakeups = λ c e. nobody (s.queues (condition c)) (λ p. is p (condition c) ∙ wakeups_go c e p (inside n.processes p) refl);
  }
    where
      is : (p : ℕ) (q : Queue) → member p (s.queues q) ≡ inside n.processes p && same (place p) q
      is p q = member_is n.processes s.queues place st p q

      fit : (p : ℕ) (q : Queue) → inside n.processes p ≡ true → place p ≡ q → Fits q (s.fields (armed p)) (s.fields (failed p))
      fit p q i e = rw e at (h.fits p i)

      arms_go : (p : ℕ) (b : Bool) → inside n.processes p ≡ b → inside n.processes p && is_condition (place p) ≡ false → s.fields (armed p) ≡ 0
      arms_go p true i e = fits_armed (place p) (s.fields (armed p)) (s.fields (failed p)) (rw i at e) (h.fits p i)
      arms_go p false i e = each_none n.processes p 2 (s.fields (armed p)) i (h.range (armed p))

      holders_go : (l : ℕ) (b : Bool) → some (s.fields (holder l)) ≡ b → inside n.processes (s.fields (holder l)) && same (place (s.fields (holder l))) (lock l) ≡ false
      holders_go l true e = rw (h.holders l e, and-false)
      holders_go l false e = rw (so (eqb_case (s.fields (holder l)) 0) (not_false (eqb (s.fields (holder l)) 0) e))

      wakeups_go : (c : ℕ) → some (s.fields (wakeup c)) ≡ true → (p : ℕ) (b : Bool) → inside n.processes p ≡ b → inside n.processes p && same (place p) (condition c) ≡ false
      wakeups_go c e p true i = rw (i, h.wakeups c e p i)
      wakeups_go c e p false i = rw i
