-- Each process stands in one queue, once, its place, and a move changes that place alone; queues keep falling. By counting. Assumes nothing.
use Prim.Native.Nat.{ℕ, zero, suc, ◌+◌, ◌≤◌}
use native.Mathlib.Omega.{arith}
use mathlib.Core.Path.{◌≡◌, refl, sym, ◌∙◌, subst}
use mathlib.Core.Logic.{◌≢◌}
use mathlib.Core.Bool.{Bool, true, false, not, ◌&&◌, ◌||◌, cond, or-true, and-false}
use mathlib.Core.List.{List, [], ◌∷◌, ◌++◌}
use lib.Dec.{eqb}
use lib.ListN.{length}
use Rattle.model.specs.declared.Shape.{Shape}
use Rattle.model.specs.Queue.{Queue, Note, inside, up_to, any_of, bit, same, exists, member, count, take_while, remove, insert, move, to_ready, All, Falling, is_condition}
use Rattle.model.specs.Queue.Queue.{ready, park, lock, condition}
use Rattle.model.specs.Field.{Fields, some}
use Rattle.model.specs.Field.Field.{abortable}
use Rattle.model.specs.Rules.{ready_or_park, abortably}
use Rattle.model.specs.Machine.{model, moves, arrivals, ahead, waiting}
use Rattle.model.proofs.Tests.{holds, fails, so, EqCase, eqb_case, eqb_yes, same_case, same_yes, and_split, or_split, bit_small, inside_bounds, bounds_inside}
use Rattle.model.proofs.Lists.{member_here, member_there, count_remove_same, count_remove_other, count_insert, member_bit, at_most, inside_suc, SameOff, falling_remove, falling_insert}
use Rattle.model.proofs.Simulation.{Agree, alike, lead}

-- ---- where processes are sent

abbrev pub sent : (ℕ → Queue) → Note → ℕ → Queue
sent place m p = cond (eqb m.0 p) m.1 (place p)

abbrev pub relocate : (ℕ → Queue) → List Note → ℕ → Queue
relocate place [] = place
relocate place (m ∷ ms) = relocate (sent place m) ms

pub relocate_append : (xs ys : List Note) (place : ℕ → Queue) → relocate place (xs ++ ys) ≡ relocate (relocate place xs) ys
relocate_append [] ys place = refl
relocate_append (m ∷ xs) ys place = relocate_append xs ys (sent place m)

pub moves_append : (pr : ℕ → ℕ) (xs ys : List Note) (qs : Queue → List ℕ) → moves model pr qs (xs ++ ys) ≡ moves model pr (moves model pr qs xs) ys
moves_append pr [] ys qs = refl
moves_append pr (m ∷ xs) ys qs = moves_append pr xs ys (move pr qs m.0 m.1)

pub to_ready_append : (xs ys : List ℕ) → to_ready (xs ++ ys) ≡ to_ready xs ++ to_ready ys
to_ready_append [] ys = refl
to_ready_append (x ∷ xs) ys = rw (to_ready_append xs ys)

-- no more arrive than move
pub arrivals_few : (rs xs : List ℕ) → arrivals rs (to_ready xs) ≤ length xs
arrivals_few rs [] = omega arith
arrivals_few rs (x ∷ xs) = let a = arrivals_few rs xs in let b = bit_small (not (member x rs)) in omega arith

pub arrivals_append : (rs : List ℕ) (xs ys : List Note) → arrivals rs (xs ++ ys) ≡ arrivals rs xs + arrivals rs ys
arrivals_append rs [] ys = omega arith
arrivals_append rs (m ∷ xs) ys = let k = arrivals_append rs xs ys in omega arith

-- no more are ahead than stand in a queue
take_few : (t : ℕ → Bool) (xs : List ℕ) → length (take_while t xs) ≤ length xs
take_few t [] = omega arith
take_few t (x ∷ xs) = go (t x) (take_few t xs)
  where
    go : (b : Bool) → length (take_while t xs) ≤ length xs → length (cond b (x ∷ take_while t xs) []) ≤ length (x ∷ xs)
    go true h = omega arith
    go false h = omega arith

pub ahead_few : {m : ℕ} (qs : Queue → List ℕ) (ms : List Note) → ((q : Queue) → length (qs q) ≤ m) → ahead qs ms ≤ m
ahead_few qs [] h = omega arith
ahead_few qs ((p, ready) ∷ ms) h = ahead_few qs ms h
ahead_few qs ((p, park k) ∷ ms) h = ahead_few qs ms h
ahead_few qs ((p, lock l) ∷ ms) h = let a = take_few (λ x. not (eqb x p)) (qs (lock l)) in let b = h (lock l) in omega arith
ahead_few qs ((p, condition c) ∷ ms) h = let a = take_few (λ x. not (eqb x p)) (qs (condition c)) in let b = h (condition c) in omega arith

-- moves to ready say nothing of who is ahead
pub ahead_ready : (qs : Queue → List ℕ) (xs : List ℕ) → ahead qs (to_ready xs) ≡ 0
ahead_ready qs [] = refl
ahead_ready qs (x ∷ xs) = ahead_ready qs xs

pub ahead_after : (qs : Queue → List ℕ) (xs : List ℕ) (ms : List Note) → ahead qs (to_ready xs ++ ms) ≡ ahead qs ms
ahead_after qs [] ms = refl
ahead_after qs (x ∷ xs) ms = ahead_after qs xs ms

-- nor does one to ready or a park
pub ahead_park : (qs : Queue → List ℕ) (p k : ℕ) → ahead qs ((p, ready_or_park k) ∷ []) ≡ 0
ahead_park qs p k = go (eqb k 0)
  where
    go : (b : Bool) → ahead qs ((p, cond b ready (park k)) ∷ []) ≡ 0
    go true = refl
    go false = refl

-- ---- a move, seen by one process and one queue

count_move_same : (pr : ℕ → ℕ) (qs : Queue → List ℕ) (p : ℕ) (q r : Queue) → count p (move pr qs p q r) ≡ bit (same q r)
count_move_same pr qs p q r = go (same q r)
  where
    go : (b : Bool) → count p (cond b (insert pr p (remove p (qs r))) (remove p (qs r))) ≡ bit b
    go true = rw (count_insert pr p p (remove p (qs r)), count_remove_same p (qs r), eqb_yes p p refl)
    go false = count_remove_same p (qs r)

count_move_other : (pr : ℕ → ℕ) (qs : Queue → List ℕ) (p x : ℕ) (q r : Queue) → x ≢ p → eqb x p ≡ false → count p (move pr qs x q r) ≡ count p (qs r)
count_move_other pr qs p x q r h z = go (same q r)
  where
    go : (b : Bool) → count p (cond b (insert pr x (remove x (qs r))) (remove x (qs r))) ≡ count p (qs r)
    go true = rw (count_insert pr p x (remove x (qs r)), z, count_remove_other p x (qs r) h) (omega arith)
    go false = count_remove_other p x (qs r) h

-- ---- each of 1 to P stands at its place, once, and no other number stands anywhere

abbrev pub Stands : ℕ → (Queue → List ℕ) → (ℕ → Queue) → Type 0
Stands P qs place = (p : ℕ) (q : Queue) → count p (qs q) ≡ bit (inside P p && same (place p) q)

abbrev pub Movers : ℕ → List Note → Type 0
Movers P ms = All (λ m. inside P m.0 ≡ true) ms

pub stands_move : (P : ℕ) (pr : ℕ → ℕ) (m : Note) (qs : Queue → List ℕ) (place : ℕ → Queue) → Stands P qs place → inside P m.0 ≡ true → Stands P (move pr qs m.0 m.1) (sent place m)
stands_move P pr m qs place h e p q = go (eqb_case m.0 p)
  where
    go : EqCase m.0 p → count p (move pr qs m.0 m.1 q) ≡ bit (inside P p && same (sent place m p) q)
    go (holds d z) = rw (z, ← d, e) (count_move_same pr qs m.0 m.1 q)
    go (fails d z) = rw z (count_move_other pr qs p m.0 m.1 q d z ∙ h p q)

-- those of a list go to ready
pub ready_movers : (P : ℕ) (xs : List ℕ) → ((p : ℕ) → member p xs ≡ true → inside P p ≡ true) → Movers P (to_ready xs)
ready_movers P [] h = tt
ready_movers P (x ∷ xs) h = (h x (member_here x xs), ready_movers P xs (λ p e. h p (member_there p x xs e)))

pub stands_moves : (P : ℕ) (pr : ℕ → ℕ) (ms : List Note) (qs : Queue → List ℕ) (place : ℕ → Queue) → Stands P qs place → Movers P ms → Stands P (moves model pr qs ms) (relocate place ms)
stands_moves P pr [] qs place h a = h
stands_moves P pr (m ∷ ms) qs place h a = stands_moves P pr ms (move pr qs m.0 m.1) (sent place m) (stands_move P pr m qs place h a.0) a.1

bit_and : (a b : Bool) → bit (a && b) ≤ bit a
bit_and true true = omega arith
bit_and true false = omega arith
bit_and false b = omega arith

module _ (P : ℕ) (qs : Queue → List ℕ) (place : ℕ → Queue) (h : Stands P qs place) where
  pub member_is : (p : ℕ) (q : Queue) → member p (qs q) ≡ inside P p && same (place p) q
  member_is p q = member_bit p (qs q) (inside P p && same (place p) q) (h p q)

  -- a member is one of 1 to P, and the queue is its place
  pub stands_at : (p : ℕ) (q : Queue) → member p (qs q) ≡ true → (inside P p ≡ true) × (place p ≡ q)
  stands_at p q e = let s = and_split (inside P p) (same (place p) q) (sym (member_is p q) ∙ e) in (s.0, so (same_case (place p) q) s.1)

  -- a process stands at its place
  pub at_place : (p : ℕ) (q : Queue) → inside P p ≡ true → place p ≡ q → member p (qs q) ≡ true
  at_place p q i e = member_is p q ∙ rw (i, same_yes (place p) q e)

  pub queue_length : (q : Queue) → length (qs q) ≤ P
  queue_length q = at_most P (qs q) (λ p. rw (h p q) (bit_and (inside P p) (same (place p) q)))

-- ---- waiting: standing in a condition

pub any_none : (k : ℕ) (t : ℕ → Bool) → ((i : ℕ) → t i ≡ false) → any_of k t ≡ false
any_none zero t h = refl
any_none (suc k) t h = rw (h (suc k)) (any_none k t h)

-- with one test more there are none either
any_less : (k : ℕ) (t u : ℕ → Bool) → any_of k u ≡ false → any_of k (λ i. t i && u i) ≡ false
any_less zero t u h = refl
any_less (suc k) t u h = let d = or_split (u (suc k)) (any_of k u) h in rw (d.0, and-false) (any_less k t u d.1)

pub any_some : (k : ℕ) (t : ℕ → Bool) (i : ℕ) → inside k i ≡ true → t i ≡ true → any_of k t ≡ true
any_some zero t i h e = let b = inside_bounds 0 i h in let z : ⊥ = omega arith in absurd z
any_some (suc k) t i h e = go (eqb_case (suc k) i) (any_some k t i)
  where
    go : EqCase (suc k) i → (inside k i ≡ true → t i ≡ true → any_of k t ≡ true) → t (suc k) || any_of k t ≡ true
    go (holds d z) ih = rw (d, e)
    go (fails d z) ih = let b = inside_bounds (suc k) i h in rw (ih (bounds_inside k i b.0 (omega arith)) e, or-true)

pub waiting_is : (n : Shape) (qs : Queue → List ℕ) (place : ℕ → Queue) → Stands n.processes qs place → (p : ℕ) → (inside n.processes p ≡ true → exists n (place p) ≡ true)
    → waiting n qs p ≡ inside n.processes p && is_condition (place p)
waiting_is n qs place h p x = go (inside n.processes p) refl (place p) refl
  where
    t : ℕ → Bool
    t c = member p (qs (condition c))

    none : ((c : ℕ) → inside n.processes p && same (place p) (condition c) ≡ false) → any_of n.conditions t ≡ false
    none k = any_none n.conditions t (λ c. member_is n.processes qs place h p (condition c) ∙ k c)

    go : (b : Bool) → inside n.processes p ≡ b → (q : Queue) → place p ≡ q → any_of n.conditions t ≡ b && is_condition q
    go false i q e = none (λ c. rw i)
    go true i ready e = none (λ c. rw (i, e))
    go true i (park k) e = none (λ c. rw (i, e))
    go true i (lock l) e = none (λ c. rw (i, e))
    go true i (condition c) e = any_some n.conditions t c (rw e at (x i)) (at_place n.processes qs place h p (condition c) i e)

-- who does not wait at all does not wait on an abortable condition
pub not_abortably : (n : Shape) (s : Fields) (qs : Queue → List ℕ) (p : ℕ) → waiting n qs p ≡ false → abortably n s qs p ≡ false
not_abortably n s qs p = any_less n.conditions (λ c. some (s (abortable c))) (λ c. member p (qs (condition c)))

-- ---- queues keep falling

falling_move : (f g : ℕ → ℕ) (m : Note) (qs : Queue → List ℕ) (q : Queue) → SameOff m.0 f g → Falling f (qs q) → Falling g (move g qs m.0 m.1 q)
falling_move f g m qs q o h = go (same m.1 q) (falling_remove f g m.0 (qs q) o h)
  where
    go : (b : Bool) → Falling g (remove m.0 (qs q)) → Falling g (cond b (insert g m.0 (remove m.0 (qs q))) (remove m.0 (qs q)))
    go true r = falling_insert g m.0 (remove m.0 (qs q)) r
    go false r = r

pub falling_all : (g : ℕ → ℕ) (ms : List Note) (qs : Queue → List ℕ) → ((q : Queue) → Falling g (qs q)) → (q : Queue) → Falling g (moves model g qs ms q)
falling_all g [] qs h q = h q
falling_all g (m ∷ ms) qs h q = falling_all g ms (move g qs m.0 m.1) (λ r. falling_move g g m qs r (λ x e. refl) (h r)) q

pub falling_moves : (f g : ℕ → ℕ) (ms : List Note) (qs : Queue → List ℕ) → Agree f g ms → ((q : Queue) → Falling f (qs q)) → (q : Queue) → Falling g (moves model g qs ms q)
falling_moves f g ms qs (alike e) h q = falling_all g ms qs (λ r. subst (λ (pr : ℕ → ℕ). Falling pr (qs r)) e (h r)) q
falling_moves f g l qs (lead {m} {ms} o) h q = falling_all g ms (move g qs m.0 m.1) (λ r. falling_move f g m qs r o (h r)) q

-- ---- Start's moves

inside_none : (p : ℕ) → inside 0 p ≡ false
inside_none p = go (inside 0 p) refl
  where
    go : (b : Bool) → inside 0 p ≡ b → b ≡ false
    go true e = let k = inside_bounds 0 p e in let z : ⊥ = omega arith in absurd z
    go false e = refl

pub stands_start : (pr : ℕ → ℕ) (k : ℕ) → Stands k (moves model pr (λ q. []) (to_ready (up_to k))) (λ p. ready)
stands_start pr zero p q = rw (inside_none p)
stands_start pr (suc k) p q =
    rw (to_ready_append (up_to k) (suc k ∷ []), moves_append pr (to_ready (up_to k)) ((suc k, ready) ∷ []) (λ q. []))
    (go (eqb_case (suc k) p) (stands_start pr k p q))
  where
    qs : Queue → List ℕ
    qs = moves model pr (λ q. []) (to_ready (up_to k))

    go : EqCase (suc k) p → count p (qs q) ≡ bit (inside k p && same ready q) → count p (move pr qs (suc k) ready q) ≡ bit (inside (suc k) p && same ready q)
    go (holds d z) ih = rw (← d, bounds_inside (suc k) (suc k) (omega arith) (omega arith)) (count_move_same pr qs (suc k) ready q)
    go (fails d z) ih = rw (inside_suc k p (λ y. d (sym y))) (count_move_other pr qs p (suc k) ready q d z ∙ ih)
