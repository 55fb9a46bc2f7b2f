-- Those due within k ticks: of the first q processes, with one process more, and over the front of a buffer; that they are processes, and how many they are. By induction on the list of processes, which grows at its end, and on the ticks. Assumes nothing.
use Prim.Native.Nat.{ℕ, zero, suc, ◌+◌, ◌-◌, ◌≤◌}
use native.Mathlib.Omega.{arith}
use native.Mathlib.Decide.{ℕ_discrete}
use native.Mathlib.Numerals.{add-one}
use mathlib.Core.Path.{◌≡◌, refl, sym, ap, ◌∙◌}
use mathlib.Core.Bool.{Bool, true, false, cond}
use mathlib.Core.List.{List, [], ◌∷◌, ◌++◌, append-nil}
use lib.Dec.{eqb}
use lib.ListN.{length, get_or, drop, set, length-append, length-map}
use lib.Seq.{drop-cons, append_snoc, set_at}
use Rattle.model.specs.declared.Shape.{Shape}
use Rattle.model.specs.Queue.{inside, up_to, filter}
use Rattle.model.specs.Machine.{State, model}
use Rattle.model.specs.Timers.{left, due_within}
use Rattle.model.proofs.Tests.{holds, fails, EqCase, eqb_case, inside_bounds, bounds_inside, denied}
use Rattle.model.proofs.Lists.{inside_suc, filter_append, filter_length, all_append}
use Rattle.model.proofs.Kept.{up_to_length}
use Rattle.model.proofs.Many.{filter_none}
use Rattle.order.specs.Order.{Processes}
use Rattle.timers.specs.Telling.{due_ones}

-- ---- those of 1 to q who pass a test

module _ (t : ℕ → Bool) where
  -- of more there are no fewer
  filter_rises : (q m : ℕ) → q ≤ m → length (filter t (up_to q)) ≤ length (filter t (up_to m))
  filter_rises q zero h = let e : q ≡ 0 = omega arith in rw e (omega arith)
  filter_rises q (suc m) h = go (ℕ_discrete q (suc m)) (filter_rises q m)
    where
      go : Dec (q ≡ suc m) → (q ≤ m → length (filter t (up_to q)) ≤ length (filter t (up_to m))) → length (filter t (up_to q)) ≤ length (filter t (up_to (suc m)))
      go (yes e) ih = rw e (omega arith)
      go (no d) ih = let k = ih (omega arith) in rw (filter_append t (up_to m) (suc m ∷ []), length-append) (omega arith)

  module _ {p : ℕ} (h : 1 ≤ p) where
    -- one more, who passes
    filter_more : t p ≡ true → filter t (up_to (p + 1 - 1)) ≡ filter t (up_to (p - 1)) ++ (p ∷ [])
    filter_more e =
        let next : p + 1 - 1 ≡ suc (p - 1) = omega arith in
        let last : suc (p - 1) ≡ p = omega arith in
        rw next (filter_append t (up_to (p - 1)) (suc (p - 1) ∷ []) ∙ rw (last, e))

    -- one more, who does not
    filter_same : t p ≡ false → filter t (up_to (p + 1 - 1)) ≡ filter t (up_to (p - 1))
    filter_same e =
        let next : p + 1 - 1 ≡ suc (p - 1) = omega arith in
        let last : suc (p - 1) ≡ p = omega arith in
        rw next (filter_append t (up_to (p - 1)) (suc (p - 1) ∷ []) ∙ rw (last, e, append-nil))

    -- who passes is counted
    pub count_more : {m : ℕ} → t p ≡ true → m ≡ length (filter t (up_to (p - 1))) → m + 1 ≡ length (filter t (up_to (p + 1 - 1)))
    count_more e k = rw (filter_more e, length-append) (omega arith)

    -- and who does not is not
    pub count_same : {m : ℕ} → t p ≡ false → m ≡ length (filter t (up_to (p - 1))) → m ≡ length (filter t (up_to (p + 1 - 1)))
    count_same e k = rw (filter_same e) k

-- ---- those due

-- whether p is due within k ticks
abbrev pub is_due : ℕ → Shape → State model → ℕ → Bool
is_due k n s p = inside k (left n s p)

module _ (k : ℕ) (n : Shape) (s : State model) (q : ℕ) where
  -- of all processes
  pub due_all : q ≡ n.processes → filter (is_due k n s) (up_to q) ≡ due_ones k n s
  unfolding due_ones
  due_all e = rw e

  -- there is room for some where there is room for all
  due_room : {m room : ℕ} → q ≤ n.processes → m ≡ length (filter (is_due k n s) (up_to q)) → length (due_ones k n s) ≤ room → m ≤ room
  unfolding due_ones
  due_room h e r = let w = filter_rises (is_due k n s) q n.processes h in omega arith

-- no more than there are processes
pub due_few : (k : ℕ) (n : Shape) (s : State model) → length (due_ones k n s) ≤ n.processes
unfolding due_ones
due_few k n s = omega (arith, filter_length (is_due k n s) (up_to n.processes), up_to_length n.processes)

-- they are processes
pub due_processes : (k : ℕ) (n : Shape) (s : State model) → Processes n (due_ones k n s)
unfolding due_ones
due_processes k n s = go n.processes (omega arith)
  where
    go : (q : ℕ) → q ≤ n.processes → Processes n (filter (is_due k n s) (up_to q))
    go zero h = tt
    go (suc q) h = rw (filter_append (is_due k n s) (up_to q) (suc q ∷ [])) (all_append (λ p. inside n.processes p ≡ true) (filter (is_due k n s) (up_to q)) (filter (is_due k n s) (suc q ∷ [])) (go q (omega arith)) (one (is_due k n s (suc q))))
      where
        one : (b : Bool) → Processes n (cond b (suc q ∷ []) [])
        one true = (bounds_inside n.processes (suc q) (omega arith) h, tt)
        one false = tt

-- with one tick more come those who have that many left
more_due : (f : ℕ → ℕ) (k : ℕ) (xs : List ℕ) → length (filter (λ x. inside (suc k) (f x)) xs) ≡ length (filter (λ x. inside k (f x)) xs) + length (filter (λ x. eqb (f x) (suc k)) xs)
more_due f k [] = refl
more_due f k (x ∷ xs) = go (eqb_case (f x) (suc k)) (more_due f k xs)
  where
    go : EqCase (f x) (suc k) → length (filter (λ y. inside (suc k) (f y)) xs) ≡ length (filter (λ y. inside k (f y)) xs) + length (filter (λ y. eqb (f y) (suc k)) xs)
        → length (filter (λ y. inside (suc k) (f y)) (x ∷ xs)) ≡ length (filter (λ y. inside k (f y)) (x ∷ xs)) + length (filter (λ y. eqb (f y) (suc k)) (x ∷ xs))
    go (holds d e) ih = rw (e, bounds_inside (suc k) (f x) (omega arith) (omega arith), denied (inside k (f x)) (λ m. let b = inside_bounds k (f x) m in omega arith)) (omega arith)
    go (fails d e) ih = rw (e, inside_suc k (f x) d) (both (inside k (f x)))
      where
        both : (b : Bool) → length (cond b (x ∷ filter (λ y. inside (suc k) (f y)) xs) (filter (λ y. inside (suc k) (f y)) xs))
            ≡ length (cond b (x ∷ filter (λ y. inside k (f y)) xs) (filter (λ y. inside k (f y)) xs)) + length (filter (λ y. eqb (f y) (suc k)) xs)
        both true = omega arith
        both false = ih

-- they are as many as are told
pub count_all : (n : Shape) (s : State model) (k : ℕ) → length (due_ones k n s) ≡ length (due_within n s k)
unfolding due_ones due_within
count_all n s zero = ap length (filter_none (is_due 0 n s) (up_to n.processes) (λ p m. denied (is_due 0 n s p) (λ i. let b = inside_bounds 0 (left n s p) i in omega arith)))
count_all n s (suc k) = rw (length-append, ← (count_all n s k), length-map) (more_due (left n s) k (up_to n.processes))

-- ---- a buffer with words written over its front

-- xs stand over the front of old, and the next goes to `at`
pub record Over (xs old new : List ℕ) (at : ℕ) : Type 0 where
  pub count : at ≡ length xs
  pub words : new ≡ xs ++ drop at old

module _ (t : ℕ → Bool) {p : ℕ} (h : 1 ≤ p) {old new : List ℕ} {at : ℕ} (o : Over (filter t (up_to (p - 1))) old new at) where
  -- one process more, who passes the test
  pub over_next : t p ≡ true → at + 1 ≤ length old → Over (filter t (up_to (p + 1 - 1))) old (set new at p) (at + 1)
  over_next e room = record { count = count_more t h e o.count; words = rw (filter_more t h e) (go (filter t (up_to (p - 1))) o.count o.words) }
    where
      go : (xs : List ℕ) → at ≡ length xs → new ≡ xs ++ drop at old → set new at p ≡ xs ++ (p ∷ []) ++ drop (at + 1) old
      go xs k w = rw (w, drop-cons old at 0 (omega arith), add-one at, append_snoc) (set_at xs (get_or old at 0) (drop (suc at) old) p at (sym k))

  -- one more, who does not
  pub over_same : t p ≡ false → Over (filter t (up_to (p + 1 - 1))) old new at
  over_same e = rw (filter_same t h e) o

-- there is room for one who is due, where there is for all
pub over_room : (k : ℕ) (n : Shape) (s : State model) {p : ℕ} {old new : List ℕ} {at : ℕ} → 1 ≤ p → p ≤ n.processes → Over (filter (is_due k n s) (up_to (p - 1))) old new at → is_due k n s p ≡ true → length (due_ones k n s) ≤ length old → at + 1 ≤ length old
over_room k n s {p} h l o e room = due_room k n s (p + 1 - 1) (omega arith) (count_more (is_due k n s) h e o.count) room

-- where they end
pub over_all : {xs ys old new : List ℕ} {at : ℕ} → Over xs old new at → xs ≡ ys → new ≡ ys ++ drop (length ys) old
over_all {xs} {ys} {old} o e = o.words ∙ rw (o.count, e)
