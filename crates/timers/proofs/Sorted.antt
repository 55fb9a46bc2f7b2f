-- What is told of those due, from their order by ticks left: a list that rises is, for d from 1 on, those of its members with d left, and of these each is told as the rule has them,
-- since the order keeps those with as many in process order. Assumes nothing.
use Prim.Native.Nat.{ℕ, zero, suc, ◌≤◌, ◌<◌}
use native.Mathlib.Omega.{arith}
use mathlib.Core.Path.{◌≡◌, refl, sym, ap, ◌∙◌}
use mathlib.Core.Bool.{Bool, true, false, false≢true}
use mathlib.Core.List.{List, [], ◌∷◌, ◌++◌, map}
use lib.Dec.{eqb}
use Rattle.model.specs.declared.Shape.{Shape}
use Rattle.model.specs.Queue.{inside, up_to, member, filter, All}
use Rattle.model.specs.Machine.{State, model}
use Rattle.model.specs.Timers.{Entry, left, due_within}
use Rattle.model.proofs.Tests.{holds, fails, EqCase, eqb_case, eqb_yes, eqb_no, inside_bounds, bounds_inside}
use Rattle.model.proofs.Lists.{member_here, member_there, all_map, filter_member, member_filter}
use Rattle.order.specs.Order.{Rising, having, Ordered, paired}
use Rattle.order.proofs.Merging.{none_having}
use Rattle.timers.specs.Telling.{in_words, due_ones}
use Rattle.timers.proofs.Dues.{is_due}

-- for d from 1 to k, those with key d
abbrev by_key : (ℕ → ℕ) → ℕ → List ℕ → List ℕ
by_key key zero xs = []
by_key key (suc k) xs = by_key key k xs ++ having key (suc k) xs

module _ (key : ℕ → ℕ) where
  -- ---- a list that rises

  -- nobody is there below all keys
  by_none : (k : ℕ) (xs : List ℕ) → All (λ x. k < key x) xs → by_key key k xs ≡ []
  by_none zero xs h = refl
  by_none (suc k) xs h = rw (by_none k xs (all_map (λ x. suc k < key x) (λ x. k < key x) xs (λ x a. omega arith) h), none_having key (suc k) xs h)

  -- the least goes first
  by_first : (k x : ℕ) (xs : List ℕ) → 1 ≤ key x → key x ≤ k → All (λ y. key x ≤ key y) xs → by_key key k (x ∷ xs) ≡ x ∷ by_key key k xs
  by_first zero x xs a b h = let z : ⊥ = omega arith in absurd z
  by_first (suc k) x xs a b h = go (eqb_case (key x) (suc k)) (λ j. by_first k x xs a j h)
    where
      go : EqCase (key x) (suc k) → (key x ≤ k → by_key key k (x ∷ xs) ≡ x ∷ by_key key k xs) → by_key key (suc k) (x ∷ xs) ≡ x ∷ by_key key (suc k) xs
      go (holds d e) ih =
          let above = all_map (λ y. key x ≤ key y) (λ y. k < key y) xs (λ y m. omega arith) h in
          rw (by_none k (x ∷ xs) (omega arith, above), by_none k xs above, e)
      go (fails d e) ih = rw (ih (omega arith), e)

  -- so it is the same by its keys
  rising_by : (k : ℕ) (xs : List ℕ) → Rising key xs → ((x : ℕ) → member x xs ≡ true → inside k (key x) ≡ true) → by_key key k xs ≡ xs
  rising_by k [] r h = by_none k [] tt
  rising_by k (x ∷ xs) r h =
      let b = inside_bounds k (key x) (h x (member_here x xs)) in
      by_first k x xs b.0 b.1 r.0 ∙ ap (λ (ys : List ℕ). x ∷ ys) (rising_by k xs r.1 (λ y m. h y (member_there y x xs m)))

  -- lists that have as many of each key in the same order
  by_same : (k : ℕ) (xs ys : List ℕ) → ((d : ℕ) → having key d ys ≡ having key d xs) → by_key key k ys ≡ by_key key k xs
  by_same zero xs ys h = refl
  by_same (suc k) xs ys h = rw (by_same k xs ys h, h (suc k))

  -- whoever is in one is in the other
  same_member : (x : ℕ) (xs ys : List ℕ) → ((d : ℕ) → having key d ys ≡ having key d xs) → member x ys ≡ true → member x xs ≡ true
  same_member x xs ys h m =
      (filter_member (λ y. eqb (key y) (key x)) x xs (rw (← (h (key x))) (member_filter (λ y. eqb (key y) (key x)) x ys m (eqb_yes (key x) (key x) refl)))).0

  -- ---- as words

  -- of two lists
  paired_append : (xs ys : List ℕ) → paired key (xs ++ ys) ≡ paired key xs ++ paired key ys
  paired_append [] ys = refl
  paired_append (x ∷ xs) ys = rw (paired_append xs ys)

  -- those with key d are told with it
  paired_having : (d : ℕ) (xs : List ℕ) → paired key (having key d xs) ≡ in_words (map (λ x. (x, d)) (having key d xs))
  paired_having d [] = refl
  paired_having d (x ∷ xs) = go (eqb_case (key x) d) (paired_having d xs)
    where
      go : EqCase (key x) d → paired key (having key d xs) ≡ in_words (map (λ y. (y, d)) (having key d xs)) → paired key (having key d (x ∷ xs)) ≡ in_words (map (λ y. (y, d)) (having key d (x ∷ xs)))
      go (holds e z) ih = rw (z, ih, e)
      go (fails e z) ih = rw z ih

-- entries of two lists
in_words_append : (xs ys : List Entry) → in_words (xs ++ ys) ≡ in_words xs ++ in_words ys
in_words_append [] ys = refl
in_words_append (x ∷ xs) ys = rw (in_words_append xs ys)

-- ---- what is told

module _ (n : Shape) (s : State model) (k : ℕ) (key : ℕ → ℕ) (agree : (p : ℕ) → inside k (left n s p) ≡ true → key p ≡ left n s p) where
  -- of those due, those with key d are those with d ticks left
  due_having : (d : ℕ) → 1 ≤ d → d ≤ k → (xs : List ℕ) → having key d (filter (is_due k n s) xs) ≡ filter (λ p. eqb (left n s p) d) xs
  due_having d a b [] = refl
  due_having d a b (x ∷ xs) = go (is_due k n s x) refl (due_having d a b xs)
    where
      go : (y : Bool) → is_due k n s x ≡ y → having key d (filter (is_due k n s) xs) ≡ filter (λ p. eqb (left n s p) d) xs → having key d (filter (is_due k n s) (x ∷ xs)) ≡ filter (λ p. eqb (left n s p) d) (x ∷ xs)
      go true i ih = rw (i, agree x i, ih)
      go false i ih = rw (i, eqb_no (left n s x) d (λ e. false≢true (sym i ∙ bounds_inside k (left n s x) (omega arith) (omega arith)))) ih

  -- within the first ticks
  told : (j : ℕ) → j ≤ k → paired key (by_key key j (due_ones k n s)) ≡ in_words (due_within n s j)
  unfolding due_ones due_within
  told zero h = refl
  told (suc j) h =
      rw (paired_append key (by_key key j (due_ones k n s)) (having key (suc j) (due_ones k n s)), told j (omega arith), in_words_append, paired_having key (suc j) (due_ones k n s), due_having (suc j) (omega arith) h (up_to n.processes))

  -- and within all
  pub told_all : {order : List ℕ} → Ordered key (due_ones k n s) order → paired key order ≡ in_words (due_within n s k)
  unfolding due_ones
  told_all {order} o =
      ap (paired key) (sym (rising_by key k order o.rises within) ∙ by_same key k (due_ones k n s) order o.stable) ∙ told k (omega arith)
    where
      within : (x : ℕ) → member x order ≡ true → inside k (key x) ≡ true
      within x m = let i = (filter_member (is_due k n s) x (up_to n.processes) (same_member key x (due_ones k n s) order o.stable m)).1 in rw (agree x i) i
