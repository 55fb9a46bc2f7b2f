-- The nearest, found by a walk over the processes: of those passed the first with the fewest ticks left. Whoever is the first of all with the fewest
-- stands first among those due within a full round: nobody is due before, and of those with as many ticks left nobody stands before. Assumes nothing.
use Prim.Native.Nat.{ℕ, zero, suc, ◌+◌, ◌-◌, ◌≤◌, ◌<◌}
use native.Mathlib.Omega.{arith}
use native.Mathlib.Decide.{ℕ_discrete}
use mathlib.Core.Path.{◌≡◌, refl, sym, ◌∙◌}
use mathlib.Core.Logic.{◌≢◌}
use mathlib.Core.Bool.{Bool, true, false, true≢false}
use Rattle.std.specs.Prelude.{Option, Some, None}
use mathlib.Core.List.{List, [], ◌∷◌, ◌++◌, map}
use lib.Dec.{eqb}
use Rattle.std.specs.Option.{unwrap_or, option_zip}
use Rattle.model.specs.declared.Shape.{Shape}
use Rattle.model.specs.Queue.{up_to, filter}
use Rattle.model.specs.Machine.{State, model}
use Rattle.model.specs.Timers.{Entry, left, with_left, due_within, nearest}
use Rattle.model.proofs.Tests.{so, not_so, eqb_yes, eqb_no, leb_case, inside_bounds}
use Rattle.model.proofs.Lists.{filter_append, up_to_member}
use Rattle.model.proofs.Many.{filter_none}
use Rattle.model.proofs.Ticking.{left_most}
use Rattle.timers.specs.Telling.{fewer}

-- ---- the walk

-- of 1 to q, whose ticks left f tells, p has d: nobody has fewer, and nobody before p has as many
pub record First (f : ℕ → ℕ) (q p d : ℕ) : Type 0 where
  pub above : 1 ≤ p
  pub within : p ≤ q
  pub has : f p ≡ d
  pub some : d ≢ 0
  pub least : (x : ℕ) → 1 ≤ x → x ≤ q → f x ≢ 0 → d ≤ f x
  pub before : (x : ℕ) → 1 ≤ x → x < p → f x ≢ d

-- such a one is the nearest of 1 to q, or nobody has any
abbrev pub Least : (ℕ → ℕ) → (q p : ℕ) → Option ℕ → Type 0
Least f q p None = (x : ℕ) → 1 ≤ x → x ≤ q → f x ≡ 0
Least f q p (Some d) = First f q p d

module _ (f : ℕ → ℕ) where
  -- nobody is passed
  pub least_start : Least f 0 0 None
  least_start x a b = absurd (omega arith)

  -- p comes next
  module _ (p : ℕ) (h : 1 ≤ p) where
    -- who has none
    pub least_none : (m : ℕ) (o : Option ℕ) → Least f (p - 1) m o → f p ≡ 0 → Least f (p + 1 - 1) m o
    least_none m None L e = λ x a b. elim (ℕ_discrete x p) [ yes k ↦ rw k e | no k ↦ L x a (omega arith) ]
    least_none m (Some l) L e = record {
      above = L.above;
      within = omega (arith, L.within);
      has = L.has;
      some = L.some;
      least = λ x a b n. elim (ℕ_discrete x p) [ yes k ↦ absurd (n (rw k e)) | no k ↦ L.least x a (omega arith) n ];
      before = L.before;
    }

    module _ {d : ℕ} (has : f p ≡ d) (some : d ≢ 0) where
      -- all before have more than who has fewer than the nearest so far
      more : (m : ℕ) (o : Option ℕ) → Least f (p - 1) m o → fewer d o ≡ true → (x : ℕ) → 1 ≤ x → x < p → f x ≢ 0 → d < f x
      more m None L t x a b n = absurd (n (L x a (omega arith)))
      more m (Some l) L t x a b n =
          let less = so (leb_case (suc d) l) t in
          let least = L.least x a (omega arith) n in
          omega arith

      -- who has fewer
      pub least_taken : (m : ℕ) (o : Option ℕ) → Least f (p - 1) m o → fewer d o ≡ true → Least f (p + 1 - 1) p (Some d)
      least_taken m o L t = record {
        above = h;
        within = omega arith;
        has = has;
        some = some;
        least = λ x a b n. elim (ℕ_discrete x p) [ yes k ↦ rw (k, has) (omega arith) | no k ↦ let y = more m o L t x a (omega arith) n in omega arith ];
        before = λ x a b e. let y = more m o L t x a b (λ z. some (sym e ∙ z)) in omega arith;
      }

      -- who has not
      pub least_left : (m : ℕ) (o : Option ℕ) → Least f (p - 1) m o → fewer d o ≡ false → Least f (p + 1 - 1) m o
      least_left m None L t = absurd (true≢false t)
      least_left m (Some l) L t = record {
        above = L.above;
        within = omega (arith, L.within);
        has = L.has;
        some = L.some;
        least = λ x a b n. elim (ℕ_discrete x p) [ yes k ↦ (let y = not_so (leb_case (suc d) l) t in rw (k, has) (omega arith)) | no k ↦ L.least x a (omega arith) n ];
        before = L.before;
      }

-- ---- the end of it

-- the first of 1 to m who passes a test
first_of : (t : ℕ → Bool) (m p : ℕ) → 1 ≤ p → p ≤ m → t p ≡ true → ((x : ℕ) → 1 ≤ x → x < p → t x ≡ false) → (rest : List ℕ) × (filter t (up_to m) ≡ p ∷ rest)
first_of t zero p a b e h = let z : ⊥ = omega arith in absurd z
first_of t (suc m) p a b e h = go (ℕ_discrete p (suc m)) (λ j. first_of t m p a j e h)
  where
    go : Dec (p ≡ suc m) → (p ≤ m → (rest : List ℕ) × (filter t (up_to m) ≡ p ∷ rest)) → (rest : List ℕ) × (filter t (up_to (suc m)) ≡ p ∷ rest)
    go (yes i) ih =
        let none : filter t (up_to m) ≡ [] = filter_none t (up_to m) (λ x w. let b = inside_bounds m x (up_to_member m x w) in h x b.0 (omega arith)) in
        ([], filter_append t (up_to m) (suc m ∷ []) ∙ rw (none, ← i, e))
    go (no i) ih = let r = ih (omega arith) in (r.0 ++ filter t (suc m ∷ []), filter_append t (up_to m) (suc m ∷ []) ∙ rw r.1)

module _ (n : Shape) (s : State model) where
  -- nobody is due within k ticks where everybody with a timer has more left
  none_within : (k : ℕ) → ((x : ℕ) → 1 ≤ x → x ≤ n.processes → left n s x ≢ 0 → k < left n s x) → due_within n s k ≡ []
  unfolding due_within
  none_within zero h = refl
  none_within (suc k) h =
      rw (none_within k (λ x a b o. let w = h x a b o in omega arith), filter_none (λ x. eqb (left n s x) (suc k)) (up_to n.processes) (λ x m. not_now x (inside_bounds n.processes x (up_to_member n.processes x m))))
    where
      not_now : (x : ℕ) → (1 ≤ x) × (x ≤ n.processes) → eqb (left n s x) (suc k) ≡ false
      not_now x b = eqb_no (left n s x) (suc k) (λ e. let w = h x b.0 b.1 (λ z. let v : suc k ≡ 0 = sym e ∙ z in omega arith) in omega (arith, e))

  -- whoever is the first with the fewest stands first
  first_within : (p d : ℕ) → 1 ≤ p → p ≤ n.processes → left n s p ≡ d → d ≢ 0 → ((x : ℕ) → 1 ≤ x → x ≤ n.processes → left n s x ≢ 0 → d ≤ left n s x) → ((x : ℕ) → 1 ≤ x → x < p → left n s x ≢ d)
      → (k : ℕ) → d ≤ k → (rest : List Entry) × (due_within n s k ≡ (p, d) ∷ rest)
  unfolding due_within
  first_within p d a b e o all before zero h = let z : ⊥ = omega arith in absurd z
  first_within p d a b e o all before (suc k) h = go (ℕ_discrete d (suc k)) (λ j. first_within p d a b e o all before k j)
    where
      go : Dec (d ≡ suc k) → (d ≤ k → (rest : List Entry) × (due_within n s k ≡ (p, d) ∷ rest)) → (rest : List Entry) × (due_within n s (suc k) ≡ (p, d) ∷ rest)
      go (yes i) ih =
          let r = first_of (λ x. eqb (left n s x) (suc k)) n.processes p a b (eqb_yes (left n s p) (suc k) (e ∙ i)) (λ x v w. eqb_no (left n s x) (suc k) (λ z. before x v w (z ∙ sym i))) in
          (map (λ x. (x, suc k)) r.0, here r.0 r.1)
        where
          here : (rest : List ℕ) → filter (λ x. eqb (left n s x) (suc k)) (up_to n.processes) ≡ p ∷ rest → due_within n s (suc k) ≡ (p, d) ∷ map (λ x. (x, suc k)) rest
          here rest r = rw (none_within k (λ x v w y. let m = all x v w y in omega arith), r, i)
      go (no i) ih = let r = ih (omega arith) in (r.0 ++ with_left n s (suc k), rw r.1)

  -- so the walk ends at the nearest
  pub nearest_is : {q : ℕ} → q ≡ n.processes → (p : ℕ) (o : Option ℕ) → Least (left n s) q p o → unwrap_or (option_zip (Some p) o) (0, 0) ≡ nearest n s
  nearest_is e p None L = rw (none_within 65536 (λ x a b o. absurd (o (L x a (omega arith)))))
  nearest_is e p (Some d) L =
      let F = rw e at L in
      rw (first_within p d F.above F.within F.has F.some F.least F.before 65536 (rw (← F.has) (left_most n s p))).1
