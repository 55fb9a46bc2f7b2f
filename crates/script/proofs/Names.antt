-- Laws on how many numbers a name takes. Assumes nothing.
use Prim.Native.Nat.{ℕ, ◌<◌}
use mathlib.Core.Path.{◌≡◌, refl}
use mathlib.Core.List.{List, [], ◌∷◌}
use native.Mathlib.Omega.{arith}
use lib.ListN.{length}
use Rattle.model.specs.declared.Call.{Call}
use Rattle.script.specs.Line.{alone, one, two, three, started}
use Rattle.script.specs.Line.Meaning.{none}

pub not_alone : (c : Call) (ns : List ℕ) → (length ns ≡ 0 → ⊥) → alone c ns ≡ none
not_alone c [] h = absurd (h refl)
not_alone c (x ∷ xs) h = refl

pub not_one : (f : ℕ → Call) (ns : List ℕ) → (length ns ≡ 1 → ⊥) → one f ns ≡ none
not_one f [] h = refl
not_one f (x ∷ []) h = absurd (h refl)
not_one f (x ∷ y ∷ zs) h = refl

pub not_two : (f : ℕ → ℕ → Call) (ns : List ℕ) → (length ns ≡ 2 → ⊥) → two f ns ≡ none
not_two f [] h = refl
not_two f (x ∷ []) h = refl
not_two f (x ∷ y ∷ []) h = absurd (h refl)
not_two f (x ∷ y ∷ z ∷ zs) h = refl

pub not_three : (f : ℕ → ℕ → ℕ → Call) (ns : List ℕ) → (length ns ≡ 3 → ⊥) → three f ns ≡ none
not_three f [] h = refl
not_three f (x ∷ []) h = refl
not_three f (x ∷ y ∷ []) h = refl
not_three f (x ∷ y ∷ z ∷ []) h = absurd (h refl)
not_three f (x ∷ y ∷ z ∷ u ∷ us) h = refl

pub not_started : (ns : List ℕ) → length ns < 4 → started ns ≡ none
not_started [] h = refl
not_started (x ∷ []) h = refl
not_started (x ∷ y ∷ []) h = refl
not_started (x ∷ y ∷ z ∷ []) h = refl
not_started (x ∷ y ∷ z ∷ u ∷ us) h = let k : ⊥ = omega arith in absurd k

-- a name with another count of numbers than it takes says nothing
pub ruleset miscounted = (not_alone, not_one, not_two, not_three, not_started)
