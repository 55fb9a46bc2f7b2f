-- The numbers from 1 to n, as a range gives them. Assumes nothing.
use Rattle.std.proofs.Common.{◌≡◌, ℕ, zero, suc, ◌+◌, List, [], ◌∷◌, ◌++◌, refl, ap, ◌∙◌, subst, ap₂, arith}
use Rattle.std.specs.declared.ops.Range.{Range}
use Rattle.std.specs.List.{range_with_len}
use Rattle.std.proofs.iter.Yields.{nat_range_steps}
use Rattle.std.proofs.lemmas.Iterator.{YieldsList, YieldsList-from_range}
use Rattle.model.specs.Queue.{up_to}

-- the list grows at its end
range_more : (a n : ℕ) → range_with_len a (suc n) ≡ range_with_len a n ++ ((a + n) ∷ [])
range_more a zero = ap (λ (x : ℕ). x ∷ []) (let e : a ≡ a + 0 = omega arith in e)
range_more a (suc n) = ap (λ (l : List ℕ). a ∷ l) (range_more (a + 1) n ∙ ap (λ (x : ℕ). range_with_len (a + 1) n ++ (x ∷ [])) (let e : a + 1 + n ≡ a + suc n = omega arith in e))

range_is : (n : ℕ) → range_with_len 1 n ≡ up_to n
range_is zero = refl
range_is (suc n) = range_more 1 n ∙ ap₂ (λ (l : List ℕ) (x : ℕ). l ++ (x ∷ [])) (range_is n) (let e : 1 + n ≡ suc n = omega arith in e)

pub numbers_come : {s : Range ℕ} (n : ℕ) → s ≡ record { start = 1; end = n + 1 } → YieldsList nat_range_steps (λ x. x) s (up_to n)
numbers_come {s} n e = subst (YieldsList nat_range_steps (λ x. x) s) (range_is n) (YieldsList-from_range 1 (n + 1) n e (omega arith))
