-- No digit is lost: a number of at most k digits is read back out of its k columns. Assumes nothing.
use Prim.Native.Nat.{ℕ, zero, suc, ◌+◌, ◌-◌, ◌*◌, ◌/◌, ◌%◌, ◌^◌, ◌<◌}
use native.Mathlib.Omega.{arith}
use native.Mathlib.Nat.{pow-suc}
use mathlib.Core.Path.{◌≡◌, refl, ◌∙◌}
use mathlib.Core.Bool.{Bool, true, false, cond}
use mathlib.Core.List.{List, [], ◌∷◌, ◌++◌}
use lib.Dec.{eqb, ltb}
use borrow.Author.Tests.{ltb-true, ne_eqb}
use Rattle.rows.specs.Printed.{spaces, aligned}

-- the number that a row of digits and spaces shows, behind those that show `sum`
abbrev pub shown : ℕ → List ℕ → ℕ
shown sum [] = sum
shown sum (b ∷ bs) = cond (eqb b 32) (shown sum bs) (shown (sum * 10 + (b - 48)) bs)

-- with one digit more
shown_digit : (sum : ℕ) (xs : List ℕ) (d : ℕ) → d < 10 → shown sum (xs ++ ((48 + d) ∷ [])) ≡ shown sum xs * 10 + d
shown_digit sum [] d h = rw (ne_eqb (48 + d) 32 (λ e. omega arith)) (omega arith)
shown_digit sum (x ∷ xs) d h = go (eqb x 32) (shown_digit sum xs d h) (shown_digit (sum * 10 + (x - 48)) xs d h)
  where
    go : (b : Bool) → shown sum (xs ++ ((48 + d) ∷ [])) ≡ shown sum xs * 10 + d → shown (sum * 10 + (x - 48)) (xs ++ ((48 + d) ∷ [])) ≡ shown (sum * 10 + (x - 48)) xs * 10 + d
        → cond b (shown sum (xs ++ ((48 + d) ∷ []))) (shown (sum * 10 + (x - 48)) (xs ++ ((48 + d) ∷ []))) ≡ cond b (shown sum xs) (shown (sum * 10 + (x - 48)) xs) * 10 + d
    go true e f = e
    go false e f = f

shown_spaces : (k : ℕ) → shown 0 (spaces k) ≡ 0
shown_spaces zero = refl
shown_spaces (suc k) = shown_spaces k

-- it comes back
pub aligned_shown : (k m : ℕ) → m < 10 ^ k → shown 0 (aligned k m) ≡ m
unfolding aligned
aligned_shown zero m h = omega arith
aligned_shown (suc k) m h = shown_digit 0 (cond (ltb m 10) (spaces k) (aligned k (m / 10))) (m % 10) (omega arith) ∙ go (ltb m 10) refl (aligned_shown k (m / 10) less)
  where
    less : m / 10 < 10 ^ k
    less = let e = rw (pow-suc 10 k) at h in omega arith

    go : (b : Bool) → ltb m 10 ≡ b → shown 0 (aligned k (m / 10)) ≡ m / 10 → shown 0 (cond b (spaces k) (aligned k (m / 10))) * 10 + m % 10 ≡ m
    go true e ih = let l = ltb-true m 10 e in rw (shown_spaces k) (omega arith)
    go false e ih = rw ih (omega arith)
