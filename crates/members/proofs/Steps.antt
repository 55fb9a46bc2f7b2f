-- The walk step by step: what each way out of the code says of the functions of specs/, on values. Assumes nothing.
use Prim.Native.Nat.{ℕ, zero, suc, ◌+◌, ◌-◌, ◌*◌, ◌/◌, ◌%◌, ◌≤◌, ◌<◌}
use native.Mathlib.Omega.{arith}
use mathlib.Core.Path.{◌≡◌, refl, sym, ap, ◌∙◌}
use mathlib.Core.Bool.{true, false, and-false}
use mathlib.Core.List.{List, ◌∷◌}
use Rattle.std.proofs.Common.{None, Some}
use Rattle.std.proofs.lemmas.Bool.Decides.{nat_tests}
use lib.Bits.{bit_and, and_mask, and_high, and_block}
use lib.Dec.{leb}
use lib.ListN.{length}
use borrow.Author.Tests.{eq-eqb, ne_eqb}
use Rattle.links.specs.Link.{next, priority}
use Rattle.members.specs.Walk.{is_idle, is_fresh, fits_in, walked, ringed}

-- ---- whether a record fits

-- the flags but for armed and abort
pub fixed_is : (f : ℕ) → f < 65536 → bit_and f 65530 ≡ f / 8 * 8 + f / 2 % 2 * 2
fixed_is f b =
    let d : bit_and (f / 8 * 8 + f % 8) 65530 ≡ bit_and (f / 8) 8191 * 8 + bit_and (f % 8) 2 = and_block 3 (f / 8) 8191 (f % 8) 2 (omega arith) (omega arith) in
    let g : f / 8 * 8 + f % 8 ≡ f = omega arith in
    let h : bit_and (f / 8) 8191 ≡ f / 8 % 8192 = and_mask (f / 8) 13 in
    let few : f / 8 % 8192 ≡ f / 8 = omega arith in
    let m : bit_and (f % 8) 2 ≡ f % 8 / 2 % 2 * 2 = and_high (f % 8) 1 1 in
    let o : f % 8 / 2 % 2 ≡ f / 2 % 2 = omega arith in
    ap (λ x. bit_and x 65530) (sym g) ∙ d ∙ rw (h, few, m, o)

-- of flags and a timer elsewhere, as one number
pub idle_by : (f t : ℕ) → leb (t * 65536 + f) 1 ≡ is_idle f t
unfolding is_idle
idle_by f t = grind (arith, nat_tests)

-- ---- the walk

module _ (rs : List ℕ) (P k o t : ℕ) where
  pub walk_out : (n p b : ℕ) (js : List ℕ) → n ≤ 0 → walked rs P k o t n p b js ≡ None
  unfolding walked
  walk_out zero p b js l = refl
  walk_out (suc n) p b js l = absurd (omega arith)

  pub walk_stale : (n p b : ℕ) (js : List ℕ) → is_fresh P o p js ≡ false → walked rs P k o t n p b js ≡ None
  unfolding walked
  walk_stale zero p b js e = refl
  walk_stale (suc n) p b js e = rw e

  pub walk_unfit : (n p b : ℕ) (js : List ℕ) → fits_in rs k b p ≡ false → walked rs P k o t n p b js ≡ None
  unfolding walked
  walk_unfit zero p b js e = refl
  walk_unfit (suc n) p b js e = rw (e, and-false)

  pub walk_last : (n p b : ℕ) (js : List ℕ) → 0 < n → is_fresh P o p js ≡ true → fits_in rs k b p ≡ true → p ≡ t → walked rs P k o t n p b js ≡ Some (p ∷ js)
  unfolding walked
  walk_last zero p b js l e f q = absurd (omega arith)
  walk_last (suc n) p b js l e f q = rw (e, f, eq-eqb p t q)

  pub walk_on : (n m p b : ℕ) (js : List ℕ) → n ≡ suc m → is_fresh P o p js ≡ true → fits_in rs k b p ≡ true → (p ≡ t → ⊥)
      → walked rs P k o t n p b js ≡ walked rs P k o t m (next rs p) (priority rs p) (p ∷ js)
  unfolding walked
  walk_on n m p b js s e f q = rw (s, e, f, ne_eqb p t q)

  pub ring_empty : (js : List ℕ) → t ≡ 0 → ringed rs P k o t js ≡ Some js
  unfolding ringed
  ring_empty js e = rw (eq-eqb t 0 e)

  pub ring_walk : (js : List ℕ) → (t ≡ 0 → ⊥) → ringed rs P k o t js ≡ walked rs P k o t (P - length js) (next rs t) 7 js
  unfolding ringed
  ring_walk js e = rw (ne_eqb t 0 e)
