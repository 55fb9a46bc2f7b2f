-- Laws of the table: nobody is met in a clear one, and p met besides changes what it says of p alone, since a power of two has one bit. Assumes nothing.
use Prim.Native.Nat.{ℕ, zero, suc, ◌*◌, ◌/◌, ◌%◌, ◌^◌, ◌<◌}
use native.Mathlib.Nat.{zero-mul, zero-div, one-mul}
use native.Mathlib.Decide.{ℕ_discrete}
use native.Mathlib.Omega.{arith}
use mathlib.Core.Path.{◌≡◌, refl, ap, ◌∙◌}
use mathlib.Core.Bool.{true, not}
use mathlib.Core.List.{List, [], ◌∷◌}
use lib.Bits.{bit_and, bit_or, or_add_and}
use lib.Dec.{eqb}
use lib.Pow.{pow_pos}
use lib.ListN.{length, get_or, replicate, length-set}
use lib.Seq.{get_or-set_same, get_or-set_other}
use borrow.Author.Tests.{eq-eqb, ne_eqb}
use Rattle.std.proofs.Common.{w64}
use Rattle.std.proofs.lemmas.Nat.{one_shl}
use Rattle.std.proofs.lemmas.Nat.Bits.{and_pow, bit_at_set_same, bit_at_set_other}
use Rattle.members.specs.Marks.{met_in, marked, Table}

-- ---- one bit of a word

-- a bit set besides is told by the change of its word
module _ (w b : ℕ) where
  pub told : b < 64 → not (eqb (bit_or w (1 * 2 ^ b % 2 ^ 64)) w) ≡ not (eqb (w / 2 ^ b % 2) 1)
  told small =
      rw (one_shl b 64 small)
      (let s = or_add_and w (2 ^ b) in let a = and_pow w b in let h = pow_pos b in
      elim (ℕ_discrete (w / 2 ^ b % 2) 1) [
        | yes e ↦ let a' : bit_and w (2 ^ b) ≡ 2 ^ b = a ∙ (rw e (one-mul (2 ^ b))) in rw (eq-eqb (w / 2 ^ b % 2) 1 e, eq-eqb (bit_or w (2 ^ b)) w (omega arith))
        | no n ↦ let z : w / 2 ^ b % 2 ≡ 0 = omega arith in let a' : bit_and w (2 ^ b) ≡ 0 = a ∙ rw (z, zero-mul) in rw (ne_eqb (w / 2 ^ b % 2) 1 n, ne_eqb (bit_or w (2 ^ b)) w (λ e. omega arith))
      ])

-- ---- the table

met_here : (ms : List ℕ) (p q : ℕ) → length ms ≡ 16 → p < 1024 → p ≡ q → met_in (marked ms p) q ≡ true
unfolding met_in marked
met_here ms p q long l e =
    let i : p / 64 ≡ q / 64 = rw e in
    rw (← i, get_or-set_same ms (p / 64) (bit_or (get_or ms (p / 64) 0) (1 * 2 ^ (p % 64) % 2 ^ 64)) 0 (omega arith))
    (eq-eqb _ 1 (let same : p % 64 ≡ q % 64 = rw e in rw (← same) (bit_at_set_same w64 (get_or ms (p / 64) 0) (p % 64) (omega arith))))

met_there : (ms : List ℕ) (p q : ℕ) → length ms ≡ 16 → p < 1024 → (p ≡ q → ⊥) → met_in (marked ms p) q ≡ met_in ms q
unfolding met_in marked
met_there ms p q long l n = elim (ℕ_discrete (q / 64) (p / 64)) [
  | yes i ↦
      rw (i, get_or-set_same ms (p / 64) (bit_or (get_or ms (p / 64) 0) (1 * 2 ^ (p % 64) % 2 ^ 64)) 0 (omega arith))
      (ap (λ (x : ℕ). eqb x 1) (bit_at_set_other w64 (get_or ms (p / 64) 0) (p % 64) (omega arith) (q % 64) (λ e. n (omega arith))))
  | no i ↦ rw (get_or-set_other ms (p / 64) (q / 64) (bit_or (get_or ms (p / 64) 0) (1 * 2 ^ (p % 64) % 2 ^ 64)) 0 i)
]

pub table_marked : (ms js : List ℕ) (p : ℕ) → p < 1024 → Table ms js → Table (marked ms p) (p ∷ js)
unfolding marked
table_marked ms js p l t = record {
  long = length-set ms (p / 64) _ ∙ t.long;
  says = λ q h. elim (ℕ_discrete p q) [
    | yes e ↦ rw (eq-eqb p q e) (met_here ms p q t.long l e)
    | no n ↦ rw (ne_eqb p q n) (met_there ms p q t.long l n ∙ t.says q h)
  ];
}

get_d_clear : (n i : ℕ) → ◌≡◌ {A = ℕ} (get_or (replicate n 0) i 0) 0
get_d_clear zero i = refl
get_d_clear (suc n) zero = refl
get_d_clear (suc n) (suc i) = get_d_clear n i

-- the clear table
abbrev pub clear : List ℕ
clear = replicate 16 0

pub table_clear : Table clear []
unfolding met_in
table_clear = record { long = refl; says = λ p l. rw (get_d_clear 16 (p / 64), zero-div (2 ^ (p % 64))) }
