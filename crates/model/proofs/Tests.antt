-- Tests with their meaning: what a test says where it passes and where it fails, in one form for every test. Every law stands on this file,
-- and this file on the computed examples, so that a wrong rule is told by an example first. Assumes nothing.
use Prim.Native.Nat.{ℕ, suc, ◌≤◌, ◌<◌}
use native.Mathlib.Decide.{ℕ_discrete}
use native.Mathlib.Omega.{arith}
use mathlib.Core.Path.{◌≡◌, refl, sym, ◌∙◌}
use mathlib.Core.Logic.{◌≢◌}
use mathlib.Core.Bool.{Bool, true, false, true≢false}
use lib.Dec.{eqb, leb, ltb}
use Rattle.std.proofs.lemmas.Bool.{eqb-true, eqb-false, leb-true, leb-false}
use Rattle.model.specs.Queue.{Queue, Queue-discrete, decided, same, bit, inside, outside}
use Rattle.model.specs.Field.{Field, Fields, Field-discrete, put}
-- Laws of the library, by the names that go with the cases below.
pub use Rattle.std.proofs.lemmas.Bool.{eq-eqb as eqb_yes, ne_eqb as eqb_no, le-leb as leb_yes, lt-leb as leb_no, ltb-false as not_below, or_parts as or_split, and_parts as and_split, not-true as not_true, not-false as not_false, false_from_ne_true as denied, true_from_ne_false as granted}

-- ---- a test that holds with P or fails with Q

pub data Case (P Q : Type 0) (b : Bool) : Type 0 where
  holds : P → b ≡ true → Case P Q b
  fails : Q → b ≡ false → Case P Q b

module _ {P Q : Type 0} {b : Bool} where
  -- what the test says, by its answer
  pub so : Case P Q b → b ≡ true → P
  so (holds p e) t = p
  so (fails q e) t = absurd (true≢false (sym t ∙ e))

  pub not_so : Case P Q b → b ≡ false → Q
  not_so (holds p e) t = absurd (true≢false (sym e ∙ t))
  not_so (fails q e) t = q

  -- the answer, by what it says
  pub passes : Case P Q b → (Q → ⊥) → b ≡ true
  passes (holds p e) h = e
  passes (fails q e) h = absurd (h q)

  pub stops : Case P Q b → (P → ⊥) → b ≡ false
  stops (holds p e) h = absurd (h p)
  stops (fails q e) h = e

-- ---- numbers

abbrev pub EqCase : ℕ → ℕ → Type 0
EqCase m n = Case (m ≡ n) (m ≢ n) (eqb m n)

pub eqb_case : (m n : ℕ) → EqCase m n
eqb_case m n = go (eqb m n) refl
  where
    go : (b : Bool) → eqb m n ≡ b → EqCase m n
    go true e = holds (eqb-true m n e) e
    go false e = fails (eqb-false m n e) e

pub eqb_comm : (m n : ℕ) → eqb m n ≡ eqb n m
eqb_comm m n = go (eqb_case m n)
  where
    go : EqCase m n → eqb m n ≡ eqb n m
    go (holds d e) = e ∙ sym (eqb_yes n m (sym d))
    go (fails d e) = e ∙ sym (eqb_no n m (λ z. d (sym z)))

abbrev pub LeCase : ℕ → ℕ → Type 0
LeCase m n = Case (m ≤ n) (n < m) (leb m n)

pub leb_case : (m n : ℕ) → LeCase m n
leb_case m n = go (leb m n) refl
  where
    go : (b : Bool) → leb m n ≡ b → LeCase m n
    go true e = holds (leb-true m n e) e
    go false e = fails (leb-false m n e) e

-- ---- a derived decision: of two queues, of two fields

pub decided_case : {A : Type 0} (d : Dec A) → Case A (A → ⊥) (decided d)
decided_case (yes a) = holds a refl
decided_case (no h) = fails h refl

abbrev pub SameCase : Queue → Queue → Type 0
SameCase q r = Case (q ≡ r) (q ≢ r) (same q r)

pub same_case : (q r : Queue) → SameCase q r
same_case q r = decided_case (Queue-discrete ℕ_discrete q r)

pub same_yes : (q r : Queue) → q ≡ r → same q r ≡ true
same_yes q r e = passes (same_case q r) (λ h. h e)

abbrev pub PutCase : Field → Field → Type 0
PutCase f g = Case (f ≡ g) (f ≢ g) (decided (Field-discrete ℕ_discrete f g))

pub put_case : (f g : Field) → PutCase f g
put_case f g = decided_case (Field-discrete ℕ_discrete f g)

-- the field that was put, and the others
pub put_here : (f : Field) (v : ℕ) (s : Fields) → put f v s f ≡ v
put_here f v s = rw (passes (put_case f f) (λ h. h refl))

pub put_away : (f : Field) (v : ℕ) (s : Fields) (g : Field) → f ≢ g → put f v s g ≡ s g
put_away f v s g h = rw (stops (put_case f g) h)

-- ---- by cases on what cannot be decided, where what is to be shown can be

pub settle : {S X : Type 0} → Dec X → (S → X) → ((S → ⊥) → X) → X
settle d f g = elim d [
  | yes x ↦ x
  | no n ↦ g (λ s. n (f s))
]

-- ---- bits

pub bit_split : (b : Bool) → 1 ≤ bit b → b ≡ true
bit_split true h = refl
bit_split false h = let z : ⊥ = omega arith in absurd z

pub bit_small : (b : Bool) → bit b ≤ 1
bit_small true = omega arith
bit_small false = omega arith

-- ---- numbers from 1 to n

pub inside_bounds : (n i : ℕ) → inside n i ≡ true → (1 ≤ i) × (i ≤ n)
inside_bounds n i e =
    let s = or_split (eqb i 0) (ltb n i) (not_true (outside n i) e) in
    let a = not_so (eqb_case i 0) s.0 in
    (omega arith, not_below n i s.1)

pub bounds_inside : (n i : ℕ) → 1 ≤ i → i ≤ n → inside n i ≡ true
bounds_inside n i a b = rw (eqb_no i 0 (omega arith), leb_no (suc n) i (omega arith))

pub outside_inside : (n i : ℕ) → outside n i ≡ false → inside n i ≡ true
outside_inside n i e = rw e
