-- What the tests of a member say: a process that is fresh, a record that fits. Assumes nothing.
use Prim.Native.Nat.{ℕ, ◌/◌, ◌%◌, ◌≤◌}
use native.Mathlib.Decide.{ℕ_discrete}
use native.Mathlib.Omega.{arith}
use mathlib.Core.Path.{◌≡◌}
use mathlib.Core.Logic.{◌⊎◌, inl, inr}
use mathlib.Core.Bool.{true, false, ◌&&◌}
use mathlib.Core.List.{List}
use lib.Dec.{leb}
use borrow.Author.Tests.{ne_eqb}
use Rattle.std.proofs.lemmas.Bool.Decides.{nat_tests}
use Rattle.model.specs.Queue.{inside, member}
use Rattle.members.specs.Walk.{is_eligible, is_fresh, is_asleep, is_idle, is_tidy, fitting}

-- a fresh process
pub record Fresh (P o p : ℕ) (js : List ℕ) : Type 0 where
  pub within : inside P p ≡ true
  pub free : p ≡ o → ⊥
  pub new : member p js ≡ false

pub fresh_is : (P o p : ℕ) (js : List ℕ) → is_fresh P o p js ≡ true → Fresh P o p js
unfolding is_fresh is_eligible
fresh_is P o p js e = record { within = grind (arith, nat_tests); free = λ d. grind (arith, nat_tests); new = grind (arith, nat_tests) }

pub is_fresh_lem : (P o p : ℕ) (js : List ℕ) → Fresh P o p js → is_fresh P o p js ≡ true
unfolding is_fresh is_eligible
is_fresh_lem P o p js f = rw (f.within, ne_eqb p o f.free, f.new)

-- flags and timer in a condition, whatever abort: armed, or not and then without a timer
abbrev pub Asleep : ℕ → ℕ → Type 0
Asleep f t = (f / 2 ≡ 3) ⊎ ((f / 2 ≡ 1) × (t ≡ 0))

asleep_is : (f t : ℕ) → is_asleep f t ≡ true → Asleep f t
unfolding is_asleep
asleep_is f t e = elim (ℕ_discrete (f / 2) 3) [ yes d ↦ inl d | no n ↦ inr (grind (arith, nat_tests), grind (arith, nat_tests)) ]

-- and in any other queue: none of them
abbrev Idle : ℕ → ℕ → Type 0
Idle f t = (f / 2 ≡ 0) × (t ≡ 0)

-- a record that fits a queue of kind k: link w, flags f, timer t
pub record Fits (k w f t : ℕ) : Type 0 where
  pub waits : k ≡ 2 → Asleep f t × (w % 8 ≡ 0)
  pub idle : (k ≡ 2 → ⊥) → Idle f t × (w % 4 ≡ 0)
  pub blocked : k ≡ 1 → w % 8 ≡ 4

pub fitting_is : (k b w f t : ℕ) → (fitting k w f t && leb (w / 8192) b) ≡ true → (w / 8192 ≤ b) × Fits k w f t
unfolding fitting is_tidy is_idle
fitting_is k b w f t e = (
  grind (arith, nat_tests),
  record {
    waits = λ d. (asleep_is f t (grind (arith, nat_tests)), grind (arith, nat_tests));
    idle = λ n. ((grind (arith, nat_tests), grind (arith, nat_tests)), grind (arith, nat_tests));
    blocked = λ d. grind (arith, nat_tests);
  },
)

pub is_fitting : (k b w f t : ℕ) → w / 8192 ≤ b → Fits k w f t → (fitting k w f t && leb (w / 8192) b) ≡ true
unfolding fitting is_tidy is_idle is_asleep
is_fitting k b w f t h x = let a = x.waits in let c = x.idle in let d = x.blocked in grind (arith, nat_tests)
