-- What the tests say of the functions of specs/, on values: who runs, a vacant queue, where a queue's words stand. Assumes nothing.
use Prim.Native.Nat.{ℕ, ◌+◌, ◌*◌, ◌/◌, ◌%◌, ◌≤◌, ◌<◌}
use native.Mathlib.Decide.{ℕ_discrete}
use native.Mathlib.Omega.{arith}
use mathlib.Core.Path.{◌≡◌, ◌∙◌}
use mathlib.Core.Bool.{true}
use mathlib.Core.List.{List}
use Rattle.std.proofs.lemmas.Bool.Decides.{nat_tests}
use lib.Bits.{bit_and, and_high}
use lib.Dec.{eqb}
use lib.ListN.{get_or}
use borrow.Author.Tests.{eq-eqb, ne_eqb}
use Rattle.links.specs.Link.{Stands, link, next}
use Rattle.heads.specs.First.{Decides, Led, Runs}
use Rattle.heads.specs.Heads.{bare, is_vacant, heading, head_at}

-- ---- running

-- the tail of ready has ten bits
pub led_tail : (ws rs : List ℕ) → Led ws rs → get_or ws 5 0 / 8 % 1024 ≡ get_or ws 5 0 / 8
led_tail ws rs L = elim (ℕ_discrete (get_or ws 5 0 / 8) 0) [ yes e ↦ omega arith | no n ↦ omega (arith, (L n).0.high) ]

-- where t is read as the tail of ready and f comes after it, f has a record
pub led_first : (ws rs : List ℕ) (t f : ℕ) → Led ws rs → t ≡ get_or ws 5 0 / 8 % 1024 → (t ≡ 0 → ⊥) → f ≡ next rs t → Stands rs f
led_first ws rs t f L e n d = rw (d, e, led_tail ws rs L) (L (λ z. n (omega arith))).1

-- and f is to run and not to be failed
pub runs_first : (ws rs : List ℕ) (t f : ℕ) → Led ws rs → t ≡ get_or ws 5 0 / 8 % 1024 → (t ≡ 0 → ⊥) → f ≡ next rs t → get_or ws 4 0 ≡ f * 8 → Decides (eqb (bit_and (link rs f) 4) 0) (Runs ws rs)
runs_first ws rs t f L e n d w = elim (ℕ_discrete (bit_and (link rs f) 4) 0) [
  | yes z ↦ rw (eq-eqb (bit_and (link rs f) 4) 0 z) (record { nobody = λ x. absurd (some x); somebody = λ x. rw (← tail_is) (record { first = rw (← d) w; clear = rw (← d) (omega (arith, bit)) }) })
  | no z ↦ rw (ne_eqb (bit_and (link rs f) 4) 0 z) (λ r. let clear = rw (← tail_is, ← d) at (r.somebody some).clear in z (omega (arith, bit)))
]
  where
    bit : bit_and (link rs f) 4 ≡ link rs f / 4 % 2 * 4
    bit = and_high (link rs f) 1 2

    some : get_or ws 5 0 / 8 ≡ 0 → ⊥
    some x = n (omega arith)

    tail_is : t ≡ get_or ws 5 0 / 8
    tail_is = e ∙ led_tail ws rs L

-- ---- a vacant queue, of which nobody holds the lock

module _ (P k w v : ℕ) (z : is_vacant k w ≡ true) where
  pub vacant_is : (w / 8 ≡ 0) × (w % 2 ≡ 0) × ((k ≡ 2 → ⊥) → w ≡ 0) × (k ≡ 2 → bare w ≡ 0)
  unfolding is_vacant
  vacant_is = (grind (arith, nat_tests), grind (arith, nat_tests), λ n. grind (arith, nat_tests), λ e. grind (arith, nat_tests))

  pub head_empty : v ≡ 0 → true ≡ heading P k w v
  unfolding is_vacant heading
  head_empty d = grind (arith, nat_tests)

-- ---- where a queue's words stand

-- among the words of m queues, both those of a lock
module _ (k i a m l : ℕ) (e : a ≡ head_at k i) (below : i < m) (long : head_at k m ≤ l) where
  pub head_within : a < l
  unfolding head_at
  head_within = grind (arith, nat_tests)

  pub holder_within : k ≡ 1 → a + 1 < l
  unfolding head_at
  holder_within d = grind (arith, nat_tests)
