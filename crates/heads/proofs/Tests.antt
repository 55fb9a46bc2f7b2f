-- What the tests of a queue's words say. Assumes nothing.
use Prim.Native.Nat.{ℕ, ◌/◌, ◌%◌, ◌≤◌, ◌<◌}
use native.Mathlib.Omega.{arith}
use mathlib.Core.Path.{◌≡◌}
use mathlib.Core.Bool.{true}
use Rattle.std.proofs.lemmas.Bool.Decides.{nat_tests}
use Rattle.heads.specs.Heads.{heading}

-- the words of a queue of kind k, in order: w has the tail, v the holder; a condition's has abortable or not, and wakeup only where it has no tail
pub record Headed (P k w v : ℕ) : Type 0 where
  pub tail : w / 8 ≤ P
  pub holder : v / 8 ≤ P
  pub whole : v % 8 ≡ 0
  pub held : (v ≡ 0 → ⊥) → w % 8 ≡ 1
  pub plain : v ≡ 0 → (k ≡ 2 → ⊥) → w % 8 ≡ 0
  pub wakes : v ≡ 0 → k ≡ 2 → (w % 8 < 4) × (w % 2 ≡ 1 → w < 8)

pub heading_is : (P k w v : ℕ) → heading P k w v ≡ true → Headed P k w v
unfolding heading
heading_is P k w v e = record {
  tail = grind (arith, nat_tests);
  holder = grind (arith, nat_tests);
  whole = grind (arith, nat_tests);
  held = λ n. grind (arith, nat_tests);
  plain = λ d n. grind (arith, nat_tests);
  wakes = λ d y. (grind (arith, nat_tests), λ o. grind (arith, nat_tests));
}

pub is_heading : (P k w v : ℕ) → Headed P k w v → heading P k w v ≡ true
unfolding heading
is_heading P k w v h = let a = h.tail in let b = h.holder in let c = h.whole in let d = h.held in let e = h.plain in let f = h.wakes in grind (arith, nat_tests)
