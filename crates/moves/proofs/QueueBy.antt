-- The queue of a kind and a number: its place, and whether there is one. Assumes nothing.
use Rattle.std.proofs.Common.{Option, Some, None}
use Prim.Native.Nat.{ℕ, zero, suc}
use mathlib.Core.Path.{◌≡◌, refl}
use mathlib.Core.Bool.{Bool, true, false, cond, false≢true}
use Rattle.model.specs.declared.Shape.{Shape}
use Rattle.model.specs.Queue.{exists, queue_by, is_queue}
use Rattle.area.specs.Layout.{at}
use Rattle.area.specs.Layout.Slot.{Tail}

-- where its tail stands, if there is such a queue
abbrev pub place_by : Shape → ℕ → ℕ → Option ℕ
place_by n kind i = cond (is_queue n kind i) (Some (at n (Tail (queue_by kind i)))) None

-- the counts give the queue of a kind and a number
given_by : (n : Shape) (kind i : ℕ) → is_queue n kind i ≡ true → exists n (queue_by kind i) ≡ true
given_by n zero i t = refl
given_by n (suc zero) i t = t
given_by n (suc (suc zero)) i t = t
given_by n (suc (suc (suc zero))) i t = t
given_by n (suc (suc (suc (suc k)))) i t = absurd (false≢true t)

-- there is such a queue, the counts give it, and its tail stands at r
pub record Found (n : Shape) (kind i r : ℕ) : Type 0 where
  pub known : is_queue n kind i ≡ true
  pub given : exists n (queue_by kind i) ≡ true
  pub here : r ≡ at n (Tail (queue_by kind i))

module _ (n : Shape) (kind i : ℕ) where
  pub some_by : {r : ℕ} → Some r ≡ place_by n kind i → Found n kind i r
  some_by {r} e = go (is_queue n kind i) refl
    where
      go : (b : Bool) → is_queue n kind i ≡ b → Found n kind i r
      go true t = record { known = t; given = given_by n kind i t; here = let z = rw t at e in cc }
      go false t = let z = rw t at e in absurd (cc)
