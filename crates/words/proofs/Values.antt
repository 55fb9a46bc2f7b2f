-- Laws on the value of a row of digits: what has gone above the limit stays there. Assumes nothing.
use Prim.Native.Nat.{ℕ, suc, ◌+◌, ◌-◌, ◌*◌, ◌<◌}
use mathlib.Core.Bool.{Bool, true, false, cond}
use mathlib.Core.List.{List, [], ◌∷◌}
use native.Mathlib.Omega.{arith}
use lib.ListN.{length, get_or, drop}
use lib.Seq.{drop-cons}
use Rattle.words.specs.Words.{digit, value_from}

-- no digit is above it too
either : (t : Bool) (v : ℕ) → 65535 < v → 65535 < cond t v 65536
either true v h = h
either false v h = omega arith

pub value_above : (n : ℕ) (bs : List ℕ) → 65535 < n → 65535 < value_from n bs
value_above n [] h = h
value_above n (b ∷ bs) h = either (digit b) _ (value_above (n * 10 + (b - 48)) bs (omega arith))

pub value_over : (w : List ℕ) (i n : ℕ) → i < length w → 65535 < n * 10 + (get_or w i 0 - 48) → 65535 < value_from n (drop i w)
value_over w i n h k = rw (drop-cons w i 0 h) (either (digit (get_or w i 0)) _ (value_above (n * 10 + (get_or w i 0 - 48)) (drop (suc i) w) k))
