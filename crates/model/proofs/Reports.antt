-- The ways out of a read into a lent buffer: what is to be told is too long for it, or it stands there. Assumes nothing.
use Prim.Native.Nat.{ℕ, ◌≤◌, ◌<◌}
use native.Mathlib.Omega.{arith}
use mathlib.Core.Path.{◌≡◌, refl}
use mathlib.Core.List.{List, ◌++◌}
use lib.ListN.{length, drop}
use Rattle.model.specs.Reports.{Reports}

module _ {m : ℕ} {xs old : List ℕ} where
  pub reports_short : length old < length xs → Reports m xs old old record { code = 5; count = 0 }
  reports_short h = record {
    short = λ l. record { code = refl; count = refl; buffer = refl };
    whole = λ l. let w : ⊥ = omega arith in absurd w;
  }

  pub reports_whole : {k : ℕ} {new : List ℕ} → k ≡ m → length xs ≤ length old → new ≡ xs ++ drop (length xs) old → Reports m xs old new record { code = 0; count = k }
  reports_whole e h d = record {
    short = λ l. let w : ⊥ = omega arith in absurd w;
    whole = λ l. record { code = refl; count = e; buffer = d };
  }
