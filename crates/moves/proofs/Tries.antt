-- How a try is told that succeeded, and one that did not. Assumes nothing.
use Prim.Native.Nat.{ℕ}
use mathlib.Core.Path.{◌≡◌, sym, ◌∙◌}
use mathlib.Core.Bool.{Bool, true, false, true≢false, false≢true}
use mathlib.Core.List.{List}
use Rattle.area.specs.Holds.{Tried}

module _ {b : Bool} {old new : List ℕ} {A : Type 0} where
  pub did : b ≡ true → A → Tried b true old new A
  did e a = record { told = sym e; done = λ k. a; kept = λ k. absurd (true≢false (sym e ∙ k)) }

  pub did_not : b ≡ false → new ≡ old → Tried b false old new A
  did_not e same = record { told = sym e; done = λ k. absurd (false≢true (sym e ∙ k)); kept = λ k. same }
