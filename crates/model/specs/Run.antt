-- Things done one after the other, each as it is promised: calls on an area, lines of a script, pieces of an input. Assumes nothing.
use Rattle.std.specs.Prelude.{List, [], ◌∷◌}

-- a list of them: from one state to another, with these answers
pub data Run {C S A : Type 0} (Promised : C → S → S → A → Type 0) : List C → S → S → List A → Type 0 where
  none : {s : S} → Run Promised [] s s []
  then : {c : C} {cs : List C} {old mid new : S} {a : A} {rs : List A} → Promised c old mid a → Run Promised cs mid new rs → Run Promised (c ∷ cs) old new (a ∷ rs)
