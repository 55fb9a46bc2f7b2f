-- A run and another behind it are one. Assumes nothing.
use mathlib.Core.List.{List, ◌++◌}
use Rattle.model.specs.Run.{Run}
use Rattle.model.specs.Run.Run.{none, then}

pub run_append : {C S A : Type 0} {Promised : C → S → S → A → Type 0} {cs ds : List C} {old mid new : S} {rs ts : List A}
    → Run Promised cs old mid rs → Run Promised ds mid new ts → Run Promised (cs ++ ds) old new (rs ++ ts)
run_append none Q = Q
run_append (then p R) Q = then p (run_append R Q)
