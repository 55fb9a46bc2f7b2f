-- What a call on any words begins with: whether they are a sound area and, if so, its counts. Assumes nothing.
use Rattle.std.specs.Prelude.{◌≡◌, List, ℕ, Result, Ok, Err}
use Rattle.model.specs.declared.Shape.{Shape}
use Rattle.model.specs.declared.Refusal.{Refusal}
use Rattle.model.specs.declared.Refusal.TheVariants.{Unsound}
use Rattle.area.specs.Reading.{shape_of}
use Rattle.area.specs.Sound.{Sound}

-- a sound area has its counts told, and an unsound one is refused
abbrev pub Opens : List ℕ → Result Shape Refusal → Type 0
Opens ws (Ok n) = Sound ws × (n ≡ shape_of ws)
Opens ws (Err why) = (Sound ws → ⊥) × (why ≡ Unsound)
