-- What a function knows of an area when it has asked whether it is sound, with n the counts that it was told. Assumes nothing.
use Prim.Native.Nat.{ℕ}
use mathlib.Core.Path.{◌≡◌}
use mathlib.Core.List.{List}
use Rattle.model.specs.declared.Shape.{Shape}
use Rattle.area.specs.Reading.{shape_of, state_of}
use Rattle.area.specs.Sound.{Sound}
use Rattle.area.specs.Holds.{Holds, Held}
use Rattle.area.proofs.States.{sound_image}
use Rattle.area.specs.Calls.{Stands}

-- a sound area holds the state that it says
module _ {old : List ℕ} (S : Sound old) where
  pub own_holds : Holds (shape_of old) old (state_of old)
  own_holds = record { placed = S.valid.placed; image = sound_image old S }

  pub own_stands : Stands (shape_of old) old
  own_stands = record { state = state_of old; holds = own_holds; valid = S.valid }

-- the check said yes, and the counts were read
module _ {old : List ℕ} {n : Shape} (opened : Sound old × (n ≡ shape_of old)) where
  pub stands_at : Stands n old
  stands_at = rw opened.1 (own_stands opened.0)

  pub held_at : Held n old
  held_at = (stands_at.state, stands_at.holds)
