-- What each of the twelve calls promises of the words: the papers' rules, on areas. Assumes nothing.
use Rattle.std.specs.Prelude.{ℕ, ◌≡◌, ◌≢◌, List}
use Rattle.model.specs.declared.Call.{Call}
use Rattle.model.specs.declared.Answer.{Answer}
use Rattle.model.specs.Machine.{model, step, refusal}
use Rattle.area.specs.State.{write}
use Rattle.area.specs.Reading.{shape_of, state_of}
use Rattle.area.specs.Sound.{Sound}

-- an unsound area is refused by 1 and left as it is; a sound one gives the rule's answer and the words of the rule's state, with the words
-- beyond as they were
pub record Performs (c : Call) (old new : List ℕ) (a : Answer) : Type 0 where
  pub unsound : (Sound old → ⊥) → (a ≡ refusal 1) × (new ≡ old)
  pub sound : Sound old → (a ≡ (step model (shape_of old) (state_of old) c).1) × (new ≡ write (shape_of old) (step model (shape_of old) (state_of old) c).0 old)

-- a refusal spares the words: a code other than 0 comes with zeros beside it, and every word is as it was
abbrev pub Spares : Answer → List ℕ → List ℕ → Type 0
Spares a old new = a.code ≢ 0 → (a ≡ refusal a.code) × (new ≡ old)
