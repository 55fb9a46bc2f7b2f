-- From a read of a state to a read of words: a sound area holds the state that it says. Assumes nothing.
use Prim.Native.Nat.{ℕ}
use mathlib.Core.Path.{◌≡◌, refl, ap, ◌∙◌}
use mathlib.Core.List.{List}
use Rattle.std.proofs.Common.{Result, Ok, Err, IsErrAnd}
use Rattle.model.specs.declared.Shape.{Shape}
use Rattle.model.specs.declared.Refusal.{Refusal}
use Rattle.model.specs.declared.Refusal.TheVariants.{Unsound}
use Rattle.model.specs.Refusals.{code_of, report_in}
use Rattle.model.specs.declared.Report.{Report}
use Rattle.model.specs.Machine.{State, model}
use Rattle.model.specs.Valid.{Valid}
use Rattle.area.specs.Reading.{shape_of, state_of}
use Rattle.area.specs.Holds.{Holds}
use Rattle.timers.specs.declared.Earliest.{Earliest}
use Rattle.timers.specs.Telling.{nearest_in}
use Rattle.area.specs.Sound.{Sound}
use Rattle.sound.proofs.Asked.{own_holds}
use Rattle.reads.specs.Reads.{ReadsOn, NearestOn}

-- the area is refused
module _ {old : List ℕ} {why : Refusal} (opened : (Sound old → ⊥) × (why ≡ Unsound)) where
  pub reads_not : {told : Shape → State model → List ℕ → List ℕ → Report → Type 0} {buffer : List ℕ} (r : Result ℕ Refusal) → IsErrAnd r (λ e. e ≡ why) → ReadsOn told old buffer buffer (report_in r)
  reads_not (Ok n) e = absurd e
  reads_not (Err y) e = record { unsound = λ z. record { code = ap code_of (e ∙ opened.1); count = refl; buffer = refl }; sound = λ S. absurd (opened.0 S) }

  pub nearest_not : {e : Earliest} → e ≡ record { code = code_of why; process = 0; left = 0 } → NearestOn old e
  nearest_not d = record { unsound = λ z. rw (d, opened.1) refl; sound = λ S. absurd (opened.0 S) }

-- the area is sound, and n are its counts
module _ {old : List ℕ} {n : Shape} (opened : Sound old × (n ≡ shape_of old)) where
  pub reads_at : {told : Shape → State model → List ℕ → List ℕ → Report → Type 0} {buffer new : List ℕ} {l : Report} → ((s : State model) → Holds n old s → Valid n s → told n s buffer new l) → ReadsOn told old buffer new l
  reads_at d = let S = opened.0 in record { unsound = λ z. absurd (z S); sound = λ z. (rw opened.1 at d) (state_of old) (own_holds S) S.valid }

  pub nearest_at : {e : Earliest} → ((s : State model) → Holds n old s → Valid n s → e ≡ nearest_in n s) → NearestOn old e
  nearest_at d = let S = opened.0 in record { unsound = λ z. absurd (z S); sound = λ z. (rw opened.1 at d) (state_of old) (own_holds S) S.valid }
