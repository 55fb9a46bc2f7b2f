-- From a call on a state to a call on words: a sound area holds the state that it says, and an area that holds a state is every word of it.
-- Assumes nothing.
use Prim.Native.Nat.{ℕ}
use mathlib.Core.Path.{◌≡◌, refl, ap, ◌∙◌}
use mathlib.Core.List.{List}
use Rattle.std.proofs.Common.{Result, IsErrAnd}
use Rattle.model.specs.declared.Shape.{Shape}
use Rattle.model.specs.declared.Call.{Call}
use Rattle.model.specs.declared.Answer.{Answer}
use Rattle.model.specs.declared.Refusal.{Refusal}
use Rattle.model.specs.declared.Refusal.TheVariants.{Unsound}
use Rattle.model.specs.Refusals.{code_of, answer_in}
use Rattle.model.specs.Machine.{State, model, refusal}
use Rattle.model.specs.Valid.{Valid}
use Rattle.area.specs.State.{write}
use Rattle.area.specs.Reading.{shape_of, state_of}
use Rattle.area.specs.Sound.{Sound}
use Rattle.area.specs.Holds.{Holds, Becomes}
use Rattle.area.proofs.Whole.{stored_write}
use Rattle.area.specs.Calls.{Does}
use Rattle.outcomes.proofs.Outcomes.{passed_on}
use Rattle.sound.proofs.Asked.{own_holds}
use Rattle.monitor.specs.Calls.{Performs}

-- an area that has become one of a state is every word of it
becomes_write : {n : Shape} {old new : List ℕ} {s : State model} → Becomes n old new s → new ≡ write n s old
becomes_write {n} {old} {new} {s} b = stored_write n old new s record { image = b.holds.image; beyond = b.beyond }

-- a call that does what its rule says on the area's own state performs as it should
performs : {old : List ℕ} (S : Sound old) {c : Call} {new : List ℕ} {a : Answer} → Does c (shape_of old) old new (state_of old) a → Performs c old new a
performs S d = record { unsound = λ h. absurd (h S); sound = λ z. (d.answer, becomes_write d.becomes) }

-- ---- at the places of a call's code, with n the counts of a sound area

pub performs_not : {old : List ℕ} {why : Refusal} → (Sound old → ⊥) × (why ≡ Unsound) → {c : Call} (r : Result Answer Refusal) → IsErrAnd r (λ e. e ≡ why) → Performs c old old (answer_in r)
performs_not opened r e = record { unsound = λ z. (passed_on r _ e ∙ ap (λ w. refusal (code_of w)) opened.1, refl); sound = λ S. absurd (opened.0 S) }

pub performs_at : {old : List ℕ} {n : Shape} → Sound old × (n ≡ shape_of old) → {c : Call} {new : List ℕ} {a : Answer} → ((s : State model) → Holds n old s → Valid n s → Does c n old new s a) → Performs c old new a
performs_at {old} opened d = let S = opened.0 in performs S ((rw opened.1 at d) (state_of old) (own_holds S) S.valid)

-- ---- a call known by what it is

pub performs_as : {c d : Call} {old new : List ℕ} {a : Answer} → c ≡ d → Performs d old new a → Performs c old new a
performs_as e P = rw e P
