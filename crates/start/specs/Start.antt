-- What Start promises of the words, whatever the area held. Assumes nothing.
use Rattle.std.specs.Prelude.{ℕ, ◌≡◌, ◌≢◌, cond, List, [], eqb, ltb, length}
use Rattle.model.specs.declared.Shape.{Shape}
use Rattle.model.specs.declared.Answer.{Answer}
use Rattle.model.specs.Queue.{up_to, to_ready}
use Rattle.model.specs.Field.{priorities}
use Rattle.model.specs.Rules.{start_code, fresh}
use Rattle.model.specs.Machine.{State, model, moves, start, refusal}
use Rattle.area.specs.Layout.{size}
use Rattle.area.specs.State.{write}

-- Start's code on an area of so many words, 0 where it is accepted
abbrev pub start_on : Shape → List ℕ → ℕ → ℕ
start_on n bytes words = cond (eqb (start_code n bytes) 0) (cond (ltb words (size n)) 5 0) (start_code n bytes)

-- refused, it changes nothing; accepted, every word is the started state's, and the words beyond are as they were
pub record Starts (n : Shape) (bytes old new : List ℕ) (a : Answer) : Type 0 where
  pub refused : start_on n bytes (length old) ≢ 0 → (a ≡ refusal (start_on n bytes (length old))) × (new ≡ old)
  pub accepted : start_on n bytes (length old) ≡ 0 → (a ≡ (start model n bytes).1) × (new ≡ write n (start model n bytes).0 old)

-- on the way there, before dispatch: the fields are fresh, and processes 1 to k have come into ready
abbrev pub lined : List ℕ → ℕ → State model
lined bytes k = record { fields = fresh bytes; queues = moves model (priorities (fresh bytes)) (λ q. []) (to_ready (up_to k)) }
