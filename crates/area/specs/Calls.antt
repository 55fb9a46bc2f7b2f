-- What a call promises on an area that holds a valid state: it becomes one that holds the state of its rule. Assumes nothing.
use Rattle.std.specs.Prelude.{ℕ, ◌≡◌, ◌||◌, cond, List, eqb}
use Rattle.model.specs.declared.Shape.{Shape}
use Rattle.model.specs.declared.Call.{Call}
use Rattle.model.specs.declared.Answer.{Answer}
use Rattle.model.specs.Queue.{Note, outside, to_ready}
use Rattle.model.specs.Field.{Fields, priorities}
use Rattle.model.specs.Rules.{calm}
use Rattle.model.specs.Machine.{State, model, moves, step}
use Rattle.model.specs.Valid.{Valid}
use Rattle.area.specs.Holds.{Holds, Gives}

-- the words ws are an area that holds a valid state
pub record Stands (n : Shape) (ws : List ℕ) : Type 0 where
  pub state : State model
  pub holds : Holds n ws state
  pub valid : Valid n state

-- a call does what its rule says
abbrev pub Does : Call → (n : Shape) (old new : List ℕ) → State model → Answer → Type 0
Does c n old new s a = Gives n old new a (step model n s c)

-- ---- codes that several calls share, 0 where there is none

-- k is 7 where i is none of the n that there are
pub record Missing (n i k : ℕ) : Type 0 where
  pub code : k ≡ cond (outside n i) 7 0

-- k is 6 where nobody runs to make the call, else 7 where i is none of the n
pub record Calling (running n i k : ℕ) : Type 0 where
  pub code : k ≡ cond (eqb running 0) 6 (cond (outside n i) 7 0)

-- the same with two numbers: j is to be one of m too
pub record CallingTwo (running n i m j k : ℕ) : Type 0 where
  pub code : k ≡ cond (eqb running 0) 6 (cond (outside n i || outside m j) 7 0)

-- ---- changes

-- the state with other fields, and moves made one after the other by the priorities that it then has
abbrev pub changed : Fields → List Note → State model → State model
changed f ms s = record { fields = f; queues = moves model (priorities f) s.queues ms }

-- the state after some have woken, one after the other
abbrev pub woken : List ℕ → State model → State model
woken xs s = changed (calm xs s.fields) (to_ready xs) s
