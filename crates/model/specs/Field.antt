-- The fields that a state keeps beside its queues: one function, changed at one field at a time. Assumes nothing.
use Rattle.std.specs.Prelude.{ℕ, Bool, not, eqb}
use Rattle.std.proofs.Math.Decide.{ℕ_discrete}
use Rattle.model.specs.Queue.{changed}

-- two numbers of the state itself; then those of a process, of a lock, of a condition
pub data Field : Type 0 where
  clock running : Field
  priority armed timer failed abort : ℕ → Field
  holder : ℕ → Field
  wakeup abortable : ℕ → Field
  deriving Discrete as Field-discrete

-- a number for each field; a bit is 0 or 1
abbrev pub Fields : Type 0
Fields = Field → ℕ

-- the fields with f changed to v
abbrev pub put : Field → ℕ → Fields → Fields
put = changed (Field-discrete ℕ_discrete)

-- a bit that is set, a holder or a running process that there is
abbrev pub some : ℕ → Bool
some v = not (eqb v 0)

-- each process's priority
abbrev pub priorities : Fields → ℕ → ℕ
priorities s p = s (priority p)
