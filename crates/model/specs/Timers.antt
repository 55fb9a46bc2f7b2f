-- Timers: how many ticks each process has left, who is due within so many, and who is the nearest. Items 1 and 5 of document 02.
-- Assumes nothing.
use Rattle.std.specs.Prelude.{ℕ, zero, suc, ◌+◌, ◌-◌, ◌%◌, Bool, true, false, ◌&&◌, cond, List, [], ◌∷◌, ◌++◌, map, eqb}
use Rattle.model.specs.declared.Shape.{Shape}
use Rattle.model.specs.declared.Call.{Call}
use Rattle.model.specs.declared.Call.TheVariants.{Enter, Exit, Wait, Notify, Broadcast, Naked, Requeue, SetPriority, Tick, Abort, SetAbortable, Reenter}
use Rattle.model.specs.Queue.{bit, up_to, filter}
use Rattle.model.specs.Field.{some}
use Rattle.model.specs.Field.Field.{clock, armed, timer}
use Rattle.model.specs.Machine.{State, model, waiting}

-- k Ticks
abbrev pub ticks : ℕ → List Call
ticks zero = []
ticks (suc k) = Tick ∷ ticks k

-- whether a call is Tick
abbrev pub is_tick : Call → Bool
is_tick (Enter l) = false
is_tick (Exit l) = false
is_tick (Wait l c t) = false
is_tick (Notify c) = false
is_tick (Broadcast c) = false
is_tick (Naked c) = false
is_tick (Requeue a b p) = false
is_tick (SetPriority v) = false
is_tick Tick = true
is_tick (Abort p) = false
is_tick (SetAbortable c v) = false
is_tick (Reenter l c) = false

-- how many Ticks there are among calls
abbrev pub ticks_in : List Call → ℕ
ticks_in [] = 0
ticks_in (c ∷ cs) = bit (is_tick c) + ticks_in cs

-- from the clock to a time, going round
abbrev pub distance : ℕ → ℕ → ℕ
distance now time = (time + (65536 - now)) % 65536

-- the same in ticks: 0 counts as 65,536, a full round
abbrev pub ticks_to : ℕ → ℕ → ℕ
ticks_to now time = cond (eqb (distance now time) 0) 65536 (distance now time)

-- p's ticks left, where it waits and is armed; else 0
abbrev pub left : Shape → State model → ℕ → ℕ
left n s p = cond (waiting n s.queues p && some (s.fields (armed p))) (ticks_to (s.fields clock) (s.fields (timer p))) 0

-- a process and its ticks left
abbrev pub Entry : Type 0
Entry = ℕ × ℕ

-- those with d ticks left, in process order
abbrev pub with_left : Shape → State model → ℕ → List Entry
with_left n s d = map (λ p. (p, d)) (filter (λ p. eqb (left n s p) d) (up_to n.processes))

-- who is due within k ticks: for d from 1 to k, those with d left
unfoldable pub due_within : Shape → State model → ℕ → List Entry
due_within n s zero = []
due_within n s (suc d) = due_within n s d ++ with_left n s (suc d)

-- the first of them, zeros if there is none
abbrev pub first_entry : List Entry → Entry
first_entry [] = (0, 0)
first_entry (e ∷ es) = e

-- the nearest: the first of those due within a full round
abbrev pub nearest : Shape → State model → Entry
nearest n s = first_entry (due_within n s 65536)
