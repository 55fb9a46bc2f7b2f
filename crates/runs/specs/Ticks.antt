-- What Ticks bring about, on areas: over every run of Ticks, and over every run of calls in which nothing else wakes a process; each call as it
-- is promised. Assumes nothing.
use Rattle.std.specs.Prelude.{ℕ, suc, ◌<◌, ◌≡◌, true, false, List}
use Rattle.model.specs.declared.Call.{Call}
use Rattle.model.specs.declared.Call.TheVariants.{Tick}
use Rattle.model.specs.Queue.{Queue, member}
use Rattle.model.specs.Queue.Queue.{ready, condition as waitingAt}
use Rattle.model.specs.Machine.{waiting}
use Rattle.model.specs.Timers.{ticks, is_tick, ticks_in}
use Rattle.area.specs.Reading.{shape_of, state_of}
use Rattle.model.specs.Run.{Run}

-- p stands waiting in its condition after each of the first d - 1 Ticks, and the d-th brings it into ready
pub record WakesIn {A : Type 0} (Promised : Call → List ℕ → List ℕ → A → Type 0) (ws : List ℕ) (p d : ℕ) : Type 0 where
  pub condition : ℕ
  pub waits : {k : ℕ} {new : List ℕ} {rs : List A} → k < d → Run Promised (ticks k) ws new rs → member p ((state_of new).queues (waitingAt condition)) ≡ true
  pub wakes : {new : List ℕ} {rs : List A} → Run Promised (ticks d) ws new rs → member p ((state_of new).queues ready) ≡ true

-- k Ticks move nobody: every queue is as it was
abbrev pub Still : {A : Type 0} → (Call → List ℕ → List ℕ → A → Type 0) → List ℕ → ℕ → Type 0
Still {A} Promised ws k = (new : List ℕ) (rs : List A) → Run Promised (ticks k) ws new rs → (q : Queue) → (state_of new).queues q ≡ (state_of ws).queues q

-- ---- among other calls

-- p waits: it stands in a condition
abbrev pub Waits : List ℕ → ℕ → Type 0
Waits ws p = waiting (shape_of ws) (state_of ws).queues p ≡ true

-- a call as it is promised that, unless it is Tick, does not wake p
pub record Undisturbed {A : Type 0} (Promised : Call → List ℕ → List ℕ → A → Type 0) (p : ℕ) (c : Call) (old new : List ℕ) (a : A) : Type 0 where
  pub kept : Promised c old new a
  pub asleep : is_tick c ≡ false → Waits old p → Waits new p

-- over every run of calls of which none but Tick wakes p: p stands waiting in condition c while there have been fewer than t Ticks, and the t-th
-- brings it into ready
pub record SleepsFor {A : Type 0} (Promised : Call → List ℕ → List ℕ → A → Type 0) (ws : List ℕ) (p c t : ℕ) : Type 0 where
  pub waits : {cs : List Call} {new : List ℕ} {rs : List A} → Run (Undisturbed Promised p) cs ws new rs → ticks_in cs < t → member p ((state_of new).queues (waitingAt c)) ≡ true
  pub wakes : {cs : List Call} {mid new : List ℕ} {rs : List A} {a : A} → Run (Undisturbed Promised p) cs ws mid rs → suc (ticks_in cs) ≡ t → Promised Tick mid new a
      → member p ((state_of new).queues ready) ≡ true
