-- Turns at a lock, on areas: what a process that joins a lock's queue can rely on, in every run of calls, each as it is promised. Item 7 of
-- document 02. Assumes nothing.
use Rattle.std.specs.Prelude.{ℕ, zero, suc, ◌+◌, ◌≤◌, ◌≡◌, ◌≢◌, Bool, true, false, List, map}
use Rattle.model.specs.declared.Call.{Call}
use Rattle.model.specs.declared.Answer.{Answer}
use Rattle.model.specs.Queue.{Queue, bit, member}
use Rattle.model.specs.Queue.Queue.{ready, lock}
use Rattle.model.specs.Field.Field.{running}
use Rattle.model.specs.History.{is_join, is_leaving, passes, tally}
use Rattle.area.specs.Reading.{state_of}
use Rattle.model.specs.Run.{Run}
use Rattle.model.specs.Run.Run.{none, then}

-- p stands in queue q
abbrev pub StandsIn : List ℕ → ℕ → Queue → Type 0
StandsIn ws p q = member p ((state_of ws).queues q) ≡ true

-- of k + 1 leavings that were to come, those that are after a call: one fewer if it is a leaving, and else one more if it passes p over
abbrev pub remaining : Bool → Bool → ℕ → ℕ
remaining true passed k = k
remaining false passed k = suc (k + bit passed)

module _ {A : Type 0} (read : A → Answer) {Promised : Call → List ℕ → List ℕ → A → Type 0} where
  -- while p stands in lock l, no process of higher priority joins
  abbrev pub Unpassed : (p l : ℕ) {cs : List Call} {old new : List ℕ} {rs : List A} → Run Promised cs old new rs → Type 0
  Unpassed p l none = Unit {0}
  Unpassed p l (then {c = c} {old = old} {a = a} P R) = (StandsIn old p (lock l) → passes (state_of old).fields p l c (read a) ≡ false) × Unpassed p l R

  -- of so many leavings until p's turn, those that are to come after a run; with none the turn has come, and the count ends
  abbrev pub to_go : (p l : ℕ) {cs : List Call} {old new : List ℕ} {rs : List A} → Run Promised cs old new rs → ℕ → ℕ
  to_go p l none k = k
  to_go p l (then P R) zero = 0
  to_go p l (then {c = c} {old = old} {a = a} P R) (suc k) = to_go p l R (remaining (is_leaving l c (read a)) (passes (state_of old).fields p l c (read a)) k)

  -- what p, which has joined lock l with k ahead of it, can rely on over the run that follows
  pub record Turn (p l k : ℕ) {cs : List Call} {old new : List ℕ} {rs : List A} (R : Run Promised cs old new rs) : Type 0 where
    -- as long as nobody of higher priority joins, p stands there until the (k + 1)th leaving, and that brings it into ready
    pub stands : Unpassed p l R → tally (is_leaving l) cs (map read rs) ≤ k → StandsIn new p (lock l)
    pub comes : {c : Call} {next : List ℕ} {a : A} → Unpassed p l R → tally (is_leaving l) cs (map read rs) ≡ k → Promised c new next a → is_leaving l c (read a) ≡ true → StandsIn next p ready
    -- whoever joins: each that passes it adds one leaving, and nothing else does
    pub stands_longer : to_go p l R (suc k) ≢ 0 → StandsIn new p (lock l)
    pub comes_later : {c : Call} {next : List ℕ} {a : A} → to_go p l R (suc k) ≡ 1 → Promised c new next a → is_leaving l c (read a) ≡ true → StandsIn next p ready

  -- at each call of a run by which a process joins a lock, it has its turn there, over the calls that follow
  abbrev pub InTurn : {cs : List Call} {old new : List ℕ} {rs : List A} → Run Promised cs old new rs → Type 0
  InTurn none = Unit {0}
  InTurn (then {c = c} {old = old} {a = a} P R) = ((l : ℕ) → is_join l c (read a) ≡ true → Turn ((state_of old).fields running) l (read a).ahead R) × InTurn R

-- nobody is passed over, of a kernel whose calls promise `Promised` and whose answers are read by `read`: in every run, from whatever area, and so
-- in every history from Start
pub record Turns {A : Type 0} (read : A → Answer) (Promised : Call → List ℕ → List ℕ → A → Type 0) : Type 0 where
  pub turn : {cs : List Call} {old new : List ℕ} {rs : List A} (R : Run Promised cs old new rs) → InTurn read R
