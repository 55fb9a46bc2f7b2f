-- What demand 3 says of states: a history is an accepted Start and then any list of the twelve calls, refused ones among them. Before it stands what
-- counts as an entry, a join and a leaving of a lock, and who passes whom over there. Assumes nothing.
use Rattle.std.specs.Prelude.{ℕ, ◌+◌, ◌≡◌, ◌≢◌, ◌↔◌, Bool, true, false, ◌&&◌, List, [], ◌∷◌, eqb, ltb}
use Rattle.model.specs.declared.Shape.{Shape}
use Rattle.model.specs.declared.Call.{Call}
use Rattle.model.specs.declared.Call.TheVariants.{Enter, Exit, Wait, Notify, Broadcast, Naked, Requeue, SetPriority, Tick, Abort, SetAbortable, Reenter}
use Rattle.model.specs.declared.Answer.{Answer}
use Rattle.model.specs.Queue.{Queue, inside, any_of, bit, same, exists, count, first, All}
use Rattle.model.specs.Queue.Queue.{ready, condition}
use Rattle.model.specs.Field.{Fields, priorities}
use Rattle.model.specs.Field.Field.{running, priority}
use Rattle.model.specs.Machine.{Machine, State, model, start, after, answers, locked, waiting}
use Rattle.model.specs.Ledger.{ledger, reading, lies}
use Rattle.model.specs.Valid.{Valid}

-- ---- entries, joins and leavings of a lock

-- an Enter or a Reenter of lock l
abbrev pub tries : ℕ → Call → Bool
tries l (Enter j) = eqb j l
tries l (Exit j) = false
tries l (Wait j c t) = false
tries l (Notify c) = false
tries l (Broadcast c) = false
tries l (Naked c) = false
tries l (Requeue s d p) = false
tries l (SetPriority v) = false
tries l Tick = false
tries l (Abort p) = false
tries l (SetAbortable c v) = false
tries l (Reenter j c) = eqb j l

-- an Exit or a Wait that names it
abbrev pub leaves : ℕ → Call → Bool
leaves l (Enter j) = false
leaves l (Exit j) = eqb j l
leaves l (Wait j c t) = eqb j l
leaves l (Notify c) = false
leaves l (Broadcast c) = false
leaves l (Naked c) = false
leaves l (Requeue s d p) = false
leaves l (SetPriority v) = false
leaves l Tick = false
leaves l (Abort p) = false
leaves l (SetAbortable c v) = false
leaves l (Reenter j c) = false

-- an entry of lock l is an Enter or a Reenter of it with mark 1
abbrev pub is_entry : ℕ → Call → Answer → Bool
is_entry l c a = tries l c && eqb a.mark 1

-- a join of its queue is an accepted one of them with mark 0
abbrev pub is_join : ℕ → Call → Answer → Bool
is_join l c a = tries l c && (eqb a.code 0 && eqb a.mark 0)

-- a call, made in these fields, passes p over: a process of higher priority joins
abbrev pub passes : Fields → ℕ → ℕ → Call → Answer → Bool
passes s p l c a = is_join l c a && ltb (s (priority p)) (s (priority (s running)))

-- a leaving is an accepted Exit or Wait that names it
abbrev pub is_leaving : ℕ → Call → Answer → Bool
is_leaving l c a = leaves l c && eqb a.code 0

-- how many of the calls are so answered
abbrev pub tally : (Call → Answer → Bool) → List Call → List Answer → ℕ
tally t [] rs = 0
tally t (c ∷ cs) [] = 0
tally t (c ∷ cs) (a ∷ rs) = bit (t c a) + tally t cs rs

-- ---- the two machines over a history

-- the state after Start and the calls
abbrev pub end : (M : Machine) → Shape → List ℕ → List Call → State M
end M n bytes cs = after M n (start M n bytes).0 cs

-- the answers to the calls
abbrev pub replies : (M : Machine) → Shape → List ℕ → List Call → List Answer
replies M n bytes cs = answers M n (start M n bytes).0 cs

pub record History (n : Shape) (bytes : List ℕ) (cs : List Call) : Type 0 where
  -- every answer, field and queue is the ledger's
  pub same_start : (start model n bytes).1 ≡ (start ledger n bytes).1
  pub same_replies : replies model n bytes cs ≡ replies ledger n bytes cs
  pub same_fields : (end model n bytes cs).fields ≡ (end ledger n bytes cs).fields
  pub same_queues : (q : Queue) → (end model n bytes cs).queues q ≡ reading (priorities (end ledger n bytes cs).fields) (end ledger n bytes cs).queues q
  -- locked, and waiting: a process waits while it lies in a condition
  pub same_locked : (l : ℕ) → locked (end model n bytes cs).fields l ≡ locked (end ledger n bytes cs).fields l
  pub same_waiting : (p : ℕ) → waiting n (end model n bytes cs).queues p ≡ any_of n.conditions (λ c. lies (end ledger n bytes cs).queues p (condition c))
  -- each process stands in one queue, once; and a number stands where its newest note says, and nowhere if it has none
  pub one_queue : (p : ℕ) → inside n.processes p ≡ true → (q : Queue) × (exists n q ≡ true) × ((r : Queue) → count p ((end model n bytes cs).queues r) ≡ bit (same q r))
  pub as_noted : (p : ℕ) (q : Queue) → count p ((end model n bytes cs).queues q) ≡ bit (lies (end ledger n bytes cs).queues p q)
  -- running is the first of ready, and none exactly when ready is empty
  pub running_first : (end model n bytes cs).fields running ≡ first ((end model n bytes cs).queues ready)
  pub running_none : ((end model n bytes cs).fields running ≡ 0) ↔ ((end model n bytes cs).queues ready ≡ [])
  -- for each lock entries minus leavings is 0 or 1, and 1 exactly when it is locked
  pub entries : (l : ℕ) → tally (is_entry l) cs (replies ledger n bytes cs) ≡ tally (is_leaving l) cs (replies ledger n bytes cs) + bit (locked (end ledger n bytes cs).fields l)
  -- no call is refused as unsound: the ledger never gives code 1, and the state stays valid
  pub never_unsound : All (λ (a : Answer). a.code ≢ 1) (replies ledger n bytes cs)
  pub valid : Valid n (end model n bytes cs)
