-- Machines that obey the rules, and the model: the machine that keeps its queues as they are. Assumes nothing.
use Rattle.std.specs.Prelude.{ℕ, ◌+◌, Bool, not, ◌&&◌, List, [], ◌∷◌, length}
use Rattle.model.specs.declared.Shape.{Shape}
use Rattle.model.specs.declared.Call.{Call}
use Rattle.model.specs.declared.Answer.{Answer}
use Rattle.model.specs.Queue.{Queue, Note, bit, same, any_of, member, first, ahead_of, move, to_ready, up_to}
use Rattle.model.specs.Queue.Queue.{ready, park, lock, condition}
use Rattle.model.specs.Field.{Fields, put, some, priorities}
use Rattle.model.specs.Field.Field.{running, failed, holder}
use Rattle.model.specs.Rules.{Effect, decide, fresh}
use Rattle.model.specs.Rules.Effect.{refuse, accept}

-- how a machine keeps its queues, by the processes' priorities: with nobody in them, read one by one, changed by a move
pub record Machine : Type 1 where
  pub Queues : Type 0
  pub none : Queues
  pub read : (ℕ → ℕ) → Queues → Queue → List ℕ
  pub moved : (ℕ → ℕ) → Queues → Note → Queues

-- a state of it; the four counts stay as Start has them and stand beside the state
pub record State (M : Machine) : Type 0 where
  pub fields : Fields
  pub queues : M.Queues

-- one move after the other
abbrev pub moves : (M : Machine) → (ℕ → ℕ) → M.Queues → List Note → M.Queues
moves M pr q [] = q
moves M pr q (m ∷ ms) = moves M pr (M.moved pr q m) ms

-- ---- what all calls share

-- an answer's fields in their order
abbrev pub fields_of : Answer → List ℕ
fields_of a = a.code ∷ a.running ∷ a.retry ∷ a.mark ∷ a.moved ∷ a.ahead ∷ []

-- a code, and zeros beside it
abbrev pub refusal : ℕ → Answer
refusal k = record { code = k; running = 0; retry = 0; mark = 0; moved = 0; ahead = 0 }

-- dispatch, over the ready queue: its first runs, and is no longer failed
abbrev pub dispatch : List ℕ → Fields → Fields
dispatch [] s = put running 0 s
dispatch (x ∷ xs) s = put (failed x) 0 (put running x s)

-- 1 if dispatch clears a failed bit
abbrev pub retry : List ℕ → Fields → ℕ
retry [] s = 0
retry (x ∷ xs) s = s (failed x)

-- how many come into ready from another queue
abbrev pub arrivals : List ℕ → List Note → ℕ
arrivals in_ready [] = 0
arrivals in_ready (m ∷ ms) = bit (same m.1 ready && not (member m.0 in_ready)) + arrivals in_ready ms

-- how many stand before the newcomer, where one comes to a lock or a condition; by the queues after the moves
abbrev pub ahead : (Queue → List ℕ) → List Note → ℕ
ahead qs [] = 0
ahead qs ((p, ready) ∷ ms) = ahead qs ms
ahead qs ((p, park k) ∷ ms) = ahead qs ms
ahead qs ((p, lock l) ∷ ms) = length (ahead_of p (qs (lock l)))
ahead qs ((p, condition c) ∷ ms) = length (ahead_of p (qs (condition c)))

-- dispatch, and the answer of an accepted call
abbrev pub finish : (M : Machine) → Fields → M.Queues → ℕ → ℕ → ℕ → State M × Answer
finish M s q k came others =
    let in_ready = M.read (priorities s) q ready in
    (record { fields = dispatch in_ready s; queues = q }, record { code = 0; running = first in_ready; retry = retry in_ready s; mark = k; moved = came; ahead = others })

-- ---- a call, a list of calls, Start

abbrev pub obey : (M : Machine) → State M → Effect → State M × Answer
obey M s (refuse k) = (s, refusal k)
obey M s (accept f ms k) =
    let q = moves M (priorities f) s.queues ms in
    finish M f q k (arrivals (M.read (priorities s.fields) s.queues ready) ms) (ahead (M.read (priorities f) q) ms)

unfoldable pub step : (M : Machine) → Shape → State M → Call → State M × Answer
step M n s c = obey M s (decide n s.fields (M.read (priorities s.fields) s.queues) c)

abbrev pub after : (M : Machine) → Shape → State M → List Call → State M
after M n s [] = s
after M n s (c ∷ cs) = after M n (step M n s c).0 cs

abbrev pub answers : (M : Machine) → Shape → State M → List Call → List Answer
answers M n s [] = []
answers M n s (c ∷ cs) = (step M n s c).1 ∷ answers M n (step M n s c).0 cs

-- an accepted Start: every process comes into ready, 1 first, and none from another queue
abbrev pub start : (M : Machine) → Shape → List ℕ → State M × Answer
start M n bytes = finish M (fresh bytes) (moves M (priorities (fresh bytes)) M.none (to_ready (up_to n.processes))) 0 0 0

-- ---- what a state says besides

-- a lock is locked while its holder is not 0
abbrev pub locked : Fields → ℕ → Bool
locked s l = some (s (holder l))

-- a process is waiting while it lies in a condition
abbrev pub waiting : Shape → (Queue → List ℕ) → ℕ → Bool
waiting n qs p = any_of n.conditions (λ c. member p (qs (condition c)))

-- ---- the model

abbrev pub model : Machine
model = record { Queues = Queue → List ℕ; none = λ q. []; read = λ pr qs. qs; moved = λ pr qs m. move pr qs m.0 m.1 }
