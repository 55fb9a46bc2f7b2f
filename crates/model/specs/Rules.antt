-- The rules of Start and the twelve calls, as 01's section "Calls" writes them and 02 changes them, with each call's codes in the order in which
-- they are listed.
-- They read the fields and the queues before the call and say what is to be done. Code 1 (the area is not sound) and Start's code 5
-- (the area is too short) belong to the words, and dispatch, retry and moved to all calls alike. Assumes nothing.
use Rattle.std.specs.Prelude.{ℕ, ◌+◌, ◌%◌, Bool, true, false, not, ◌&&◌, ◌||◌, cond, List, [], ◌∷◌, ◌++◌, eqb, ltb, length, get_or}
use Rattle.model.specs.declared.Shape.{Shape}
use Rattle.model.specs.declared.Call.{Call}
use Rattle.model.specs.declared.Call.TheVariants.{Enter, Exit, Wait, Notify, Broadcast, Naked, Requeue, SetPriority, Tick, Abort, SetAbortable, Reenter}
use Rattle.model.specs.Queue.{Queue, Note, outside, inside, any_of, bit, up_to, member, first_only, filter, to_ready}
use Rattle.model.specs.Queue.Queue.{ready, park, lock, condition}
use Rattle.model.specs.Field.{Fields, put, some}
use Rattle.model.specs.Field.Field.{clock, running, priority, armed, timer, failed, abort, holder, wakeup, abortable}

-- ---- what a call comes to

-- a refusal with its code; or the new fields, the moves in order, and the mark
pub data Effect : Type 0 where
  refuse : ℕ → Effect
  accept : Fields → List Note → ℕ → Effect

-- code k where the test holds
unfoldable pub when : Bool → ℕ → Effect → Effect
when true k e = refuse k
when false k e = e

-- d where the test holds, else e
unfoldable pub choose : Bool → Effect → Effect → Effect
choose true d e = d
choose false d e = e

-- ---- parts that several calls share

-- the first of a lock's queue, if it has one, goes to ready when the lock is left
abbrev pub released : (Queue → List ℕ) → ℕ → List Note
released qs l = to_ready (first_only (qs (lock l)))

-- the timer of a wait of t ticks: the clock plus t, going round, or 0 if t is 0
abbrev pub alarm : ℕ → ℕ → ℕ
alarm now t = cond (eqb t 0) 0 ((now + t) % 65536)

-- p waits for t ticks: armed if t is not 0, and its timer
abbrev pub arm : ℕ → ℕ → Fields → Fields
arm p t s = put (timer p) (alarm (s clock) t) (put (armed p) (bit (some t)) s)

-- p waits no longer: not armed, and timer 0
abbrev pub disarm : ℕ → Fields → Fields
disarm p s = put (armed p) 0 (put (timer p) 0 s)

-- each of them
abbrev pub calm : List ℕ → Fields → Fields
calm [] s = s
calm (p ∷ ps) s = calm ps (disarm p s)

-- each of them wakes, in this order: no longer armed, timer 0, and it moves to ready; it is then no longer waiting
abbrev pub wake : List ℕ → Fields → Effect
wake ps s = accept (calm ps s) (to_ready ps) 0

-- a device's notify: over an empty queue the wakeup is set
unfoldable pub nakedly : ℕ → List ℕ → Fields → Effect
nakedly c [] s = accept (put (wakeup c) 1 s) [] 1
nakedly c (p ∷ ps) s = wake (p ∷ []) s

-- who runs is called off condition c: its abort is set, and the condition is abortable
abbrev pub called_off : Fields → ℕ → Bool
called_off s c = some (s (abort (s running))) && some (s (abortable c))

-- p waits on a condition that is abortable
abbrev pub abortably : Shape → Fields → (Queue → List ℕ) → ℕ → Bool
abortably n s qs p = any_of n.conditions (λ c. some (s (abortable c)) && member p (qs (condition c)))

-- who wakes by an Abort of p: p, if it waits on an abortable condition, else nobody
abbrev pub called : Shape → Fields → (Queue → List ℕ) → ℕ → List ℕ
called n s qs p = cond (abortably n s qs p) (p ∷ []) []

-- past its codes, Enter takes a free lock; at a locked one who runs becomes failed and queues
abbrev pub enters : ℕ → Fields → Effect
enters l s =
    choose (eqb (s (holder l)) 0)
    (accept (put (holder l) (s running) s) [] 1)
    (accept (put (failed (s running)) 1 s) ((s running, lock l) ∷ []) 0)

-- Requeue's numbers: 0 is ready, others are parks
abbrev pub ready_or_park : ℕ → Queue
ready_or_park k = cond (eqb k 0) ready (park k)

-- whether p is armed and its timer equals the clock
abbrev pub rings : Fields → ℕ → ℕ → Bool
rings s now p = some (s (armed p)) && eqb (s (timer p)) now

-- those for whom it rings, in process order
abbrev pub due : Shape → Fields → ℕ → List ℕ
due n s now = filter (rings s now) (up_to n.processes)

-- ---- the twelve calls

unfoldable pub decide : Shape → Fields → (Queue → List ℕ) → Call → Effect
decide n s qs (Enter l) =
    when (eqb (s running) 0) 6
    (when (outside n.locks l) 7
    (when (eqb (s (holder l)) (s running)) 8
    (enters l s)))
decide n s qs (Exit l) =
    when (eqb (s running) 0) 6
    (when (outside n.locks l) 7
    (when (not (eqb (s (holder l)) (s running))) 9
    (accept (put (holder l) 0 s) (released qs l) 0)))
decide n s qs (Wait l c t) =
    when (eqb (s running) 0) 6
    (when (outside n.locks l || outside n.conditions c) 7
    (when (not (eqb (s (holder l)) (s running))) 9
    (choose (called_off s c)
    (accept (put (holder l) 0 s) (released qs l) 0)
    (choose (some (s (wakeup c)))
    (accept (put (wakeup c) 0 (put (holder l) 0 s)) (released qs l) 0)
    (accept (arm (s running) t.0 (put (holder l) 0 s)) (released qs l ++ ((s running, condition c) ∷ [])) 1)))))
decide n s qs (Notify c) =
    when (eqb (s running) 0) 6
    (when (outside n.conditions c) 7
    (wake (first_only (qs (condition c))) s))
decide n s qs (Broadcast c) =
    when (eqb (s running) 0) 6
    (when (outside n.conditions c) 7
    (wake (qs (condition c)) s))
decide n s qs (Naked c) =
    when (outside n.conditions c) 7
    (nakedly c (qs (condition c)) s)
decide n s qs (Requeue a b p) =
    when (ltb n.parks a || ltb n.parks b || outside n.processes p.0) 7
    (when (not (member p.0 (qs (ready_or_park a)))) 10
    (accept s ((p.0, ready_or_park b) ∷ []) 0))
decide n s qs (SetPriority v) =
    when (eqb (s running) 0) 6
    (when (ltb 7 v.0) 4
    (accept (put (priority (s running)) v.0 s) ((s running, ready) ∷ []) 0))
decide n s qs Tick =
    let now = (s clock + 1) % 65536 in
    wake (due n s now) (put clock now s)
decide n s qs (Abort p) =
    when (outside n.processes p.0) 7
    (wake (called n s qs p.0) (put (abort p.0) 1 s))
decide n s qs (SetAbortable c v) =
    when (outside n.conditions c || ltb 1 v) 7
    (accept (put (abortable c) v s) [] 0)
decide n s qs (Reenter l c) =
    when (eqb (s running) 0) 6
    (when (outside n.locks l || outside n.conditions c) 7
    (when (eqb (s (holder l)) (s running)) 8
    (choose (eqb (s (holder l)) 0 && called_off s c)
    (accept (put (abort (s running)) 0 s) [] 2)
    (enters l s))))

-- ---- Start

-- the counts are in range
abbrev pub counted : Shape → Bool
counted n = inside 1023 n.processes && not (ltb 255 n.locks) && not (ltb 255 n.conditions) && not (ltb 8 n.parks)

abbrev pub any_above : ℕ → List ℕ → Bool
any_above m [] = false
any_above m (x ∷ xs) = ltb m x || any_above m xs

-- Start's code, 0 where it is accepted
abbrev pub start_code : Shape → List ℕ → ℕ
start_code n bytes =
    cond (not (counted n)) 2
    (cond (not (eqb (length bytes) n.processes)) 3
    (cond (any_above 7 bytes) 4 0))

-- the fields after Start, before dispatch: the priorities, and all else 0
abbrev pub fresh : List ℕ → Fields
fresh bytes clock = 0
fresh bytes running = 0
fresh bytes (priority p) = get_or (0 ∷ bytes) p 0
fresh bytes (armed p) = 0
fresh bytes (timer p) = 0
fresh bytes (failed p) = 0
fresh bytes (abort p) = 0
fresh bytes (holder l) = 0
fresh bytes (wakeup c) = 0
fresh bytes (abortable c) = 0
