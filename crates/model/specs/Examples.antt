-- Computed examples, on the model and on the ledger: short scripts that pin each rule's details, with every answer and what is left. By computation. Assumes nothing.
use Rattle.std.specs.Prelude.{ℕ, refl, cond, List, [], ◌∷◌, ◌++◌, map, eqb, get_or}
use Rattle.std.proofs.Math.Decide.{ℕ_discrete}
use Rattle.model.specs.declared.Shape.{Shape}
use Rattle.model.specs.declared.Call.{Call}
use Rattle.model.specs.declared.Call.TheVariants.{Enter, Exit, Wait, Notify, Broadcast, Naked, Requeue, SetPriority, Tick, Abort, SetAbortable, Reenter}
use Rattle.model.specs.declared.Answer.{Answer}
use Rattle.model.specs.Queue.{Queue, bit}
use Rattle.model.specs.Queue.Queue.{ready, park, lock, condition}
use Rattle.model.specs.Field.{Field, Fields, put, priorities}
use Rattle.model.specs.Field.Field.{clock, running, priority, armed, timer, failed, abort, holder, wakeup, abortable}
use Rattle.model.specs.Rules.{when, choose, nakedly, decide, start_code, fresh}
use Rattle.model.specs.Machine.{Machine, State, model, fields_of, start, step, after, answers}
use Rattle.model.specs.Ledger.{ledger, reading}
use Rattle.model.specs.Timers.{Entry, left, due_within}
use Rattle.model.specs.History.{is_entry, is_join, is_leaving, passes, tally}
use Rattle.model.specs.Table.{Row, Holds}

-- ---- a script: calls with their answers; then queues and fields as they must be left

abbrev Turn : Type 0
Turn = Call × List ℕ

abbrev gives : Call → ℕ → ℕ → ℕ → ℕ → ℕ → ℕ → Turn
gives c code runs retry mark moved ahead = (c, code ∷ runs ∷ retry ∷ mark ∷ moved ∷ ahead ∷ [])

-- a refusal
abbrev refuses : Call → ℕ → Turn
refuses c code = gives c code 0 0 0 0 0

-- P processes, L locks, C conditions, K parks
abbrev sized : ℕ → ℕ → ℕ → ℕ → Shape
sized p l c k = record { processes = p; locks = l; conditions = c; parks = k }

abbrev play_from : (M : Machine) → Shape → State M → List Turn → List (Queue × List ℕ) → List (Field × ℕ) → Row
play_from M n s turns qs fs =
    let calls = map (λ (t : Turn). t.0) turns in
    let left = after M n s calls in
    record {
      come = map fields_of (answers M n s calls) ++ (map (λ (q : Queue × List ℕ). M.read (priorities left.fields) left.queues q.0) qs ++ (map (λ (f : Field × ℕ). left.fields f.0) fs ∷ []));
      must = map (λ (t : Turn). t.1) turns ++ (map (λ (q : Queue × List ℕ). q.1) qs ++ (map (λ (f : Field × ℕ). f.1) fs ∷ []));
    }

abbrev play : (M : Machine) → Shape → List ℕ → List Turn → List (Queue × List ℕ) → List (Field × ℕ) → Row
play M n bytes turns qs fs = play_from M n (start M n bytes).0 turns qs fs

-- three equals at clock 65,535, the first in lock 1
abbrev late : (M : Machine) → State M
late M =
    let s = after M (sized 3 1 1 0) (start M (sized 3 1 1 0) (3 ∷ 3 ∷ 3 ∷ [])).0 (Enter 1 ∷ []) in
    record { fields = put clock 65535 s.fields; queues = s.queues }

-- ---- turns at a lock

-- 1 holds lock 1, and 2 and 3 queue; 4 comes with a higher priority and passes them; 5 has no lock to leave; 2 is aborted where it stands; 5 comes,
-- behind them all. Four leavings bring them out, the first of the queue each: a holder's Exit, another's, one by Wait, and one where 5 is alone
abbrev crowded : List Turn
crowded =
    gives (Enter 1) 0 1 0 1 0 0
    ∷ gives (Requeue 0 0 (record { 0 = 1 })) 0 2 0 0 0 0
    ∷ gives (Enter 1) 0 3 0 0 0 0
    ∷ gives (Enter 1) 0 4 0 0 0 1
    ∷ gives (SetPriority (record { 0 = 6 })) 0 4 0 0 0 0
    ∷ gives (Reenter 1 1) 0 5 0 0 0 0
    ∷ refuses (Exit 1) 9
    ∷ gives (SetAbortable 1 1) 0 5 0 0 0 0
    ∷ gives (Abort (record { 0 = 2 })) 0 5 0 0 0 0
    ∷ gives (Enter 1) 0 1 0 0 0 3
    ∷ refuses (Enter 1) 8
    ∷ gives (Exit 1) 0 4 1 0 1 0
    ∷ gives (Enter 1) 0 4 0 1 0 0
    ∷ gives (Exit 1) 0 4 0 0 1 0
    ∷ gives (Enter 1) 0 4 0 1 0 0
    ∷ gives (Wait 1 1 (record { 0 = 0 })) 0 1 0 1 1 0
    ∷ gives (Enter 1) 0 1 0 1 0 0
    ∷ gives (Exit 1) 0 1 0 0 1 0
    ∷ []

abbrev turns : Machine → Row
turns M = play M (sized 5 1 1 0) (3 ∷ 3 ∷ 3 ∷ 3 ∷ 3 ∷ []) crowded
    ((ready, 1 ∷ 2 ∷ 3 ∷ 5 ∷ []) ∷ (lock 1, []) ∷ (condition 1, 4 ∷ []) ∷ [])
    ((running, 1) ∷ (holder 1, 0) ∷ (failed 2, 1) ∷ (abort 2, 1) ∷ [])

-- an answer's code and mark, and zeros beside them
abbrev marked : ℕ → ℕ → Answer
marked code mark = record { code = code; running = 0; retry = 0; mark = mark; moved = 0; ahead = 0 }

-- how many of the calls, by the code and the mark of each, enter the lock, join its queue and leave it
abbrev counted : Row
counted =
    let calls = map (λ (t : Turn). t.0) crowded in
    let told = map (λ (t : Turn). marked (get_or t.1 0 0) (get_or t.1 3 0)) crowded in
    record { come = (tally (is_entry 1) calls told ∷ tally (is_join 1) calls told ∷ tally (is_leaving 1) calls told ∷ []) ∷ []; must = (4 ∷ 4 ∷ 4 ∷ []) ∷ [] }

-- an entry has mark 1: not 0, with which its caller queues, nor 2, with which it is called off
abbrev entered : Row
entered = record { come = map (λ k. bit (is_entry 1 (Reenter 1 1) (marked 0 k))) (0 ∷ 1 ∷ 2 ∷ []) ∷ []; must = (0 ∷ 1 ∷ 0 ∷ []) ∷ [] }

-- 1, which runs with priority v, passes 2, of priority 3, over by this call with this code and mark
abbrev passed : ℕ → Call → ℕ → ℕ → ℕ
passed v c code mark = bit (passes (put running 1 (put (priority 1) v (put (priority 2) 3 (fresh [])))) 2 1 c (marked code mark))

-- who joins with a higher priority does, and nobody else
abbrev passers : Row
passers = record {
  come = (passed 4 (Enter 1) 0 0 ∷ passed 4 (Reenter 1 1) 0 0 ∷ passed 3 (Enter 1) 0 0 ∷ passed 2 (Enter 1) 0 0 ∷ passed 4 (Enter 1) 0 1 ∷ passed 4 (Enter 1) 8 0 ∷ passed 4 (Enter 2) 0 0 ∷ passed 4 (Exit 1) 0 0 ∷ []) ∷ [];
  must = (1 ∷ 1 ∷ 0 ∷ 0 ∷ 0 ∷ 0 ∷ 0 ∷ 0 ∷ []) ∷ [];
}

-- each has its turn, on both machines
in_turn : Holds (turns model ∷ turns ledger ∷ [])
unfolding step decide when choose nakedly reading ℕ_discrete
in_turn = refl

-- what is an entry, a join, a leaving, and a passing
what_counts : Holds (counted ∷ entered ∷ passers ∷ [])
unfolding ℕ_discrete
what_counts = refl

-- ---- the scripts

-- nobody runs: 6 comes before 7, 9 and 4; a device and Requeue need no running process; 7 before 10
abbrev nobody_runs : Machine → Row
nobody_runs M = play M (sized 1 1 1 1) (0 ∷ [])
    (gives (Requeue 0 1 (record { 0 = 1 })) 0 0 0 0 0 0
    ∷ refuses (Enter 9) 6
    ∷ refuses (Exit 9) 6
    ∷ refuses (Wait 9 9 (record { 0 = 0 })) 6
    ∷ refuses (Notify 9) 6
    ∷ refuses (Broadcast 9) 6
    ∷ refuses (SetPriority (record { 0 = 8 })) 6
    ∷ refuses (Naked 9) 7
    ∷ gives Tick 0 0 0 0 0 0
    ∷ refuses (Requeue 2 0 (record { 0 = 1 })) 7
    ∷ refuses (Requeue 0 2 (record { 0 = 1 })) 7
    ∷ refuses (Requeue 0 0 (record { 0 = 0 })) 7
    ∷ refuses (Requeue 0 0 (record { 0 = 2 })) 7
    ∷ refuses (Requeue 0 0 (record { 0 = 1 })) 10
    ∷ gives (Requeue 1 0 (record { 0 = 1 })) 0 1 0 0 1 0
    ∷ [])
    ((ready, 1 ∷ []) ∷ (park 1, []) ∷ [])
    ((clock, 1) ∷ (running, 1) ∷ [])

-- somebody runs: 7 before 8 and 9; an own lock is 8; a lock that is not held is 9; priority 8 is 4; refusals change nothing
abbrev refusals : Machine → Row
refusals M = play M (sized 2 1 1 0) (3 ∷ 3 ∷ [])
    (refuses (Enter 0) 7
    ∷ refuses (Enter 2) 7
    ∷ refuses (Exit 0) 7
    ∷ refuses (Exit 2) 7
    ∷ refuses (Exit 1) 9
    ∷ refuses (Wait 1 1 (record { 0 = 0 })) 9
    ∷ refuses (Wait 1 0 (record { 0 = 0 })) 7
    ∷ refuses (Wait 1 2 (record { 0 = 0 })) 7
    ∷ refuses (Wait 0 1 (record { 0 = 0 })) 7
    ∷ refuses (Wait 2 1 (record { 0 = 0 })) 7
    ∷ gives (Enter 1) 0 1 0 1 0 0
    ∷ refuses (Enter 1) 8
    ∷ gives (Exit 1) 0 1 0 0 0 0
    ∷ refuses (Exit 1) 9
    ∷ refuses (Notify 0) 7
    ∷ refuses (Notify 2) 7
    ∷ refuses (Broadcast 0) 7
    ∷ refuses (Broadcast 2) 7
    ∷ refuses (Naked 0) 7
    ∷ refuses (Naked 2) 7
    ∷ refuses (SetPriority (record { 0 = 8 })) 4
    ∷ [])
    ((ready, 1 ∷ 2 ∷ []) ∷ (lock 1, []) ∷ (condition 1, []) ∷ [])
    ((running, 1) ∷ (holder 1, 0) ∷ (wakeup 1, 0) ∷ (priority 1, 3) ∷ [])

-- Exit hands the lock to nobody; a free lock is taken though others queue there; a failed process that runs again is retried
abbrev exit_to_nobody : Machine → Row
exit_to_nobody M = play M (sized 3 1 0 0) (1 ∷ 1 ∷ 1 ∷ [])
    (gives (Enter 1) 0 1 0 1 0 0
    ∷ gives (Requeue 0 0 (record { 0 = 1 })) 0 2 0 0 0 0
    ∷ gives (Enter 1) 0 3 0 0 0 0
    ∷ gives (Enter 1) 0 1 0 0 0 1
    ∷ gives (Exit 1) 0 1 0 0 1 0
    ∷ gives (Enter 1) 0 1 0 1 0 0
    ∷ gives (Requeue 0 0 (record { 0 = 1 })) 0 2 1 0 0 0
    ∷ gives (Enter 1) 0 1 0 0 0 1
    ∷ [])
    ((ready, 1 ∷ []) ∷ (lock 1, 3 ∷ 2 ∷ []) ∷ [])
    ((running, 1) ∷ (holder 1, 1) ∷ (failed 2, 1) ∷ (failed 3, 1) ∷ [])

-- after Exit the holder is 0 and its first stands in ready; when that failed process runs again it is retried, once
abbrev exit_frees : Machine → Row
exit_frees M = play M (sized 2 1 0 0) (1 ∷ 1 ∷ [])
    (gives (Enter 1) 0 1 0 1 0 0
    ∷ gives (Requeue 0 0 (record { 0 = 1 })) 0 2 0 0 0 0
    ∷ gives (Enter 1) 0 1 0 0 0 0
    ∷ gives (Exit 1) 0 1 0 0 1 0
    ∷ gives (Requeue 0 0 (record { 0 = 1 })) 0 2 1 0 0 0
    ∷ gives Tick 0 2 0 0 0 0
    ∷ [])
    ((ready, 2 ∷ 1 ∷ []) ∷ (lock 1, []) ∷ [])
    ((running, 2) ∷ (holder 1, 0) ∷ (failed 2, 0) ∷ [])

-- Naked over an empty queue sets the wakeup, as often as it comes; Wait then clears it, leaves the lock, and keeps its caller before its equals
abbrev naked_twice : Machine → Row
naked_twice M = play M (sized 3 1 1 0) (2 ∷ 2 ∷ 2 ∷ [])
    (gives (Naked 1) 0 1 0 1 0 0
    ∷ gives (Naked 1) 0 1 0 1 0 0
    ∷ gives (Enter 1) 0 1 0 1 0 0
    ∷ gives (Wait 1 1 (record { 0 = 5 })) 0 1 0 0 0 0
    ∷ [])
    ((ready, 1 ∷ 2 ∷ 3 ∷ []) ∷ (condition 1, []) ∷ [])
    ((running, 1) ∷ (wakeup 1, 0) ∷ (timer 1, 0) ∷ (holder 1, 0) ∷ [])

-- Wait over a set wakeup lets the first of the lock go to ready
abbrev wakeup_and_lock : Machine → Row
wakeup_and_lock M = play M (sized 2 1 1 0) (2 ∷ 2 ∷ [])
    (gives (Enter 1) 0 1 0 1 0 0
    ∷ gives (Requeue 0 0 (record { 0 = 1 })) 0 2 0 0 0 0
    ∷ gives (Enter 1) 0 1 0 0 0 0
    ∷ gives (Naked 1) 0 1 0 1 0 0
    ∷ gives (Wait 1 1 (record { 0 = 0 })) 0 1 0 0 1 0
    ∷ [])
    ((ready, 1 ∷ 2 ∷ []) ∷ (lock 1, []) ∷ (condition 1, []) ∷ [])
    ((running, 1) ∷ (wakeup 1, 0) ∷ (holder 1, 0) ∷ (failed 2, 1) ∷ [])

-- Notify over an empty queue sets no wakeup, so a later Wait sleeps
abbrev notify_sets_nothing : Machine → Row
notify_sets_nothing M = play M (sized 2 1 1 0) (2 ∷ 2 ∷ [])
    (gives (Notify 1) 0 1 0 0 0 0
    ∷ gives (Enter 1) 0 1 0 1 0 0
    ∷ gives (Wait 1 1 (record { 0 = 0 })) 0 2 0 1 0 0
    ∷ [])
    ((ready, 2 ∷ []) ∷ (condition 1, 1 ∷ []) ∷ [])
    ((running, 2) ∷ (wakeup 1, 0) ∷ (holder 1, 0) ∷ [])

-- Notify and Naked wake the first of the queue alone, which stands by priority, and clear its armed and its timer
abbrev notify_first : Machine → Row
notify_first M = play M (sized 4 1 1 0) (2 ∷ 2 ∷ 3 ∷ 1 ∷ [])
    (gives (Enter 1) 0 3 0 1 0 0
    ∷ gives (Wait 1 1 (record { 0 = 9 })) 0 1 0 1 0 0
    ∷ gives (Enter 1) 0 1 0 1 0 0
    ∷ gives (Wait 1 1 (record { 0 = 9 })) 0 2 0 1 0 1
    ∷ gives (Enter 1) 0 2 0 1 0 0
    ∷ gives (Wait 1 1 (record { 0 = 9 })) 0 4 0 1 0 2
    ∷ gives (Notify 1) 0 3 0 0 1 0
    ∷ gives (Requeue 0 0 (record { 0 = 3 })) 0 3 0 0 0 0
    ∷ gives (Naked 1) 0 3 0 0 1 0
    ∷ [])
    ((ready, 3 ∷ 1 ∷ 4 ∷ []) ∷ (condition 1, 2 ∷ []) ∷ [])
    ((running, 3) ∷ (armed 1, 0) ∷ (armed 2, 1) ∷ (armed 3, 0) ∷ (timer 1, 0) ∷ (timer 2, 9) ∷ (timer 3, 0) ∷ (wakeup 1, 0) ∷ [])

-- Tick wakes in process order, not in the queue's, those who are armed and whose timer is the clock
abbrev tick_in_order : Machine → Row
tick_in_order M = play M (sized 4 1 1 0) (3 ∷ 3 ∷ 3 ∷ 3 ∷ [])
    (gives (Requeue 0 0 (record { 0 = 1 })) 0 2 0 0 0 0
    ∷ gives (Enter 1) 0 2 0 1 0 0
    ∷ gives (Wait 1 1 (record { 0 = 2 })) 0 3 0 1 0 0
    ∷ gives (Requeue 0 0 (record { 0 = 3 })) 0 4 0 0 0 0
    ∷ gives (Requeue 0 0 (record { 0 = 4 })) 0 1 0 0 0 0
    ∷ gives (Enter 1) 0 1 0 1 0 0
    ∷ gives (Wait 1 1 (record { 0 = 2 })) 0 3 0 1 0 1
    ∷ gives (Enter 1) 0 3 0 1 0 0
    ∷ gives (Wait 1 1 (record { 0 = 0 })) 0 4 0 1 0 2
    ∷ gives Tick 0 4 0 0 0 0
    ∷ gives Tick 0 4 0 0 2 0
    ∷ [])
    ((ready, 4 ∷ 1 ∷ 2 ∷ []) ∷ (condition 1, 3 ∷ []) ∷ [])
    ((clock, 2) ∷ (running, 4) ∷ (armed 1, 0) ∷ (armed 2, 0) ∷ (armed 3, 0) ∷ (timer 1, 0) ∷ (timer 2, 0) ∷ (timer 3, 0) ∷ [])

-- Broadcast wakes all, in the queue's order, and counts them
abbrev broadcast_all : Machine → Row
broadcast_all M = play M (sized 3 1 1 0) (3 ∷ 3 ∷ 3 ∷ [])
    (gives (Requeue 0 0 (record { 0 = 1 })) 0 2 0 0 0 0
    ∷ gives (Enter 1) 0 2 0 1 0 0
    ∷ gives (Wait 1 1 (record { 0 = 7 })) 0 3 0 1 0 0
    ∷ gives (Requeue 0 0 (record { 0 = 3 })) 0 1 0 0 0 0
    ∷ gives (Enter 1) 0 1 0 1 0 0
    ∷ gives (Wait 1 1 (record { 0 = 7 })) 0 3 0 1 0 1
    ∷ gives (Broadcast 1) 0 3 0 0 2 0
    ∷ [])
    ((ready, 3 ∷ 2 ∷ 1 ∷ []) ∷ (condition 1, []) ∷ [])
    ((running, 3) ∷ (armed 1, 0) ∷ (armed 2, 0) ∷ (timer 1, 0) ∷ (timer 2, 0) ∷ [])

-- Requeue moves behind the equals; only who comes into ready from another queue counts
abbrev requeues : Machine → Row
requeues M = play M (sized 3 0 0 2) (4 ∷ 4 ∷ 4 ∷ [])
    (gives (Requeue 0 0 (record { 0 = 1 })) 0 2 0 0 0 0
    ∷ gives (Requeue 0 1 (record { 0 = 2 })) 0 3 0 0 0 0
    ∷ gives (Requeue 1 1 (record { 0 = 2 })) 0 3 0 0 0 0
    ∷ gives (Requeue 1 2 (record { 0 = 2 })) 0 3 0 0 0 0
    ∷ gives (Requeue 0 2 (record { 0 = 3 })) 0 1 0 0 0 0
    ∷ gives (Requeue 2 0 (record { 0 = 3 })) 0 1 0 0 1 0
    ∷ gives (Requeue 2 0 (record { 0 = 2 })) 0 1 0 0 1 0
    ∷ [])
    ((ready, 1 ∷ 3 ∷ 2 ∷ []) ∷ (park 1, []) ∷ (park 2, []) ∷ [])
    ((running, 1) ∷ [])

-- SetPriority to the same value moves behind the equals; a newcomer goes before lower ones
abbrev set_priority : Machine → Row
set_priority M = play M (sized 3 0 0 0) (4 ∷ 4 ∷ 4 ∷ [])
    (gives (SetPriority (record { 0 = 4 })) 0 2 0 0 0 0
    ∷ gives (SetPriority (record { 0 = 5 })) 0 2 0 0 0 0
    ∷ gives (SetPriority (record { 0 = 4 })) 0 3 0 0 0 0
    ∷ gives (SetPriority (record { 0 = 0 })) 0 1 0 0 0 0
    ∷ [])
    ((ready, 1 ∷ 2 ∷ 3 ∷ []) ∷ [])
    ((running, 1) ∷ (priority 1, 4) ∷ (priority 2, 4) ∷ (priority 3, 0) ∷ [])

-- a newcomer goes behind its equals and before those of lower priority
abbrev newcomer : Machine → Row
newcomer M = play M (sized 4 0 0 1) (5 ∷ 3 ∷ 1 ∷ 3 ∷ [])
    (gives (Requeue 0 1 (record { 0 = 2 })) 0 1 0 0 0 0
    ∷ gives (Requeue 1 0 (record { 0 = 2 })) 0 1 0 0 1 0
    ∷ gives (Requeue 0 1 (record { 0 = 1 })) 0 4 0 0 0 0
    ∷ gives (Requeue 1 0 (record { 0 = 1 })) 0 1 0 0 1 0
    ∷ [])
    ((ready, 1 ∷ 4 ∷ 2 ∷ 3 ∷ []) ∷ [])
    ((running, 1) ∷ [])

-- a wait that is due at clock 0 is armed with timer 0, and rings at 0; one of no ticks has the same timer, is not armed, and sleeps on
abbrev round_clock : Machine → Row
round_clock M = play_from M (sized 3 1 1 0) (late M)
    (gives (Wait 1 1 (record { 0 = 1 })) 0 2 0 1 0 0
    ∷ gives (Enter 1) 0 2 0 1 0 0
    ∷ gives (Wait 1 1 (record { 0 = 0 })) 0 3 0 1 0 1
    ∷ gives (Enter 1) 0 3 0 1 0 0
    ∷ gives Tick 0 3 0 0 1 0
    ∷ gives (Wait 1 1 (record { 0 = 65535 })) 0 1 0 1 0 1
    ∷ gives Tick 0 1 0 0 0 0
    ∷ [])
    ((ready, 1 ∷ []) ∷ (condition 1, 2 ∷ 3 ∷ []) ∷ [])
    ((clock, 1) ∷ (running, 1) ∷ (armed 1, 0) ∷ (armed 2, 0) ∷ (armed 3, 1) ∷ (timer 1, 0) ∷ (timer 2, 0) ∷ (timer 3, 65535) ∷ [])

-- how many stand before a newcomer: its equals and those above it, at a lock and at a condition; not those behind it, and nobody where it joins ready
abbrev how_many : Machine → Row
how_many M = play M (sized 5 1 1 1) (3 ∷ 1 ∷ 3 ∷ 5 ∷ 2 ∷ [])
    (gives (Enter 1) 0 4 0 1 0 0
    ∷ gives (Requeue 0 1 (record { 0 = 4 })) 0 1 0 0 0 0
    ∷ gives (Requeue 0 1 (record { 0 = 1 })) 0 3 0 0 0 0
    ∷ gives (Requeue 0 1 (record { 0 = 3 })) 0 5 0 0 0 0
    ∷ gives (Requeue 0 1 (record { 0 = 5 })) 0 2 0 0 0 0
    ∷ gives (Enter 1) 0 0 0 0 0 0
    ∷ gives (Requeue 1 0 (record { 0 = 1 })) 0 1 0 0 1 0
    ∷ gives (Enter 1) 0 0 0 0 0 0
    ∷ gives (Requeue 1 0 (record { 0 = 5 })) 0 5 0 0 1 0
    ∷ gives (Enter 1) 0 0 0 0 0 1
    ∷ gives (Requeue 1 0 (record { 0 = 3 })) 0 3 0 0 1 0
    ∷ gives (Enter 1) 0 0 0 0 0 1
    ∷ gives (Requeue 1 0 (record { 0 = 4 })) 0 4 0 0 1 0
    ∷ gives (Wait 1 1 (record { 0 = 0 })) 0 1 1 1 1 0
    ∷ gives (Enter 1) 0 1 0 1 0 0
    ∷ gives (Wait 1 1 (record { 0 = 0 })) 0 3 1 1 1 1
    ∷ gives (Enter 1) 0 3 0 1 0 0
    ∷ gives (Wait 1 1 (record { 0 = 0 })) 0 5 1 1 1 2
    ∷ gives (SetPriority (record { 0 = 4 })) 0 5 0 0 0 0
    ∷ gives (Enter 1) 0 5 0 1 0 0
    ∷ gives (Wait 1 1 (record { 0 = 0 })) 0 2 1 1 1 1
    ∷ gives (SetPriority (record { 0 = 3 })) 0 2 0 0 0 0
    ∷ gives (Enter 1) 0 2 0 1 0 0
    ∷ gives (Wait 1 1 (record { 0 = 0 })) 0 0 0 1 0 4
    ∷ gives (Naked 1) 0 4 0 0 1 0
    ∷ [])
    ((ready, 4 ∷ []) ∷ (lock 1, []) ∷ (condition 1, 5 ∷ 1 ∷ 3 ∷ 2 ∷ []) ∷ [])
    ((running, 4) ∷ (holder 1, 0) ∷ [])

-- Abort wakes a process off an abortable condition, first there or not, and sets the bit alone off another; SetAbortable moves nobody; who wakes keeps its abort
abbrev aborts : Machine → Row
aborts M = play M (sized 3 1 2 0) (3 ∷ 3 ∷ 3 ∷ [])
    (refuses (Abort (record { 0 = 0 })) 7
    ∷ refuses (Abort (record { 0 = 4 })) 7
    ∷ refuses (SetAbortable 0 1) 7
    ∷ refuses (SetAbortable 3 1) 7
    ∷ refuses (SetAbortable 1 2) 7
    ∷ gives (SetAbortable 1 1) 0 1 0 0 0 0
    ∷ gives (Enter 1) 0 1 0 1 0 0
    ∷ gives (Wait 1 1 (record { 0 = 9 })) 0 2 0 1 0 0
    ∷ gives (Enter 1) 0 2 0 1 0 0
    ∷ gives (Wait 1 2 (record { 0 = 0 })) 0 3 0 1 0 0
    ∷ gives (Abort (record { 0 = 2 })) 0 3 0 0 0 0
    ∷ gives (Abort (record { 0 = 1 })) 0 3 0 0 1 0
    ∷ gives (Enter 1) 0 3 0 1 0 0
    ∷ gives (Wait 1 2 (record { 0 = 4 })) 0 1 0 1 0 1
    ∷ gives (SetAbortable 2 1) 0 1 0 0 0 0
    ∷ gives (Abort (record { 0 = 3 })) 0 1 0 0 1 0
    ∷ gives (Notify 2) 0 1 0 0 1 0
    ∷ [])
    ((ready, 1 ∷ 3 ∷ 2 ∷ []) ∷ (condition 1, []) ∷ (condition 2, []) ∷ [])
    ((running, 1) ∷ (abort 1, 1) ∷ (abort 2, 1) ∷ (abort 3, 1) ∷ (armed 1, 0) ∷ (armed 3, 0) ∷ (timer 1, 0) ∷ (timer 3, 0) ∷ (abortable 1, 1) ∷ (abortable 2, 1) ∷ (wakeup 1, 0) ∷ [])

-- Abort at a lock, in a park and in ready sets the bit alone, as often as it comes; an alarm needs no running process
abbrev aborts_elsewhere : Machine → Row
aborts_elsewhere M = play M (sized 3 1 1 1) (3 ∷ 3 ∷ 3 ∷ [])
    (gives (SetAbortable 1 1) 0 1 0 0 0 0
    ∷ gives (Enter 1) 0 1 0 1 0 0
    ∷ gives (Requeue 0 0 (record { 0 = 1 })) 0 2 0 0 0 0
    ∷ gives (Enter 1) 0 3 0 0 0 0
    ∷ gives (Abort (record { 0 = 2 })) 0 3 0 0 0 0
    ∷ gives (Requeue 0 1 (record { 0 = 3 })) 0 1 0 0 0 0
    ∷ gives (Abort (record { 0 = 3 })) 0 1 0 0 0 0
    ∷ gives (Abort (record { 0 = 1 })) 0 1 0 0 0 0
    ∷ gives (Requeue 0 1 (record { 0 = 1 })) 0 0 0 0 0 0
    ∷ gives (Abort (record { 0 = 1 })) 0 0 0 0 0 0
    ∷ gives (SetAbortable 1 0) 0 0 0 0 0 0
    ∷ refuses (Reenter 9 9) 6
    ∷ [])
    ((ready, []) ∷ (lock 1, 2 ∷ []) ∷ (park 1, 3 ∷ 1 ∷ []) ∷ [])
    ((running, 0) ∷ (abort 1, 1) ∷ (abort 2, 1) ∷ (abort 3, 1) ∷ (failed 2, 1) ∷ (holder 1, 1) ∷ (abortable 1, 0) ∷ [])

-- a Wait over abort leaves the lock, and wakeup and abort as they were; Reenter is Enter over a condition that is not abortable, has 8 before abort,
-- and over an abortable one clears abort, takes no lock and has mark 2, once
abbrev called_off_wait : Machine → Row
called_off_wait M = play M (sized 3 1 2 0) (2 ∷ 2 ∷ 2 ∷ [])
    (gives (SetAbortable 1 1) 0 1 0 0 0 0
    ∷ gives (Abort (record { 0 = 1 })) 0 1 0 0 0 0
    ∷ gives (Naked 1) 0 1 0 1 0 0
    ∷ gives (Enter 1) 0 1 0 1 0 0
    ∷ gives (Requeue 0 0 (record { 0 = 1 })) 0 2 0 0 0 0
    ∷ gives (Enter 1) 0 3 0 0 0 0
    ∷ gives (Requeue 0 0 (record { 0 = 3 })) 0 1 0 0 0 0
    ∷ gives (Wait 1 1 (record { 0 = 5 })) 0 1 0 0 1 0
    ∷ refuses (Reenter 0 1) 7
    ∷ refuses (Reenter 2 1) 7
    ∷ refuses (Reenter 1 0) 7
    ∷ refuses (Reenter 1 3) 7
    ∷ gives (Reenter 1 2) 0 1 0 1 0 0
    ∷ refuses (Reenter 1 1) 8
    ∷ gives (Exit 1) 0 1 0 0 0 0
    ∷ gives (Reenter 1 1) 0 1 0 2 0 0
    ∷ gives (Reenter 1 1) 0 1 0 1 0 0
    ∷ [])
    ((ready, 1 ∷ 3 ∷ 2 ∷ []) ∷ (lock 1, []) ∷ (condition 1, []) ∷ [])
    ((running, 1) ∷ (holder 1, 1) ∷ (abort 1, 0) ∷ (wakeup 1, 1) ∷ (armed 1, 0) ∷ (timer 1, 0) ∷ (failed 2, 1) ∷ [])

-- a Reenter of a locked lock queues as Enter does, told how many are ahead, and keeps abort until the lock is free
abbrev reenter_locked : Machine → Row
reenter_locked M = play M (sized 3 1 1 0) (2 ∷ 2 ∷ 2 ∷ [])
    (gives (SetAbortable 1 1) 0 1 0 0 0 0
    ∷ gives (Enter 1) 0 1 0 1 0 0
    ∷ gives (Requeue 0 0 (record { 0 = 1 })) 0 2 0 0 0 0
    ∷ gives (Abort (record { 0 = 2 })) 0 2 0 0 0 0
    ∷ gives (Abort (record { 0 = 3 })) 0 2 0 0 0 0
    ∷ gives (Reenter 1 1) 0 3 0 0 0 0
    ∷ gives (Reenter 1 1) 0 1 0 0 0 1
    ∷ gives (Exit 1) 0 1 0 0 1 0
    ∷ gives (Requeue 0 0 (record { 0 = 1 })) 0 2 1 0 0 0
    ∷ gives (Reenter 1 1) 0 2 0 2 0 0
    ∷ [])
    ((ready, 2 ∷ 1 ∷ []) ∷ (lock 1, 3 ∷ []) ∷ [])
    ((running, 2) ∷ (holder 1, 0) ∷ (abort 1, 0) ∷ (abort 2, 0) ∷ (abort 3, 1) ∷ (failed 3, 1) ∷ [])

-- Start's codes at the edges of each count, and with two faults at once: 2 before 3 before 4
abbrev starting : Row
starting = record {
  come = (start_code (sized 3 255 255 8) (0 ∷ 0 ∷ 0 ∷ [])
      ∷ start_code (sized 3 256 0 0) (0 ∷ 0 ∷ 0 ∷ [])
      ∷ start_code (sized 3 0 256 0) (0 ∷ 0 ∷ 0 ∷ [])
      ∷ start_code (sized 0 0 0 0) (8 ∷ [])
      ∷ start_code (sized 3 0 0 0) (8 ∷ 8 ∷ [])
      ∷ start_code (sized 3 0 0 0) (0 ∷ 0 ∷ 0 ∷ 0 ∷ [])
      ∷ start_code (sized 3 0 0 0) (0 ∷ 0 ∷ 8 ∷ [])
      ∷ []) ∷ [];
  must = (0 ∷ 2 ∷ 2 ∷ 2 ∷ 3 ∷ 3 ∷ 4 ∷ []) ∷ [];
}

abbrev scripts : Machine → List Row
scripts M =
    nobody_runs M
    ∷ refusals M
    ∷ exit_to_nobody M
    ∷ exit_frees M
    ∷ naked_twice M
    ∷ wakeup_and_lock M
    ∷ notify_sets_nothing M
    ∷ notify_first M
    ∷ tick_in_order M
    ∷ broadcast_all M
    ∷ requeues M
    ∷ set_priority M
    ∷ newcomer M
    ∷ round_clock M
    ∷ how_many M
    ∷ aborts M
    ∷ aborts_elsewhere M
    ∷ called_off_wait M
    ∷ reenter_locked M
    ∷ []

-- the scripts and Start's codes hold of both machines
both_machines : Holds (starting ∷ scripts model ++ scripts ledger)
unfolding step decide when choose nakedly reading ℕ_discrete
both_machines = refl

-- ---- who is due

-- five processes at clock 1: 1 and 4 wait on condition 1, 2 and 3 on condition 2, and 5 runs; 1, 2 and 3 are armed, with timers 5, t and 3
abbrev places : Queue → List ℕ
places ready = 5 ∷ []
places (park k) = []
places (lock l) = []
places (condition c) = cond (eqb c 1) (1 ∷ 4 ∷ []) (cond (eqb c 2) (2 ∷ 3 ∷ []) [])

-- p is armed, and this is its timer
abbrev clocked : ℕ → ℕ → Fields → Fields
clocked p t s = put (timer p) t (put (armed p) 1 s)

abbrev timed : ℕ → State model
timed t = record { fields = put clock 1 (clocked 1 5 (clocked 2 t (clocked 3 3 (fresh [])))); queues = places }

-- who is told within k ticks, each with its ticks left
abbrev due_row : State model → ℕ → List Entry → Row
due_row s k es =
    record { come = map (λ (e : Entry). e.0 ∷ e.1 ∷ []) (due_within (sized 5 1 2 0) s k); must = map (λ (e : Entry). e.0 ∷ e.1 ∷ []) es }

-- the ticks left of 1 to 5
abbrev left_row : State model → List ℕ → Row
left_row s ds = record { come = map (λ p. left (sized 5 1 2 0) s p) (1 ∷ 2 ∷ 3 ∷ 4 ∷ 5 ∷ []) ∷ []; must = ds ∷ [] }

-- by ticks left and then by number; a timer at the clock has a full round left, and is not told; timer 0 is a time as any other
who_is_due : Holds (
    left_row (timed 3) (4 ∷ 2 ∷ 2 ∷ 0 ∷ 0 ∷ [])
    ∷ left_row (timed 1) (4 ∷ 65536 ∷ 2 ∷ 0 ∷ 0 ∷ [])
    ∷ left_row (timed 0) (4 ∷ 65535 ∷ 2 ∷ 0 ∷ 0 ∷ [])
    ∷ due_row (timed 3) 0 []
    ∷ due_row (timed 3) 1 []
    ∷ due_row (timed 3) 2 ((2, 2) ∷ (3, 2) ∷ [])
    ∷ due_row (timed 3) 4 ((2, 2) ∷ (3, 2) ∷ (1, 4) ∷ [])
    ∷ due_row (timed 1) 9 ((3, 2) ∷ (1, 4) ∷ [])
    ∷ [])
unfolding due_within ℕ_discrete
who_is_due = refl
