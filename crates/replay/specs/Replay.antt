-- A log of calls as words, four a record, and what it comes to when its calls are made one after the other. Assumes nothing.
use Rattle.std.specs.Prelude.{ℕ, zero, suc, ◌/◌, ◌%◌, ◌≡◌, Bool, true, false, ◌&&◌, List, [], ◌∷◌, ◌++◌, Option, Some, None, map, eqb, ltb, length, get_or, take, drop, set}
use Rattle.model.specs.declared.Shape.{Shape}
use Rattle.model.specs.declared.Call.{Call}
use Rattle.model.specs.declared.Call.TheVariants.{Enter, Exit, Wait, Notify, Broadcast, Naked, Requeue, SetPriority, Tick, Abort, SetAbortable, Reenter}
use Rattle.model.specs.declared.Answer.{Answer}
use Rattle.start.specs.Start.{Starts}
use Rattle.monitor.specs.Calls.{Performs}
use Rattle.model.specs.Run.{Run}
use Rattle.runs.specs.History.{Ends}
use Rattle.runs.specs.Turns.{InTurn}
use Rattle.wire.specs.Wire.{number_of, answer_of}

-- ---- a record: a call, or none where it is malformed

-- the arguments that a call does not use are 0
abbrev pub none3 : ℕ → ℕ → ℕ → Bool
none3 a b c = eqb a 0 && (eqb b 0 && eqb c 0)

abbrev pub none2 : ℕ → ℕ → Bool
none2 b c = eqb b 0 && eqb c 0

-- one record or another, by a test
unfoldable pub pick : Bool → Option Call → Option Call → Option Call
pick true x y = x
pick false x y = y

-- a call where the test holds
abbrev pub made : Bool → Call → Option Call
made t c = pick t (Some c) None

-- an operation with its three arguments: 01's order of the calls, from 0, and then 02's
unfoldable pub operation : ℕ → ℕ → ℕ → ℕ → Option Call
operation k a b c =
    pick (eqb k 0) (made (none2 b c) (Enter a))
    (pick (eqb k 1) (made (none2 b c) (Exit a))
    (pick (eqb k 2) (Some (Wait a b (record { 0 = c })))
    (pick (eqb k 3) (made (none2 b c) (Notify a))
    (pick (eqb k 4) (made (none2 b c) (Broadcast a))
    (pick (eqb k 5) (made (none2 b c) (Naked a))
    (pick (eqb k 6) (Some (Requeue a b (record { 0 = c })))
    (pick (eqb k 7) (made (none2 b c) (SetPriority (record { 0 = a })))
    (pick (eqb k 8) (made (none3 a b c) Tick)
    (pick (eqb k 9) (made (none2 b c) (Abort (record { 0 = a })))
    (pick (eqb k 10) (made (eqb c 0) (SetAbortable a b))
    (pick (eqb k 11) (made (eqb c 0) (Reenter a b))
    None)))))))))))

-- four words: the operation in the first four bits of the first word, whose other bits are 0, and three arguments
unfoldable pub recorded : ℕ → ℕ → ℕ → ℕ → Option Call
recorded word a b c = pick (eqb (word % 4096) 0) (operation (word / 4096) a b c) None

-- ---- a log

-- the record that a log begins with; one that is not whole is malformed
unfoldable pub first_of : List ℕ → Option Call
first_of log = pick (ltb (length log) 4) None (recorded (get_or log 0 0) (get_or log 1 0) (get_or log 2 0) (get_or log 3 0))

-- a call before others; nothing comes after a malformed record
abbrev pub follow : Option Call → List Call → List Call
follow (Some c) cs = c ∷ cs
follow None cs = []

-- the calls of a log up to its first malformed record, and no more than there is room for
unfoldable pub logged : ℕ → List ℕ → List Call
logged zero log = []
logged (suc room) log = follow (first_of log) (logged room (drop 4 log))

-- ---- what is promised

-- one record, and the place of its answer: a call is made and its answer is written, or nothing is done
pub record Served (x : Option Call) (old new out_old out_new : List ℕ) (k : ℕ) (r : Bool) : Type 0 where
  pub done : (c : Call) → x ≡ Some c → (r ≡ true) × ((a : Answer) × Performs c old new a × (out_new ≡ set out_old k (number_of a)))
  pub not_done : x ≡ None → (r ≡ false) × (new ≡ old) × (out_new ≡ out_old)

-- the calls of the log are made one after the other, as many as there is room for answers; r of them are made, and their answers are written in
-- order over the first r numbers
pub record Replayed (log old_area new_area old_answers new_answers : List ℕ) (r : ℕ) : Type 0 where
  pub answers : List Answer
  pub run : Run Performs (logged (length old_answers) log) old_area new_area answers
  pub count : r ≡ length (logged (length old_answers) log)
  pub written : new_answers ≡ map number_of answers ++ drop r old_answers

-- demand 3 of a log: after an accepted Start, the answers that are written and the area are those of the ledger that is fed the same calls
pub record LogDemand3 : Type 0 where
  pub ends : {n : Shape} {bytes old begun new log old_answers new_answers : List ℕ} {a : Answer} {r : ℕ}
      → Starts n bytes old begun a → a.code ≡ 0 → Replayed log begun new old_answers new_answers r
      → Ends n bytes a (logged (length old_answers) log) (map answer_of (take r new_answers)) new

-- turns in a log: its run, from whatever area, has the answers that are written, and whoever joins a lock in it has its turn
pub record LogTurns : Type 0 where
  pub written : {log old new old_answers new_answers : List ℕ} {r : ℕ} (R : Replayed log old new old_answers new_answers r) → R.answers ≡ map answer_of (take r new_answers)
  pub turn : {log old new old_answers new_answers : List ℕ} {r : ℕ} (R : Replayed log old new old_answers new_answers r) → InTurn (λ (a : Answer). a) R.run
