-- 01's table, as 02 changes it: what a kernel is asked, row by row, and what must come; and that it comes from the model and the ledger, by
-- computation.
-- The rows that speak of words and of lines stand in `crates/table/specs/Table.antt`. Assumes nothing.
use Rattle.std.specs.Prelude.{ℕ, ◌%◌, ◌≡◌, refl, List, [], ◌∷◌, ◌++◌, map, replicate}
use Rattle.std.proofs.Math.Decide.{ℕ_discrete}
use Rattle.model.specs.declared.Shape.{Shape}
use Rattle.model.specs.declared.Call.{Call}
use Rattle.model.specs.declared.Call.TheVariants.{Enter, Exit, Wait, Notify}
use Rattle.model.specs.Field.{put}
use Rattle.model.specs.Field.Field.{clock, timer}
use Rattle.model.specs.Rules.{when, choose, nakedly, decide, start_code}
use Rattle.model.specs.Machine.{Machine, State, model, fields_of, start, step}
use Rattle.model.specs.Ledger.{ledger, reading}
use Rattle.model.specs.History.{end, replies}

-- ---- what must come

-- a row: the lines of numbers that come, and those that must come
pub record Row : Type 0 where
  pub come : List (List ℕ)
  pub must : List (List ℕ)

-- rows, as one fact
abbrev pub Holds : List Row → Type 0
Holds rows = map (λ (r : Row). r.come) rows ≡ map (λ (r : Row). r.must) rows

-- one number
abbrev pub one : ℕ → List (List ℕ)
one x = (x ∷ []) ∷ []

-- ---- what is asked

-- three processes with priorities 2, 5, 2, a lock and a condition
abbrev pub sample : Shape
sample = record { processes = 3; locks = 1; conditions = 1; parks = 0 }

abbrev pub bytes : List ℕ
bytes = 2 ∷ 5 ∷ 2 ∷ []

-- Start's code; the answers to Start of the sample and then to calls; the timer that a wait of t ticks stores in the sample at a clock
pub data Question : Type 0 where
  code : Shape → List ℕ → Question
  lines : List Call → Question
  stores : (now t : ℕ) → Question

-- Start's code with P processes of priority v, no lock, no condition, K parks
abbrev pub starts : ℕ → ℕ → ℕ → Question
starts p v parks = code record { processes = p; locks = 0; conditions = 0; parks = parks } (replicate p v)

-- ---- the table

-- the calls of the nine lines after their start, and the answers to all nine
abbrev pub nine : List Call
nine = Enter 1 ∷ Wait 1 1 (record { 0 = 0 }) ∷ Enter 1 ∷ Notify 1 ∷ Enter 1 ∷ Exit 1 ∷ Exit 1 ∷ Enter 1 ∷ []

abbrev nine_answers : List (List ℕ)
nine_answers =
    (0 ∷ 2 ∷ 0 ∷ 0 ∷ 0 ∷ 0 ∷ [])
    ∷ (0 ∷ 2 ∷ 0 ∷ 1 ∷ 0 ∷ 0 ∷ [])
    ∷ (0 ∷ 1 ∷ 0 ∷ 1 ∷ 0 ∷ 0 ∷ [])
    ∷ (0 ∷ 1 ∷ 0 ∷ 1 ∷ 0 ∷ 0 ∷ [])
    ∷ (0 ∷ 2 ∷ 0 ∷ 0 ∷ 1 ∷ 0 ∷ [])
    ∷ (0 ∷ 1 ∷ 0 ∷ 0 ∷ 0 ∷ 0 ∷ [])
    ∷ (0 ∷ 2 ∷ 1 ∷ 0 ∷ 1 ∷ 0 ∷ [])
    ∷ (9 ∷ 0 ∷ 0 ∷ 0 ∷ 0 ∷ 0 ∷ [])
    ∷ (0 ∷ 2 ∷ 0 ∷ 1 ∷ 0 ∷ 0 ∷ [])
    ∷ []

-- each question, and the lines of numbers that must come
abbrev pub table : List (Question × List (List ℕ))
table =
    (lines nine, nine_answers)
    ∷ (starts 1023 0 0, one 0)
    ∷ (starts 0 0 0, one 2)
    ∷ (starts 1024 0 0, one 2)
    ∷ (starts 1 0 8, one 0)
    ∷ (starts 1 0 9, one 2)
    ∷ (code sample (2 ∷ 5 ∷ []), one 3)
    ∷ (starts 1 7 0, one 0)
    ∷ (starts 1 8 0, one 4)
    ∷ (lines (Enter 0 ∷ Enter 2 ∷ []), (0 ∷ 2 ∷ 0 ∷ 0 ∷ 0 ∷ 0 ∷ []) ∷ (7 ∷ 0 ∷ 0 ∷ 0 ∷ 0 ∷ 0 ∷ []) ∷ (7 ∷ 0 ∷ 0 ∷ 0 ∷ 0 ∷ 0 ∷ []) ∷ [])
    ∷ (stores 65534 1, one 65535)
    ∷ (stores 65535 1, one 0)
    ∷ (stores 65535 2, one 1)
    ∷ []

-- ---- a machine that obeys the rules, as the table asks it

-- the sample with its lock entered and the clock at now, which goes round
abbrev pub entered : (M : Machine) → ℕ → State M
entered M now =
    let s = end M sample bytes (Enter 1 ∷ []) in
    record { fields = put clock (now % 65536) s.fields; queues = s.queues }

-- what it answers to a question
abbrev pub told : Machine → Question → List (List ℕ)
told M (code n bs) = one (start_code n bs)
told M (lines cs) = map fields_of ((start M sample bytes).1 ∷ replies M sample bytes cs)
told M (stores now t) = one ((step M sample (entered M now) (Wait 1 1 (record { 0 = t }))).0.fields (timer 2))

-- its answers beside what must come
abbrev pub rows_of : Machine → List Row
rows_of M = map (λ (r : Question × List (List ℕ)). record { come = told M r.0; must = r.1 }) table

-- the table holds of both machines
both_machines : Holds (rows_of model ++ rows_of ledger)
unfolding step decide when choose nakedly reading ℕ_discrete
both_machines = refl
