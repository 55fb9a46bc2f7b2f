-- 01's whole table, of what C calls and of Rehearse: what each row says comes from exports and lines that keep their promises, and nothing else
-- does. All rows are one fact, `whole_table` (`crates/table/proofs/Table.antt`); beside it stands that each area on which a row makes a call
-- is sound. Start is asked on zeros. Assumes nothing.
use Rattle.std.specs.Prelude.{ℕ, ◌%◌, ◌≡◌, List, [], ◌∷◌, ◌++◌, map, replicate, set}
use Prim.Native.String.{String}
use Rattle.model.specs.declared.Call.{Call}
use Rattle.model.specs.declared.Call.TheVariants.{Enter, Wait}
use Rattle.model.specs.Text.{bytes_of}
use Rattle.model.specs.Queue.{All}
use Rattle.model.specs.Field.Field.{timer}
use Rattle.model.specs.Machine.{fields_of}
use Rattle.model.specs.Table as tables
use Rattle.model.specs.Table.{one, sample, bytes, table}
use Rattle.model.specs.Table.Question.{code, lines, stores}
use Rattle.area.specs.Layout.{size}
use Rattle.area.specs.Reading.{state_of}
use Rattle.area.specs.Sound.{Sound}
use Rattle.model.specs.Run.{Run}
use Rattle.wire.specs.Wire.{answer_of}
use Rattle.kernel.specs.Exports.{Begins, Crosses}
use Rattle.script.specs.Line.{meaning}
use Rattle.script.specs.Line.Meaning.{call}
use Rattle.serve.specs.Serve.{Played}

-- ---- the rows

-- the line that starts the sample
abbrev pub start_line : String
start_line = "start 3 1 1 0 2 5 2"

-- 01's nine lines: input, and its line
abbrev pub nine : List (String × String)
nine =
    (start_line, "0 2 0 0 0 0")
    ∷ ("enter 1", "0 2 0 1 0 0")
    ∷ ("wait 1 1 0", "0 1 0 1 0 0")
    ∷ ("enter 1", "0 1 0 1 0 0")
    ∷ ("notify 1", "0 2 0 0 1 0")
    ∷ ("enter 1", "0 1 0 0 0 0")
    ∷ ("exit 1", "0 2 1 0 1 0")
    ∷ ("exit 1", "9 0 0 0 0 0")
    ∷ ("enter 1", "0 2 0 1 0 0")
    ∷ []

-- the eighteen words after the sample's start
abbrev pub eighteen : List ℕ
eighteen =
    0x0003 ∷ 0x0101 ∷ 0x0000 ∷ 0x0000 ∷ 0x0010 ∷ 0x0018 ∷ 0x0000 ∷ 0x0000 ∷ 0x0000
    ∷ 0x4018 ∷ 0x0000 ∷ 0x0000 ∷ 0xA008 ∷ 0x0000 ∷ 0x0000 ∷ 0x4010 ∷ 0x0000 ∷ 0x0000 ∷ []

-- what is printed for the nine lines; the words after the sample's start; Start's code for it on an area of so many words; what `model` asks
pub data Question : Type 0 where
  typed : Question
  words : Question
  room : ℕ → Question
  asked : tables.Question → Question

-- each question, and the lines of bytes or numbers that must come
abbrev pub rows : List (Question × List (List ℕ))
rows =
    (typed, map (λ (p : String × String). bytes_of p.1 ++ bytes_of "\n") nine)
    ∷ (words, eighteen ∷ [])
    ∷ (room 17, one 5)
    ∷ (room 18, one 0)
    ∷ map (λ (r : tables.Question × List (List ℕ)). (asked r.0, r.1)) table

-- ---- what comes

-- so many words, all 0
unfoldable pub zeros : ℕ → List ℕ
zeros k = replicate k 0

-- the sample, started in an area of its size: its words, and Start's number
abbrev pub Started : List ℕ → ℕ → Type 0
Started ws r = Begins sample bytes (zeros (size sample)) ws r

-- these lines come of a question; Rehearse's area has 8,192 words, and the clock is word 3
abbrev pub Comes : Question → List (List ℕ) → Type 0
Comes typed xs = (ws : List ℕ) × Played (map (λ (p : String × String). bytes_of p.0) nine) (zeros 8192) ws xs
Comes words xs = (ws : List ℕ) × (r : ℕ) × Started ws r × (xs ≡ ws ∷ [])
Comes (room k) xs = (ws : List ℕ) × (r : ℕ) × Begins sample bytes (zeros k) ws r × (xs ≡ one (answer_of r).code)
Comes (asked (code n bs)) xs = (ws : List ℕ) × (r : ℕ) × Begins n bs (zeros (size n)) ws r × (xs ≡ one (answer_of r).code)
Comes (asked (lines cs)) xs =
    (begun ws : List ℕ) × (r : ℕ) × (rs : List ℕ) × Started begun r × Run Crosses cs begun ws rs × (xs ≡ map fields_of (answer_of r ∷ map answer_of rs))
Comes (asked (stores now t)) xs =
    (begun entered ws : List ℕ) × (r s u : ℕ)
    × Started begun r × Crosses (Enter 1) begun entered s × Crosses (Wait 1 1 (record { 0 = t })) (set entered 3 (now % 65536)) ws u
    × (xs ≡ one ((state_of ws).fields (timer 2)))

-- so for each row
abbrev pub AllCome : List (Question × List (List ℕ)) → List (List (List ℕ)) → Type 0
AllCome [] [] = Unit {0}
AllCome [] (x ∷ xs) = ⊥
AllCome (r ∷ rs) [] = ⊥
AllCome (r ∷ rs) (x ∷ xs) = Comes r.0 x × AllCome rs xs

-- ---- the table

-- what must come of each row
abbrev pub must : List (List (List ℕ))
must = map (λ (r : Question × List (List ℕ)). r.1) rows

pub record Table : Type 0 where
  -- that comes, and nothing else
  pub comes : AllCome rows must
  pub alone : {xs : List (List (List ℕ))} → AllCome rows xs → xs ≡ must
  -- the areas on which the rows make calls are sound: after any calls on the sample, at any clock, and after the start line and any lines that
  -- are calls
  pub sound_calls : {cs : List Call} {begun ws rs : List ℕ} {r : ℕ} → Started begun r → Run Crosses cs begun ws rs → Sound ws
  pub sound_clock : {begun entered : List ℕ} {r s : ℕ} (now : ℕ) → Started begun r → Crosses (Enter 1) begun entered s → Sound (set entered 3 (now % 65536))
  pub sound_lines : {ws : List ℕ} {xs : List (List ℕ)} (ls : List (List ℕ × Call)) → All (λ (l : List ℕ × Call). meaning l.0 ≡ call l.1) ls
      → Played (bytes_of start_line ∷ map (λ (l : List ℕ × Call). l.0) ls) (zeros 8192) ws xs → Sound ws
