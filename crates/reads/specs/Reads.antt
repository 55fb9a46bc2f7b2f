-- What each read promises of the words: the papers' rules, on areas. Assumes nothing.
use Rattle.std.specs.Prelude.{ℕ, ◌≡◌, List}
use Rattle.model.specs.declared.Shape.{Shape}
use Rattle.model.specs.declared.Report.{Report}
use Rattle.model.specs.Machine.{State, model}
use Rattle.model.specs.Reports.{Refused}
use Rattle.area.specs.Reading.{shape_of, state_of}
use Rattle.area.specs.Sound.{Sound}
use Rattle.queues.specs.Listing.{Lists}
use Rattle.sheet.specs.Sheet.{Sheets}
use Rattle.timers.specs.declared.Earliest.{Earliest}
use Rattle.timers.specs.Telling.{Tells, nearest_in}

-- a read into a buffer: an unsound area is refused by 1; of a sound one its state is told, as promised; a refusal changes nothing in the buffer
pub record ReadsOn (told : Shape → State model → List ℕ → List ℕ → Report → Type 0) (ws old new : List ℕ) (r : Report) : Type 0 where
  pub unsound : (Sound ws → ⊥) → Refused old new r 1
  pub sound : Sound ws → told (shape_of ws) (state_of ws) old new r

-- List
abbrev pub ListsOn : ℕ → ℕ → List ℕ → List ℕ → List ℕ → Report → Type 0
ListsOn kind number = ReadsOn (Lists kind number)

-- who is due within k ticks
abbrev pub TellsOn : ℕ → List ℕ → List ℕ → List ℕ → Report → Type 0
TellsOn k = ReadsOn (Tells k)

-- the yard sheet, on a page of bytes
abbrev pub SheetsOn : List ℕ → List ℕ → List ℕ → Report → Type 0
SheetsOn = ReadsOn Sheets

-- who is the nearest: an unsound area is refused by 1; of a sound one its state is told
pub record NearestOn (ws : List ℕ) (r : Earliest) : Type 0 where
  pub unsound : (Sound ws → ⊥) → r ≡ record { code = 1; process = 0; left = 0 }
  pub sound : Sound ws → r ≡ nearest_in (shape_of ws) (state_of ws)
