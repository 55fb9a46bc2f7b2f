-- What the exports promise: what the functions behind them do, with each answer as one number. Assumes nothing.
use Rattle.std.specs.Prelude.{ℕ, ◌<◌, ◌≡◌, ◌↔◌, List}
use Rattle.model.specs.declared.Shape.{Shape}
use Rattle.model.specs.declared.Call.{Call}
use Rattle.model.specs.Machine.{fields_of}
use Rattle.area.specs.Sound.{Sound}
use Rattle.start.specs.Start.{Starts}
use Rattle.monitor.specs.Calls.{Performs}
use Rattle.reads.specs.Reads.{ListsOn, TellsOn, SheetsOn, NearestOn}
use Rattle.wire.specs.Wire.{Carries, report_fields, nearest_fields}

-- r carries an answer as promised: it is the number of the answer's fields, w bits each, and every field comes back out of it
pub record Conveys {A : Type 0} (w : ℕ) (fields : A → List ℕ) (promised : A → Type 0) (r : ℕ) : Type 0 where
  pub answer : A
  pub keeps : promised answer
  pub carries : Carries w r (fields answer)

-- one of the twelve calls: an unsound area is refused by 1 and left as it is; a sound one gives the rule's answer and words
abbrev pub Crosses : Call → List ℕ → List ℕ → ℕ → Type 0
Crosses c old new r = Conveys 10 fields_of (Performs c old new) r

-- Start: refused, it changes nothing; accepted, it gives the started state's answer and words
abbrev pub Begins : Shape → List ℕ → List ℕ → List ℕ → ℕ → Type 0
Begins n bytes old new r = Conveys 10 fields_of (Starts n bytes old new) r

-- List: refused by 1, 7, 5 in this order, the buffer is as it was; else the queue stands at its front, and the rest is as it was
abbrev pub Writes : ℕ → ℕ → List ℕ → List ℕ → List ℕ → ℕ → Type 0
Writes kind number ws old new r = Conveys 10 report_fields (ListsOn kind number ws old new) r

-- who is due within k ticks: refused by 1, 5 in this order, the buffer is as it was; else they stand at its front, and the rest is as it was
abbrev pub Dues : ℕ → List ℕ → List ℕ → List ℕ → ℕ → Type 0
Dues k ws old new r = Conveys 20 report_fields (TellsOn k ws old new) r

-- the yard sheet: refused by 1, 5 in this order, the page is as it was; else the sheet stands at its front, and the bytes past it are as they were
abbrev pub Pages : List ℕ → List ℕ → List ℕ → ℕ → Type 0
Pages ws old new r = Conveys 20 report_fields (SheetsOn ws old new) r

-- who is the nearest: refused by 1 alone
abbrev pub Nears : List ℕ → ℕ → Type 0
Nears ws r = Conveys 20 nearest_fields (NearestOn ws) r

-- Sound: 1 exactly for a sound area, else 0
pub record Judges (ws : List ℕ) (r : ℕ) : Type 0 where
  pub says : (r ≡ 1) ↔ Sound ws
  pub bit : r < 2
