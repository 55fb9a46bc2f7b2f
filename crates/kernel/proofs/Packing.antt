-- What the exports promise: an answer that keeps its promise has fields of so many bits, so it comes back out of its number. Assumes nothing.
use Prim.Native.Nat.{ℕ}
use native.Mathlib.Omega.{arith}
use mathlib.Core.Path.{◌≡◌, refl, sym}
use mathlib.Core.Bool.{Bool, true, false, true≢false}
use mathlib.Core.List.{List}
use mir.Val.{bool_byte}
use Rattle.model.specs.declared.Shape.{Shape}
use Rattle.model.specs.declared.Call.{Call}
use Rattle.model.specs.declared.Answer.{Answer}
use Rattle.model.specs.declared.Report.{Report}
use Rattle.model.specs.Machine.{fields_of}
use Rattle.area.specs.Sound.{Sound}
use Rattle.start.specs.Start.{Starts}
use Rattle.timers.specs.declared.Earliest.{Earliest}
use Rattle.monitor.specs.Calls.{Performs}
use Rattle.reads.specs.Reads.{ListsOn, TellsOn, SheetsOn, NearestOn}
use Rattle.wire.specs.Wire.{packed, Carries, report_fields, nearest_fields, number_of}
use Rattle.wire.proofs.Wire.{Fit, carries}
use Rattle.runs.proofs.Promises.{performs_fits, starts_fits}
use Rattle.runs.proofs.Readings.{lists_fits, tells_fits, sheets_fits, nearest_fits}
use Rattle.kernel.specs.Exports.{Conveys, Crosses, Begins, Writes, Dues, Pages, Nears, Judges}

-- an export's contract, whatever the call: from what is promised of the answer, and the answer's number
conveys : {A : Type 0} {w r : ℕ} (fields : A → List ℕ) {promised : A → Type 0} (a : A) → promised a → r ≡ packed w (fields a) → Fit w (fields a) → Conveys w fields promised r
conveys {w = w} fields a p e h = record { answer = a; keeps = p; carries = carries w (fields a) e h }

-- a call's answer comes back out of its number
pub carried : {c : Call} {old new : List ℕ} {a : Answer} {r : ℕ} → Performs c old new a → r ≡ number_of a → Carries 10 r (fields_of a)
carried {a = a} P e = carries 10 (fields_of a) e (performs_fits P)

pub crosses : {c : Call} {old new : List ℕ} {a : Answer} {r : ℕ} → Performs c old new a → r ≡ number_of a → Crosses c old new r
crosses {a = a} P e = record { answer = a; keeps = P; carries = carried P e }

pub begins : {n : Shape} {bytes old new : List ℕ} {a : Answer} {r : ℕ} → Starts n bytes old new a → r ≡ number_of a → Begins n bytes old new r
begins {a = a} S e = conveys fields_of a S e (starts_fits S)

pub writes : {kind number : ℕ} {ws old new : List ℕ} {a : Report} {r : ℕ} → ListsOn kind number ws old new a → r ≡ packed 10 (report_fields a) → Writes kind number ws old new r
writes {a = a} L e = conveys report_fields a L e (lists_fits L)

pub dues : (k : ℕ) {ws old new : List ℕ} {a : Report} {r : ℕ} → TellsOn k ws old new a → r ≡ packed 20 (report_fields a) → Dues k ws old new r
dues k {a = a} T e = conveys report_fields a T e (tells_fits k T)

pub pages : {ws old new : List ℕ} {a : Report} {r : ℕ} → SheetsOn ws old new a → r ≡ packed 20 (report_fields a) → Pages ws old new r
pages {a = a} S e = conveys report_fields a S e (sheets_fits S)

pub nears : {ws : List ℕ} {a : Earliest} {r : ℕ} → NearestOn ws a → r ≡ packed 20 (nearest_fields a) → Nears ws r
nears {a = a} N e = conveys nearest_fields a N e (nearest_fits N)

pub judges : {ws : List ℕ} (b : Bool) → (b ≡ true → Sound ws) × (Sound ws → b ≡ true) → Judges ws (bool_byte b)
judges true h = record { says = (λ z. h.0 refl, λ S. refl); bit = omega arith }
judges false h = record { says = (λ z. absurd (omega arith), λ S. absurd (true≢false (sym (h.1 S)))); bit = omega arith }
