-- The three demands, that whoever waits wakes on time, that nobody is passed over at a lock, and that the words beyond an area's size are
-- neither read nor changed: each a statement about what the exports promise, over every area, of any length and content, and every number.
-- They hold by `crates/demands/proofs/Demands.antt`, and `OnTime` by `OnTime.antt` beside it. Assumes nothing.
use Rattle.std.specs.Prelude.{ℕ, ◌+◌, ◌*◌, ◌≤◌, ◌<◌, ◌≡◌, ◌≢◌, ◌↔◌, List, length, get_or, take, drop}
use Rattle.model.specs.declared.Shape.{Shape}
use Rattle.model.specs.declared.Ticks.{Ticks}
use Rattle.model.specs.declared.Call.{Call}
use Rattle.model.specs.declared.Call.TheVariants.{Wait}
use Rattle.model.specs.Field.Field.{running}
use Rattle.model.specs.Machine.{refusal}
use Rattle.model.specs.Reports.{Refused}
use Rattle.area.specs.Layout.{size}
use Rattle.area.specs.Reading.{shape_of, state_of, Agree}
use Rattle.area.specs.Sound.{Sound}
use Rattle.start.specs.Start.{Starts}
use Rattle.monitor.specs.Calls.{Performs, Spares}
use Rattle.reads.specs.Reads.{ListsOn, TellsOn, SheetsOn, NearestOn}
use Rattle.wire.specs.Wire.{answer_of, report_of, nearest_of}
use Rattle.runs.specs.History as history
use Rattle.runs.specs.Ticks.{WakesIn, Still, SleepsFor}
use Rattle.runs.specs.Turns as turns
use Rattle.kernel.specs.Exports.{Crosses, Begins, Writes, Dues, Pages, Nears, Judges}

-- 1. Every area and every number is answered, since no export requires anything; and a wrong number gets the refusal that the rules of demand 2
-- name. Besides:
pub record Demand1 : Type 0 where
  -- an unsound area gets refusal 1 from each of the twelve calls and from each read, and Sound says no
  pub unsound_call : {c : Call} {old new : List ℕ} {r : ℕ} → Crosses c old new r → (Sound old → ⊥) → (answer_of r ≡ refusal 1) × (new ≡ old)
  pub unsound_list : {kind number : ℕ} {ws old new : List ℕ} {r : ℕ} → Writes kind number ws old new r → (Sound ws → ⊥) → Refused old new (report_of 10 r) 1
  pub unsound_due : (k : ℕ) {ws old new : List ℕ} {r : ℕ} → Dues k ws old new r → (Sound ws → ⊥) → Refused old new (report_of 20 r) 1
  pub unsound_sheet : {ws old new : List ℕ} {r : ℕ} → Pages ws old new r → (Sound ws → ⊥) → Refused old new (report_of 20 r) 1
  pub unsound_nearest : {ws : List ℕ} {r : ℕ} → Nears ws r → (Sound ws → ⊥) → nearest_of r ≡ record { code = 1; process = 0; left = 0 }
  pub unsound_sound : {ws : List ℕ} {r : ℕ} → Judges ws r → (Sound ws → ⊥) → r ≡ 0
  -- Start overwrites it: what an area long enough held makes no difference
  pub overwrites : {n : Shape} {bytes a b a' b' : List ℕ} {r s : ℕ} → Begins n bytes a a' r → Begins n bytes b b' s → size n ≤ length a → size n ≤ length b
      → (r ≡ s) × ((answer_of r).code ≡ 0 → take (size n) a' ≡ take (size n) b')
  -- a refusal, whatever its code, answers zeros beside it and changes no word of the area and nothing in the buffer
  pub refused_call : {c : Call} {old new : List ℕ} {r : ℕ} → Crosses c old new r → Spares (answer_of r) old new
  pub refused_start : {n : Shape} {bytes old new : List ℕ} {r : ℕ} → Begins n bytes old new r → Spares (answer_of r) old new
  pub refused_list : {kind number : ℕ} {ws old new : List ℕ} {r : ℕ} → Writes kind number ws old new r → (report_of 10 r).code ≢ 0 → Refused old new (report_of 10 r) (report_of 10 r).code
  pub refused_due : (k : ℕ) {ws old new : List ℕ} {r : ℕ} → Dues k ws old new r → (report_of 20 r).code ≢ 0 → Refused old new (report_of 20 r) (report_of 20 r).code
  pub refused_sheet : {ws old new : List ℕ} {r : ℕ} → Pages ws old new r → (report_of 20 r).code ≢ 0 → Refused old new (report_of 20 r) (report_of 20 r).code
  pub refused_nearest : {ws : List ℕ} {r : ℕ} → Nears ws r → (nearest_of r).code ≢ 0 → nearest_of r ≡ record { code = (nearest_of r).code; process = 0; left = 0 }

-- 2. What is read back out of an export's number is the answer that the rules give, with every word as they give it
pub record Demand2 : Type 0 where
  pub call : {c : Call} {old new : List ℕ} {r : ℕ} → Crosses c old new r → Performs c old new (answer_of r)
  pub start : {n : Shape} {bytes old new : List ℕ} {r : ℕ} → Begins n bytes old new r → Starts n bytes old new (answer_of r)
  pub list : {kind number : ℕ} {ws old new : List ℕ} {r : ℕ} → Writes kind number ws old new r → ListsOn kind number ws old new (report_of 10 r)
  pub due : (k : ℕ) {ws old new : List ℕ} {r : ℕ} → Dues k ws old new r → TellsOn k ws old new (report_of 20 r)
  pub sheet : {ws old new : List ℕ} {r : ℕ} → Pages ws old new r → SheetsOn ws old new (report_of 20 r)
  pub nearest : {ws : List ℕ} {r : ℕ} → Nears ws r → NearestOn ws (nearest_of r)
  pub sound : {ws : List ℕ} {r : ℕ} → Judges ws r → (r ≡ 1) ↔ Sound ws

-- 3. Over every history: from an accepted Start, over every list of the twelve calls made from C
abbrev pub Demand3 : Type 0
Demand3 = history.Demand3 answer_of Begins Crosses

-- A sleeping probe never sleeps through a wake: whoever is told with d ticks left, by either read, wakes in the d-th Tick and in no earlier one;
-- and before the nearest's tick no Tick moves anybody, nor does any where there is no nearest. And a Wait of t ticks with mark 1 lasts t ticks, at
-- every clock, whatever calls come between, unless one of them wakes its caller
pub record OnTime : Type 0 where
  pub due : (k : ℕ) {ws old new : List ℕ} {r i : ℕ} → Dues k ws old new r → i < (report_of 20 r).count → WakesIn Crosses ws (get_or new (2 * i) 0) (get_or new (2 * i + 1) 0)
  pub nearest : {ws : List ℕ} {r : ℕ} → Nears ws r → (nearest_of r).process ≢ 0 → WakesIn Crosses ws (nearest_of r).process (nearest_of r).left
  pub before : {ws : List ℕ} {r k : ℕ} → Nears ws r → k < (nearest_of r).left → Still Crosses ws k
  pub never : {ws : List ℕ} {r : ℕ} (k : ℕ) → Nears ws r → (nearest_of r).code ≡ 0 → (nearest_of r).process ≡ 0 → Still Crosses ws k
  pub wait : {l c : ℕ} {t : Ticks} {old new : List ℕ} {r : ℕ} → Crosses (Wait l c t) old new r → (answer_of r).mark ≡ 1 → 1 ≤ t.0 → t.0 ≤ 65535
      → SleepsFor Crosses new ((state_of old).fields running) c t.0

-- Nobody is passed over at a lock: whoever joins it with k ahead is brought into ready by its (k + 1)th leaving from then on and by no earlier
-- call, as long as nobody of higher priority joins; each that does makes it one leaving later. In every run of the calls made from C, from
-- whatever area, and so in every history from Start
abbrev pub Turns : Type 0
Turns = turns.Turns answer_of Crosses

-- The words beyond an area's size are never changed and never read: areas that agree below it are answered alike, and agree afterwards. Start
-- reads no word that it finds: `overwrites` above
pub record Beyond : Type 0 where
  pub kept_call : {c : Call} {old new : List ℕ} {r : ℕ} → Crosses c old new r → drop (size (shape_of old)) new ≡ drop (size (shape_of old)) old
  pub kept_start : {n : Shape} {bytes old new : List ℕ} {r : ℕ} → Begins n bytes old new r → drop (size n) new ≡ drop (size n) old
  pub call : {c : Call} {a b a' b' : List ℕ} {r s : ℕ} → Agree a b → Crosses c a a' r → Crosses c b b' s
      → (r ≡ s) × (take (size (shape_of a)) a' ≡ take (size (shape_of a)) b')
  pub list : {kind number : ℕ} {a b old new other : List ℕ} {r s : ℕ} → Agree a b → Writes kind number a old new r → Writes kind number b old other s → (r ≡ s) × (new ≡ other)
  pub due : (k : ℕ) {a b old new other : List ℕ} {r s : ℕ} → Agree a b → Dues k a old new r → Dues k b old other s → (r ≡ s) × (new ≡ other)
  pub sheet : {a b old new other : List ℕ} {r s : ℕ} → Agree a b → Pages a old new r → Pages b old other s → (r ≡ s) × (new ≡ other)
  pub nearest : {a b : List ℕ} {r s : ℕ} → Agree a b → Nears a r → Nears b s → r ≡ s
  pub sound : {a b : List ℕ} {r s : ℕ} → Agree a b → Judges a r → Judges b s → r ≡ s
