-- The demands hold: an export's number reads back as an answer that keeps the promise, and what follows from the promise follows for the
-- export. Assumes nothing.
use Prim.Native.Nat.{ℕ}
use native.Mathlib.Omega.{arith}
use native.Mathlib.Decide.{ℕ_discrete}
use mathlib.Core.Path.{◌≡◌, sym, ap, ◌∙◌, subst}
use mathlib.Core.List.{List, map}
use Rattle.model.specs.declared.Shape.{Shape}
use Rattle.model.specs.declared.Call.{Call}
use Rattle.model.specs.declared.Answer.{Answer}
use Rattle.area.specs.Reading.{Agree}
use Rattle.area.specs.Sound.{Sound}
use Rattle.area.proofs.Agreeing.{agree_back, sound_same}
use Rattle.start.specs.Start.{Starts}
use Rattle.monitor.specs.Calls.{Performs}
use Rattle.reads.specs.Reads.{ListsOn, TellsOn, SheetsOn, NearestOn}
use Rattle.wire.specs.Wire.{packed, answer_of, report_of, nearest_of}
use Rattle.model.specs.Run.{Run}
use Rattle.model.specs.Run.Run.{none, then}
use Rattle.runs.proofs.History.{run_ends}
use Rattle.runs.proofs.Turns.{all_turns}
use Rattle.wire.proofs.Wire.{read_answer, read_report, read_nearest}
use Rattle.runs.proofs.Promises.{performs_spares, starts_spares, performs_keeps, starts_keeps, performs_alike, starts_alike}
use Rattle.runs.proofs.Readings.{reads_spares, reads_alike, lists_determined, tells_determined, sheets_determined, nearest_spares, nearest_alike}
use Rattle.kernel.specs.Exports.{Conveys, Crosses, Begins, Writes, Dues, Pages, Nears, Judges}
use Rattle.demands.specs.Demands.{Demand1, Demand2, Demand3, Turns, Beyond}

-- ---- what is read back keeps the promise

-- whatever answer it is
kept : {A : Type 0} {w : ℕ} {fields : A → List ℕ} {P : A → Type 0} {r : ℕ} (C : Conveys w fields P r) {a : A} → C.answer ≡ a → P a
kept {P = P} C e = subst P e C.keeps

crossed : {c : Call} {old new : List ℕ} {r : ℕ} → Crosses c old new r → Performs c old new (answer_of r)
crossed C = kept C (read_answer C.carries)

begun : {n : Shape} {bytes old new : List ℕ} {r : ℕ} → Begins n bytes old new r → Starts n bytes old new (answer_of r)
begun C = kept C (read_answer C.carries)

listed : {kind number : ℕ} {ws old new : List ℕ} {r : ℕ} → Writes kind number ws old new r → ListsOn kind number ws old new (report_of 10 r)
listed C = kept C (read_report 10 C.carries)

told : (k : ℕ) {ws old new : List ℕ} {r : ℕ} → Dues k ws old new r → TellsOn k ws old new (report_of 20 r)
told k C = kept C (read_report 20 C.carries)

sheeted : {ws old new : List ℕ} {r : ℕ} → Pages ws old new r → SheetsOn ws old new (report_of 20 r)
sheeted C = kept C (read_report 20 C.carries)

neared : {ws : List ℕ} {r : ℕ} → Nears ws r → NearestOn ws (nearest_of r)
neared C = kept C (read_nearest C.carries)

-- numbers of the same answer are the same
same_number : {A : Type 0} {w : ℕ} {fields : A → List ℕ} {P Q : A → Type 0} {r s : ℕ} (C : Conveys w fields P r) (D : Conveys w fields Q s) → C.answer ≡ D.answer → r ≡ s
same_number {w = w} {fields = fields} C D e = C.carries.number ∙ ap (λ a. packed w (fields a)) e ∙ sym D.carries.number

not_sound : {ws : List ℕ} {r : ℕ} → Judges ws r → (Sound ws → ⊥) → r ≡ 0
not_sound {r = r} J u = elim (ℕ_discrete r 1) [
  | yes e ↦ absurd (u (J.says.0 e))
  | no n ↦ let b = J.bit in omega arith
]

-- ---- the demands

pub demand1 : Demand1
demand1 = record {
  unsound_call = λ C u. (crossed C).unsound u;
  unsound_list = λ W u. (listed W).unsound u;
  unsound_due = λ k D u. (told k D).unsound u;
  unsound_sheet = λ P u. (sheeted P).unsound u;
  unsound_nearest = λ N u. (neared N).unsound u;
  unsound_sound = not_sound;
  overwrites = λ B D la lb. let s = starts_alike la lb B.keeps D.keeps in (same_number B D s.0, λ z. s.1 (ap {A = Answer} (λ a. a.code) (read_answer B.carries) ∙ z));
  refused_call = λ C. performs_spares (crossed C);
  refused_start = λ B. starts_spares (begun B);
  refused_list = λ W. reads_spares (lists_determined _ _) (listed W);
  refused_due = λ k D. reads_spares (tells_determined k) (told k D);
  refused_sheet = λ P. reads_spares sheets_determined (sheeted P);
  refused_nearest = λ N. nearest_spares (neared N);
}

pub demand2 : Demand2
demand2 = record { call = crossed; start = begun; list = listed; due = told; sheet = sheeted; nearest = neared; sound = λ J. J.says }

pub run_crossed : {cs : List Call} {old new : List ℕ} {rs : List ℕ} → Run Crosses cs old new rs → Run Performs cs old new (map answer_of rs)
run_crossed none = none
run_crossed (then C R) = then (crossed C) (run_crossed R)

pub demand3 : Demand3
demand3 = record { ends = λ B z R. run_ends (begun B) z (run_crossed R) }

pub turns : Turns
turns = all_turns answer_of (λ c old new r C. crossed C)

judged_alike : {a b : List ℕ} {r s : ℕ} → Agree a b → Judges a r → Judges b s → r ≡ s
judged_alike {a} {b} {r} {s} A J K = elim (ℕ_discrete r 1) [
  | yes e ↦ e ∙ sym (K.says.1 (sound_same A (J.says.0 e)))
  | no n ↦ let z : r ≡ 0 = not_one J n in z ∙ sym (not_sound K (λ S. n (J.says.1 (sound_same (agree_back A) S))))
]
  where
    not_one : {ws : List ℕ} {k : ℕ} → Judges ws k → (k ≡ 1 → ⊥) → k ≡ 0
    not_one L n = let b = L.bit in omega arith

pub beyond : Beyond
beyond = record {
  kept_call = λ C. performs_keeps C.keeps;
  kept_start = λ B. starts_keeps B.keeps;
  call = λ A C D. let p = performs_alike A C.keeps D.keeps in (same_number C D p.0, p.1);
  list = λ A C D. let p = reads_alike (lists_determined _ _) A C.keeps D.keeps in (same_number C D p.0, p.1);
  due = λ k A C D. let p = reads_alike (tells_determined k) A C.keeps D.keeps in (same_number C D p.0, p.1);
  sheet = λ A C D. let p = reads_alike sheets_determined A C.keeps D.keeps in (same_number C D p.0, p.1);
  nearest = λ A C D. same_number C D (nearest_alike A C.keeps D.keeps);
  sound = judged_alike;
}
