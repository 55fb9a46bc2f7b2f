-- 01's whole table: a kernel that keeps its promises is asked of areas that hold the model's states, so that it answers as the model does, and
-- the model's answers are computed. Assumes nothing.
use Prim.Native.Nat.{ℕ, ◌%◌, ◌<◌}
use native.Mathlib.Decide.{ℕ_discrete}
use native.Mathlib.Omega.{arith}
use mathlib.Core.Path.{◌≡◌, refl, ap, ◌∙◌, subst, subst⁻¹}
use mathlib.Core.Logic.{◌≢◌}
use mathlib.Core.List.{List, [], ◌∷◌, map}
use lib.ListN.{length, get_or, set, length-replicate}
use Rattle.model.specs.declared.Shape.{Shape}
use Rattle.model.specs.declared.Call.{Call}
use Rattle.model.specs.declared.Call.TheVariants.{Enter, Exit, Wait, Notify}
use Rattle.model.specs.declared.Answer.{Answer}
use Rattle.model.specs.Text.{bytes_of}
use Rattle.model.specs.Queue.{All}
use Rattle.model.specs.Field.Field.{clock, priority, timer, holder}
use Rattle.model.specs.Rules.{when, choose, nakedly, decide}
use Rattle.model.specs.Machine.{State, model, fields_of, step, start, refusal}
use Rattle.model.specs.History.{replies}
use Rattle.model.proofs.Kept.{valid_clock}
use Rattle.model.specs.Table as tables
use Rattle.model.specs.Table.{one, sample, bytes}
use Rattle.model.specs.Table.Question.{code, lines, stores}
use Rattle.area.specs.Layout.{size, slots, alter, Stored}
use Rattle.area.specs.Layout.Part.{kept}
use Rattle.area.specs.Layout.Slot.{Clock}
use Rattle.area.specs.State.{laid, write}
use Rattle.area.specs.Holds as areas
use Rattle.area.specs.Holds.{with}
use Rattle.area.specs.Reading.{shape_of, state_of}
use Rattle.area.specs.Sound.{Sound}
use Rattle.area.proofs.Stores.{store}
use Rattle.area.proofs.Puts.{placed_with, becomes_with}
use Rattle.start.specs.Start.{start_on}
use Rattle.monitor.specs.Calls.{Performs}
use Rattle.model.specs.Run.{Run}
use Rattle.model.specs.Run.Run.{none, then}
use Rattle.wire.specs.Wire.{number_of, answer_of}
use Rattle.runs.proofs.History.{Keeps, keeps_sound, keeps_state, step_keeps, run_answers, run_keeps, starts_code, start_keeps}
use Rattle.runs.proofs.Promises.{long_code}
use Rattle.kernel.specs.Exports.{Begins, Crosses}
use Rattle.kernel.proofs.Packing.{crosses, begins as conveys}
use Rattle.demands.proofs.Demands.{demand2, run_crossed}
use Rattle.script.specs.Line.{Meaning, meaning}
use Rattle.script.specs.Line.Meaning.{call, start as begins}
use Rattle.print.specs.Print.{printed}
use Rattle.serve.specs.Serve.{Serves, Played}
use Rattle.table.specs.Table.{Question, start_line, rows, zeros, Started, Comes, AllCome, must, Table}
use Rattle.table.specs.Table.Question.{typed, words, room, asked}

-- ---- the clock's word may be set to any time

module _ {n : Shape} {ws : List ℕ} {s : State model} (K : Keeps n ws s) (v : ℕ) (h : v < 65536) where
  not_priority : (p : ℕ) → clock ≢ priority p
  not_priority p e = let z : ◌≡◌ {A = ℕ} 0 1 = cc in omega arith

  not_holder : (l : ℕ) → clock ≢ holder l
  not_holder l e = let z : ◌≡◌ {A = ℕ} 0 1 = cc in omega arith

  clock_stored : Stored n ws (set ws 3 v) (alter (kept clock) v (laid n s))
  clock_stored =
      let w : get_or ws 3 0 < 65536 = rw (K.image.words Clock refl) (K.image.spans (kept clock) refl) in
      store n ws (laid n s) K.image (kept clock) v 3 refl h refl 1 65536 v (get_or ws 3 0) refl refl refl (omega arith)

  clock_keeps : Keeps n (set ws 3 v) (with clock v s)
  clock_keeps =
      let now : areas.Holds n ws s = record { placed = K.valid.placed; image = K.image } in
      record { valid = valid_clock (placed_with n s clock v K.valid.placed h not_priority) K.valid; image = (becomes_with now clock v h not_priority not_holder clock_stored).holds.image }

-- ---- areas of zeros

zeros_long : (k : ℕ) → length (zeros k) ≡ k
unfolding zeros
zeros_long k = length-replicate k 0

room_is : {n : Shape} {bs ws : List ℕ} {r : ℕ} (k : ℕ) → Begins n bs (zeros k) ws r → (answer_of r).code ≡ start_on n bs k
room_is {n} {bs} k B = starts_code (demand2.start B) ∙ ap (start_on n bs) (zeros_long k)

-- ---- what C is answered

module _ {begun : List ℕ} {r : ℕ} (B : Started begun r) where
  fits : start_on sample bytes (length (zeros (size sample))) ≡ 0
  fits = ap (start_on sample bytes) (zeros_long (size sample))

  started_is : (answer_of r ≡ (start model sample bytes).1) × (begun ≡ write sample (start model sample bytes).0 (zeros (size sample)))
  started_is = (demand2.start B).accepted fits

  started_keeps : Keeps sample begun (start model sample bytes).0
  started_keeps = start_keeps (demand2.start B) (room_is (size sample) B)

  clocked_keeps : {entered : List ℕ} {s : ℕ} (now : ℕ) → Crosses (Enter 1) begun entered s → Keeps sample (set entered 3 (now % 65536)) (tables.entered model now)
  clocked_keeps now C = clock_keeps (step_keeps started_keeps (demand2.call C)) (now % 65536) (omega arith)

-- ---- what Rehearse prints

-- a line, and the call that it is
abbrev Line : Type 0
Line = List ℕ × Call

abbrev line_of : Line → List ℕ
line_of l = l.0

abbrev call_of : Line → Call
call_of l = l.1

abbrev Means : Line → Type 0
Means l = meaning l.0 ≡ call l.1

-- the nine but the first
abbrev eight : List Line
eight =
    (bytes_of "enter 1", Enter 1)
    ∷ (bytes_of "wait 1 1 0", Wait 1 1 (record { 0 = 0 }))
    ∷ (bytes_of "enter 1", Enter 1)
    ∷ (bytes_of "notify 1", Notify 1)
    ∷ (bytes_of "enter 1", Enter 1)
    ∷ (bytes_of "exit 1", Exit 1)
    ∷ (bytes_of "exit 1", Exit 1)
    ∷ (bytes_of "enter 1", Enter 1)
    ∷ []

eight_mean : All Means eight
eight_mean = (refl, (refl, (refl, (refl, (refl, (refl, (refl, (refl, tt))))))))

served : {old new out : List ℕ} (l : Line) → Means l → Serves (meaning (line_of l)) old new out → Serves (call (call_of l)) old new out
served {old} {new} {out} l e S = subst (λ (m : Meaning). Serves m old new out) e S

-- lines that are calls make a run of these calls, and their answers are printed
played_run : (ls : List Line) → All Means ls → {ws new : List ℕ} {xs : List (List ℕ)} → Played (map line_of ls) ws new xs
    → (rs : List Answer) × Run Performs (map call_of ls) ws new rs × (xs ≡ map printed rs)
played_run [] t none = ([], none, refl)
played_run (l ∷ ls) (e, es) (then S P) =
    let v = served l e S in
    let t = played_run ls es P in
    (v.0 ∷ t.0, then v.1.0 t.1, λ i. v.1.1 i ∷ t.2 i)

room_8192 : start_on sample bytes (length (zeros 8192)) ≡ 0
room_8192 = ap (start_on sample bytes) (zeros_long 8192)

module _ {mid out : List ℕ} (S : Serves (begins sample bytes) (zeros 8192) mid out) where
  first_prints : out ≡ printed (start model sample bytes).1
  first_prints = S.1.1 ∙ ap printed (S.1.0.accepted room_8192).0

  first_keeps : Keeps sample mid (start model sample bytes).0
  first_keeps = start_keeps S.1.0 (starts_code S.1.0 ∙ room_8192)

typed_prints : {ws : List ℕ} {xs : List (List ℕ)} → Played (bytes_of start_line ∷ map line_of eight) (zeros 8192) ws xs → xs ≡ map printed ((start model sample bytes).1 ∷ replies model sample bytes tables.nine)
typed_prints (then S P) =
    let t = played_run eight eight_mean P in
    λ i. first_prints S i ∷ (t.2 ∙ ap (map printed) (run_answers (start model sample bytes).0 (first_keeps S) t.1)) i

lines_sound : {ws : List ℕ} {xs : List (List ℕ)} (ls : List Line) → All Means ls → Played (bytes_of start_line ∷ map line_of ls) (zeros 8192) ws xs → Sound ws
lines_sound ls m (then S P) = keeps_sound (run_keeps (start model sample bytes).0 (first_keeps S) (played_run ls m P).1)

-- ---- something comes of every row

begin : (n : Shape) (bs ws : List ℕ) → (new : List ℕ) × (r : ℕ) × Begins n bs ws new r
begin n bs ws = elim (ℕ_discrete (start_on n bs (length ws)) 0) [
  | yes e ↦ (write n (start model n bs).0 ws, number_of (start model n bs).1, conveys record { refused = λ d. absurd (d e); accepted = λ z. (refl, refl) } refl)
  | no e ↦ (ws, number_of (refusal (start_on n bs (length ws))), conveys record { refused = λ d. (refl, refl); accepted = λ z. absurd (e z) } refl)
]

perform : {ws : List ℕ} → Sound ws → (c : Call) → (new : List ℕ) × (a : Answer) × Performs c ws new a
perform {ws} S c =
    (write (shape_of ws) (step model (shape_of ws) (state_of ws) c).0 ws, (step model (shape_of ws) (state_of ws) c).1, record { unsound = λ h. absurd (h S); sound = λ z. (refl, refl) })

make : {ws : List ℕ} → Sound ws → (c : Call) → (new : List ℕ) × (r : ℕ) × Crosses c ws new r
make S c = let p = perform S c in (p.0, number_of p.1, crosses p.2 refl)

make_all : {n : Shape} (cs : List Call) {ws : List ℕ} {s : State model} → Keeps n ws s → (new : List ℕ) × (rs : List ℕ) × Run Crosses cs ws new rs
make_all [] {ws} K = (ws, [], none)
make_all (c ∷ cs) K =
    let m = make (keeps_sound K) c in
    let t = make_all cs (step_keeps K (demand2.call m.2)) in
    (t.0, m.1 ∷ t.1, then m.2 t.2)

play_all : {n : Shape} (ls : List Line) → All Means ls → {ws : List ℕ} {s : State model} → Keeps n ws s → (new : List ℕ) × (xs : List (List ℕ)) × Played (map line_of ls) ws new xs
play_all [] t {ws} K = (ws, [], none)
play_all (l ∷ ls) (e, es) {ws} K =
    let p = perform (keeps_sound K) (call_of l) in
    let t = play_all ls es (step_keeps K p.2) in
    (t.0, printed p.1 ∷ t.1, then (subst⁻¹ (λ (m : Meaning). Serves m ws p.0 (printed p.1)) e (p.1, (p.2, refl))) t.2)

any : (q : Question) → (xs : List (List ℕ)) × Comes q xs
any typed =
    let w = write sample (start model sample bytes).0 (zeros 8192) in
    let S : Serves (begins sample bytes) (zeros 8192) w (printed (start model sample bytes).1) = ((start model sample bytes).1, (record { refused = λ d. absurd (d room_8192); accepted = λ z. (refl, refl) }, refl)) in
    let t = play_all eight eight_mean (first_keeps S) in
    (printed (start model sample bytes).1 ∷ t.1, (t.0, then S t.2))
any words = let b = begin sample bytes (zeros (size sample)) in (b.0 ∷ [], (b.0, b.1, b.2, refl))
any (room k) = let b = begin sample bytes (zeros k) in (one (answer_of b.1).code, (b.0, b.1, b.2, refl))
any (asked (code n bs)) = let b = begin n bs (zeros (size n)) in (one (answer_of b.1).code, (b.0, b.1, b.2, refl))
any (asked (lines cs)) =
    let b = begin sample bytes (zeros (size sample)) in
    let t = make_all cs (started_keeps b.2) in
    (map fields_of (answer_of b.1 ∷ map answer_of t.1), (b.0, t.0, b.1, t.1, b.2, t.2, refl))
any (asked (stores now t)) =
    let b = begin sample bytes (zeros (size sample)) in
    let e = make (keeps_sound (started_keeps b.2)) (Enter 1) in
    let w = make (keeps_sound (clocked_keeps b.2 now e.2)) (Wait 1 1 (record { 0 = t })) in
    (one ((state_of w.0).fields (timer 2)), (b.0, e.0, w.0, b.1, e.1, w.1, b.2, e.2, w.2, refl))

all_any : (rs : List (Question × List (List ℕ))) → (xs : List (List (List ℕ))) × AllCome rs xs
all_any [] = ([], tt)
all_any (r ∷ rs) = let x = any r.0 in let xs = all_any rs in (x.0 ∷ xs.0, (x.1, xs.1))

-- ---- the table

-- what must come of a question, by the model
abbrev told : Question → List (List ℕ)
told typed = map printed ((start model sample bytes).1 ∷ replies model sample bytes tables.nine)
told words = write sample (start model sample bytes).0 (zeros (size sample)) ∷ []
told (room k) = one (start_on sample bytes k)
told (asked q) = tables.told model q

comes_told : (q : Question) (xs : List (List ℕ)) → Comes q xs → xs ≡ told q
comes_told typed xs c = typed_prints c.1
comes_told words xs c = c.3 ∙ ap (λ (ws : List ℕ). ws ∷ []) (started_is c.2).1
comes_told (room k) xs c = c.3 ∙ ap one (room_is k c.2)
comes_told (asked (code n bs)) xs c = c.3 ∙ ap one (room_is (size n) c.2 ∙ long_code n bs (size n) (omega arith))
comes_told (asked (lines cs)) xs c =
    c.6 ∙ (λ i. map fields_of ((started_is c.4).0 i ∷ run_answers (start model sample bytes).0 (started_keeps c.4) (run_crossed c.5) i))
comes_told (asked (stores now t)) xs c =
    c.9 ∙ ap {A = State model} (λ s. one (s.fields (timer 2))) (keeps_state (step_keeps (clocked_keeps c.6 now c.7) (demand2.call c.8)))

all_told : (rs : List (Question × List (List ℕ))) (xs : List (List (List ℕ))) → AllCome rs xs → xs ≡ map (λ (r : Question × List (List ℕ)). told r.0) rs
all_told [] [] c = refl
all_told [] (x ∷ xs) c = elim c [ ]
all_told (r ∷ rs) [] c = elim c [ ]
all_told (r ∷ rs) (x ∷ xs) c = λ i. comes_told r.0 x c.0 i ∷ all_told rs xs c.1 i

computed : map (λ (r : Question × List (List ℕ)). told r.0) rows ≡ must
unfolding step decide when choose nakedly write slots zeros ℕ_discrete
computed = refl

alone_comes : (xs : List (List (List ℕ))) → AllCome rows xs → xs ≡ must
alone_comes xs c = all_told rows xs c ∙ computed

pub whole_table : Table
whole_table = record {
  comes = let a = all_any rows in subst (AllCome rows) (alone_comes a.0 a.1) a.1;
  alone = λ {xs} c. alone_comes xs c;
  sound_calls = λ B R. keeps_sound (run_keeps (start model sample bytes).0 (started_keeps B) (run_crossed R));
  sound_clock = λ now B C. keeps_sound (clocked_keeps B now C);
  sound_lines = lines_sound;
}
