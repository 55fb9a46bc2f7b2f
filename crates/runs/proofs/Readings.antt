-- What follows from the promise of a read alone, for List, who is due, the yard sheet and who is the nearest. What a read tells is one list of numbers,
-- its fields and then its buffer, which a sound area's state determines: so a refusal spares the buffer, areas that agree below their size are
-- told alike, and each field has the bits that it crosses in. For a read into a buffer these are laws of what its promise says of each state
-- (`Determined`). Assumes nothing.
use Prim.Native.Nat.{ℕ, ◌^◌, ◌≤◌, ◌<◌}
use native.Mathlib.Omega.{arith}
use mathlib.Core.Path.{◌≡◌, refl, sym, ap, ◌∙◌}
use mathlib.Core.Logic.{◌≢◌}
use mathlib.Core.Bool.{Bool, true, false, cond}
use mathlib.Core.List.{List, [], ◌∷◌, ◌++◌}
use lib.Dec.{ltb}
use lib.ListN.{length, get_or, take, drop}
use borrow.Author.Tests.{ltb-true, ltb-false}
use Rattle.model.specs.declared.Shape.{Shape}
use Rattle.model.specs.declared.Report.{Report}
use Rattle.model.specs.Queue.{queue_by, is_queue, All}
use Rattle.model.specs.Machine.{State, model}
use Rattle.model.specs.Timers.{Entry, due_within, first_entry, nearest}
use Rattle.model.specs.Reports.{Refused, Reports}
use Rattle.model.proofs.Tests.{inside_bounds, settle}
use Rattle.model.proofs.Lists.{lists?}
use Rattle.model.proofs.Places.{queue_length}
use Rattle.model.proofs.Ticking.{left_most, Exact, due_exact}
use Rattle.area.specs.Reading.{shape_of, state_of, Agree}
use Rattle.area.specs.Sound.{Sound}
use Rattle.area.proofs.Whole.{counts_in}
use Rattle.area.proofs.Agreeing.{shape_same, state_same, sound_same}
use Rattle.queues.specs.Listing.{Lists}
use Rattle.sheet.specs.Sheet.{page, Sheets}
use Rattle.sheet.proofs.Rows.{page_length}
use Rattle.timers.specs.declared.Earliest.{Earliest}
use Rattle.timers.specs.Telling.{in_words, Tells, nearest_in}
use Rattle.timers.proofs.Dues.{count_all, due_few}
use Rattle.reads.specs.Reads.{ReadsOn, ListsOn, TellsOn, SheetsOn, NearestOn}
use Rattle.wire.specs.Wire.{report_fields, nearest_fields}
use Rattle.wire.proofs.Wire.{Fit, report_from, earliest_from}
use Rattle.runs.proofs.Promises.{unsound_same, fit?}

-- ---- how much is told

-- no more processes than there are
due_length : (n : Shape) (s : State model) (k : ℕ) → length (due_within n s k) ≤ n.processes
due_length n s k = omega (arith, count_all n s k, due_few k n s)

-- the nearest is a process or 0, with at most a full round left
nearest_told : (n : Shape) (s : State model) → ((nearest n s).0 ≤ n.processes) × ((nearest n s).1 ≤ 65536)
nearest_told n s = first (due_within n s 65536) (due_exact n s 65536)
  where
    first : (es : List Entry) → All (Exact n s) es → ((first_entry es).0 ≤ n.processes) × ((first_entry es).1 ≤ 65536)
    first [] h = (omega arith, omega arith)
    first (e ∷ es) h = let i = inside_bounds n.processes e.0 h.0.0 in (i.1, omega (arith, h.0.1, left_most n s e.0))

-- ---- any read

-- an unsound area is told `no`, and a sound one what f says of its state
record Reads (no : List ℕ) (f : Shape → State model → List ℕ) (ws xs : List ℕ) : Type 0 where
  unsound : (Sound ws → ⊥) → xs ≡ no
  sound : Sound ws → xs ≡ f (shape_of ws) (state_of ws)

module _ {no : List ℕ} {f : Shape → State model → List ℕ} where
  -- areas that agree below their size are told alike
  alike : {a b xs ys : List ℕ} → Agree a b → Reads no f a xs → Reads no f b ys → xs ≡ ys
  alike {xs = xs} {ys = ys} A P Q =
      settle (lists? xs ys)
      (λ S. P.sound S ∙ (λ i. f (shape_same A i) (state_same A i)) ∙ sym (Q.sound (sound_same A S)))
      (λ u. P.unsound u ∙ sym (Q.unsound (unsound_same A u)))

  -- the first m fields have w bits where they have them in both cases
  fits : (w m : ℕ) {ws xs : List ℕ} → Reads no f ws xs → Fit w (take m no) → (Sound ws → Fit w (take m (f (shape_of ws) (state_of ws)))) → Fit w (take m xs)
  fits w m {xs = xs} R h k = settle (fit? w (take m xs)) (λ S. rw (R.sound S) (k S)) (λ u. rw (R.unsound u) h)

-- a refusal is a code, and then what every refusal tells
abbrev Spared : List ℕ → List ℕ → Type 0
Spared rest xs = get_or xs 0 0 ≢ 0 → drop 1 xs ≡ rest

-- a refusal spares the buffer where it does so of every state
spares : {f : Shape → State model → List ℕ} {rest ws xs : List ℕ} → Reads (1 ∷ rest) f ws xs → ((n : Shape) (s : State model) → Spared rest (f n s)) → Spared rest xs
spares {rest = rest} {ws} {xs} R k h =
    settle (lists? (drop 1 xs) rest)
    (λ S. ap (drop 1) (R.sound S) ∙ k (shape_of ws) (state_of ws) (λ z. h (ap (λ (l : List ℕ). get_or l 0 0) (R.sound S) ∙ z)))
    (λ u. ap (drop 1) (R.unsound u))

-- ---- a read into a buffer: code and count, and then the buffer

-- what holds of both holds of either
either : {A : Type 0} (P : A → Type 0) (b : Bool) (x y : A) → P x → P y → P (cond b x y)
either P true x y h k = h
either P false x y h k = k

-- what is to be told: a refusal by k, or xs, m of them by the count
pub data Outcome : Type 0 where
  refuse : (k : ℕ) → Outcome
  tell : (m : ℕ) (xs : List ℕ) → Outcome

-- xs are too long for the buffer, or they stand at its front
abbrev pub into : List ℕ → Outcome → List ℕ
into old (refuse k) = k ∷ 0 ∷ old
into old (tell m xs) = cond (ltb (length old) (length xs)) (5 ∷ 0 ∷ old) (0 ∷ m ∷ (xs ++ drop (length xs) old))

-- a refusal spares the buffer
into_spares : (old : List ℕ) (o : Outcome) → Spared (0 ∷ old) (into old o)
into_spares old (refuse k) = λ h. refl
into_spares old (tell m xs) = either (Spared (0 ∷ old)) (ltb (length old) (length xs)) (5 ∷ 0 ∷ old) (0 ∷ m ∷ (xs ++ drop (length xs) old)) (λ h. refl) (λ h. absurd (h refl))

-- its code, or the count, has w bits
abbrev Slim : ℕ → Outcome → Type 0
Slim w (refuse k) = k < 2 ^ w
Slim w (tell m xs) = m < 2 ^ w

-- code and count have w bits
abbrev Counted : ℕ → List ℕ → Type 0
Counted w xs = Fit w (take 2 xs)

into_counted : (w : ℕ) (old : List ℕ) (o : Outcome) → 5 < 2 ^ w → Slim w o → Counted w (into old o)
into_counted w old (refuse k) h l = (l, (omega arith, tt))
into_counted w old (tell m xs) h l = either (Counted w) (ltb (length old) (length xs)) (5 ∷ 0 ∷ old) (0 ∷ m ∷ (xs ++ drop (length xs) old)) (h, (omega arith, tt)) (omega arith, (l, tt))

-- what a refusal and a report say, as one list of numbers
module _ {old new : List ℕ} {r : Report} where
  refused_said : {k : ℕ} → Refused old new r k → r.code ∷ r.count ∷ new ≡ into old (refuse k)
  refused_said u = λ i. u.code i ∷ u.count i ∷ u.buffer i

  pub reports_said : (m : ℕ) (xs : List ℕ) → Reports m xs old new r → r.code ∷ r.count ∷ new ≡ into old (tell m xs)
  reports_said m xs R = go (ltb (length old) (length xs)) refl
    where
      go : (b : Bool) → ltb (length old) (length xs) ≡ b → r.code ∷ r.count ∷ new ≡ cond b (5 ∷ 0 ∷ old) (0 ∷ m ∷ (xs ++ drop (length xs) old))
      go true e = refused_said (R.short (ltb-true (length old) (length xs) e))
      go false e = let u = R.whole (ltb-false (length old) (length xs) e) in λ i. u.code i ∷ u.count i ∷ u.buffer i

-- a promise of which the state determines all: it says the state's outcome
pub record Determined (told : Shape → State model → List ℕ → List ℕ → Report → Type 0) : Type 0 where
  pub outcome : Shape → State model → Outcome
  pub said : (n : Shape) (s : State model) {old new : List ℕ} {r : Report} → told n s old new r → r.code ∷ r.count ∷ new ≡ into old (outcome n s)

-- such is one that only reports
abbrev pub reports_determined : (m : Shape → State model → ℕ) (xs : Shape → State model → List ℕ) → Determined (λ n s. Reports (m n s) (xs n s))
reports_determined m xs = record { outcome = λ n s. tell (m n s) (xs n s); said = λ n s R. reports_said (m n s) (xs n s) R }

module _ {told : Shape → State model → List ℕ → List ℕ → Report → Type 0} (D : Determined told) where
  reads_read : {ws old new : List ℕ} {r : Report} → ReadsOn told ws old new r → Reads (1 ∷ 0 ∷ old) (λ n s. into old (D.outcome n s)) ws (r.code ∷ r.count ∷ new)
  reads_read {ws} R = record { unsound = λ h. refused_said (R.unsound h); sound = λ S. D.said (shape_of ws) (state_of ws) (R.sound S) }

  -- a refusal spares the buffer
  pub reads_spares : {ws old new : List ℕ} {r : Report} → ReadsOn told ws old new r → r.code ≢ 0 → Refused old new r r.code
  reads_spares {old = old} R h =
      let e = spares (reads_read R) (λ n s. into_spares old (D.outcome n s)) h in
      record { code = refl; count = ap (λ (x : List ℕ). get_or x 0 0) e; buffer = ap (drop 1) e }

  -- areas that agree below their size are told alike
  pub reads_alike : {a b old new other : List ℕ} {x y : Report} → Agree a b → ReadsOn told a old new x → ReadsOn told b old other y → (x ≡ y) × (new ≡ other)
  reads_alike A P Q = let e = alike A (reads_read P) (reads_read Q) in (ap report_from e, ap (drop 2) e)

  -- code and count have w bits where each state's have
  reads_fits : (w : ℕ) {ws old new : List ℕ} {r : Report} → 5 < 2 ^ w → (Sound ws → Slim w (D.outcome (shape_of ws) (state_of ws))) → ReadsOn told ws old new r → Fit w (report_fields r)
  reads_fits w {ws} {old} h k R = fits w 2 (reads_read R) (omega arith, (omega arith, tt)) (λ S. into_counted w old (D.outcome (shape_of ws) (state_of ws)) h (k S))

-- ---- List

-- a queue, and of no such queue nothing
abbrev listing : ℕ → ℕ → Shape → State model → Outcome
listing kind number n s = cond (is_queue n kind number) (tell (length (s.queues (queue_by kind number))) (s.queues (queue_by kind number))) (refuse 7)

pub lists_said : (kind number : ℕ) (n : Shape) (s : State model) {old new : List ℕ} {r : Report} → Lists kind number n s old new r → r.code ∷ r.count ∷ new ≡ into old (listing kind number n s)
lists_said kind number n s {old} {new} {r} L = go (is_queue n kind number) refl
  where
    q : List ℕ
    q = s.queues (queue_by kind number)

    go : (b : Bool) → is_queue n kind number ≡ b → r.code ∷ r.count ∷ new ≡ into old (cond b (tell (length q) q) (refuse 7))
    go true e = reports_said (length q) q (L.found e)
    go false e = refused_said (L.missing e)

abbrev pub lists_determined : (kind number : ℕ) → Determined (Lists kind number)
lists_determined kind number = record { outcome = listing kind number; said = lists_said kind number }

-- ten bits: a queue has no more members than there are processes
pub lists_fits : {kind number : ℕ} {ws old new : List ℕ} {r : Report} → ListsOn kind number ws old new r → Fit 10 (report_fields r)
lists_fits {kind} {number} {ws} = reads_fits (lists_determined kind number) 10 (omega arith) slim
  where
    slim : Sound ws → Slim 10 (listing kind number (shape_of ws) (state_of ws))
    slim S =
        let q = (state_of ws).queues (queue_by kind number) in
        let c = counts_in (shape_of ws) S.valid.placed.counts in
        let m = queue_length (shape_of ws).processes (state_of ws).queues S.valid.placed.place S.valid.placed.once (queue_by kind number) in
        either (Slim 10) (is_queue (shape_of ws) kind number) (tell (length q) q) (refuse 7) (omega arith) (omega arith)

-- ---- who is due

abbrev pub tells_determined : (k : ℕ) → Determined (Tells k)
tells_determined k = reports_determined (λ n s. length (due_within n s k)) (λ n s. in_words (due_within n s k))

-- twenty bits: nobody is told twice
pub tells_fits : (k : ℕ) {ws old new : List ℕ} {r : Report} → TellsOn k ws old new r → Fit 20 (report_fields r)
tells_fits k {ws} = reads_fits (tells_determined k) 20 (omega arith) (λ S. omega (arith, (counts_in (shape_of ws) S.valid.placed.counts).processes, due_length (shape_of ws) (state_of ws) k))

-- ---- the yard sheet

abbrev pub sheets_determined : Determined Sheets
sheets_determined = reports_determined (λ n s. length (page n s)) page

-- twenty bits: a page has 29 bytes for each of at most 519 queues
pub sheets_fits : {ws old new : List ℕ} {r : Report} → SheetsOn ws old new r → Fit 20 (report_fields r)
sheets_fits {ws} = reads_fits sheets_determined 20 (omega arith) (λ S. let c = counts_in (shape_of ws) S.valid.placed.counts in omega (arith, page_length (shape_of ws) (state_of ws)))

-- ---- who is the nearest

module _ {ws : List ℕ} {a : Earliest} (N : NearestOn ws a) where
  -- what is told, as one list of numbers
  nearest_read : Reads (1 ∷ 0 ∷ 0 ∷ []) (λ n s. nearest_fields (nearest_in n s)) ws (nearest_fields a)
  nearest_read = record { unsound = λ h. ap nearest_fields (N.unsound h); sound = λ S. ap nearest_fields (N.sound S) }

  -- a refusal tells nobody
  pub nearest_spares : a.code ≢ 0 → a ≡ record { code = a.code; process = 0; left = 0 }
  nearest_spares h = let e = spares nearest_read (λ n s z. absurd (z refl)) h in λ i. record { code = a.code; process = get_or (e i) 0 0; left = get_or (e i) 1 0 }

  -- code, process and ticks left have twenty bits: nobody has more left than a full round
  pub nearest_fits : Fit 20 (nearest_fields a)
  nearest_fits = fits 20 3 nearest_read (omega arith, (omega arith, (omega arith, tt))) go
    where
      go : Sound ws → Fit 20 (nearest_fields (nearest_in (shape_of ws) (state_of ws)))
      go S =
          let c = counts_in (shape_of ws) S.valid.placed.counts in
          let m = nearest_told (shape_of ws) (state_of ws) in
          (omega arith, (omega arith, (omega arith, tt)))

-- areas that agree below their size have one nearest
pub nearest_alike : {a b : List ℕ} {x y : Earliest} → Agree a b → NearestOn a x → NearestOn b y → x ≡ y
nearest_alike A P Q = ap earliest_from (alike A (nearest_read P) (nearest_read Q))
