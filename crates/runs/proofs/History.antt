-- Demand 3 on areas, by induction on the list: an accepted Start leaves the words of a valid state, each call that meets its contract leaves
-- the words of the state that the model comes to, and the model is the ledger's (the history theorem on states). Assumes nothing.
use Prim.Native.Nat.{ℕ, ◌+◌, ◌≤◌}
use native.Mathlib.Omega.{arith}
use mathlib.Core.Path.{◌≡◌, refl, sym, ap, ◌∙◌, subst}
use mathlib.Core.Logic.{◌≢◌, ◌↔◌}
use mathlib.Core.Bool.{Bool, true, false}
use mathlib.Core.List.{List, [], ◌∷◌, map}
use lib.Dec.{eqb, ltb}
use lib.ListN.{length}
use Rattle.model.specs.declared.Shape.{Shape}
use Rattle.model.specs.declared.Call.{Call}
use Rattle.model.specs.declared.Answer.{Answer}
use Rattle.model.specs.Queue.{bit, count, first, All}
use Rattle.model.specs.Queue.Queue.{ready}
use Rattle.model.specs.Field.{Fields}
use Rattle.model.specs.Field.Field.{running}
use Rattle.model.specs.Rules.{start_code}
use Rattle.model.specs.Machine as machine
use Rattle.model.specs.Machine.{State, model, step, start, after, answers}
use Rattle.model.specs.Ledger.{ledger}
use Rattle.model.specs.History.{History, is_entry, is_leaving, tally, end, replies}
use Rattle.model.specs.Valid.{Valid}
use Rattle.model.proofs.Tests.{Case, EqCase, holds, fails, eqb_case, not_below}
use Rattle.model.proofs.Kept.{step_valid, start_valid}
use Rattle.model.proofs.History.{history}
use Rattle.area.specs.Layout.{size, Image}
use Rattle.area.specs.Layout.Part.{locked}
use Rattle.area.specs.State.{laid, write}
use Rattle.area.specs.Reading.{shape_of, parts_of, state_of}
use Rattle.area.specs.Sound.{Says, Sound}
use Rattle.area.proofs.Whole.{write_image, image_shape}
use Rattle.area.proofs.States.{laid_spans, state_read, state_says, image_sound, sound_image}
use Rattle.start.specs.Start.{start_on, Starts}
use Rattle.monitor.specs.Calls.{Performs}
use Rattle.model.specs.Run.{Run}
use Rattle.model.specs.Run.Run.{none, then}
use Rattle.runs.specs.History.{Ends, Demand3}

-- ws are the words of the valid state s
pub record Keeps (n : Shape) (ws : List ℕ) (s : State model) : Type 0 where
  pub valid : Valid n s
  pub image : Image n ws (laid n s)

-- a sound area is the words of its own state
pub own : {ws : List ℕ} → Sound ws → Keeps (shape_of ws) ws (state_of ws)
own {ws} S = record { valid = S.valid; image = sound_image ws S }

-- the words of a valid state, written over any area that is long enough
pub written : (n : Shape) (old : List ℕ) (s : State model) → Valid n s → size n ≤ length old → Keeps n (write n s old) s
written n old s v h = record { valid = v; image = write_image n old s v.placed.counts h (laid_spans n s v.placed) }

module _ {n : Shape} {ws : List ℕ} {s : State model} (K : Keeps n ws s) where
  pub keeps_sound : Sound ws
  keeps_sound = image_sound n ws s K.valid K.image

  pub keeps_shape : shape_of ws ≡ n
  keeps_shape = image_shape n ws (laid n s) K.image

  pub keeps_state : state_of ws ≡ s
  keeps_state = state_read n ws s K.valid.placed K.image

  pub keeps_says : Says n s ws
  keeps_says = state_says n ws s K.valid K.image

  -- one call
  module _ {c : Call} {new : List ℕ} {a : Answer} (P : Performs c ws new a) where
    pub step_answer : a ≡ (step model n s c).1
    step_answer = (P.sound keeps_sound).0 ∙ ap {A = State model} (λ t. (step model (shape_of ws) t c).1) keeps_state ∙ ap {A = Shape} (λ m. (step model m s c).1) keeps_shape

    step_words : new ≡ write n (step model n s c).0 ws
    step_words =
        (P.sound keeps_sound).1
        ∙ ap {A = State model} (λ t. write (shape_of ws) (step model (shape_of ws) t c).0 ws) keeps_state
        ∙ ap {A = Shape} (λ m. write m (step model m s c).0 ws) keeps_shape

    pub step_keeps : Keeps n new (step model n s c).0
    step_keeps = rw step_words (written n ws (step model n s c).0 (step_valid n s c K.valid) K.image.long)

-- ---- a list of calls

pub run_answers : {n : Shape} {cs : List Call} {old new : List ℕ} {rs : List Answer} (s : State model) → Keeps n old s → Run Performs cs old new rs → rs ≡ answers model n s cs
run_answers s K none = refl
run_answers {n} s K (then {c} P R) = λ i. step_answer K P i ∷ run_answers (step model n s c).0 (step_keeps K P) R i

pub run_keeps : {n : Shape} {cs : List Call} {old new : List ℕ} {rs : List Answer} (s : State model) → Keeps n old s → Run Performs cs old new rs → Keeps n new (after model n s cs)
run_keeps s K none = K
run_keeps {n} s K (then {c} P R) = run_keeps (step model n s c).0 (step_keeps K P) R

-- ---- Start

-- an accepted Start has an accepted code and a long enough area
pub start_accepted : (n : Shape) (bytes : List ℕ) (words : ℕ) → start_on n bytes words ≡ 0 → (start_code n bytes ≡ 0) × (size n ≤ words)
start_accepted n bytes words e = go (eqb_case (start_code n bytes) 0) (ltb words (size n)) refl
  where
    go : Case (start_code n bytes ≡ 0) (start_code n bytes ≢ 0) (eqb (start_code n bytes) 0) → (b : Bool) → ltb words (size n) ≡ b → (start_code n bytes ≡ 0) × (size n ≤ words)
    go (fails d z) b k = let w : start_code n bytes ≡ 0 = rw z at e in absurd (d w)
    go (holds d z) false k = (d, not_below words (size n) k)
    go (holds d z) true k = let w : ◌≡◌ {A = ℕ} 5 0 = rw (z, k) at e in let y : ⊥ = omega arith in absurd y

-- its answer has its code
pub starts_code : {n : Shape} {bytes old new : List ℕ} {a : Answer} → Starts n bytes old new a → a.code ≡ start_on n bytes (length old)
starts_code {n} {bytes} {old} {new} {a} S = go (eqb_case (start_on n bytes (length old)) 0)
  where
    go : EqCase (start_on n bytes (length old)) 0 → a.code ≡ start_on n bytes (length old)
    go (holds d e) = ap {A = Answer} (λ b. b.code) (S.accepted d).0 ∙ sym d
    go (fails d e) = ap {A = Answer} (λ b. b.code) (S.refused d).0

module _ {n : Shape} {bytes old begun : List ℕ} {a : Answer} (S : Starts n bytes old begun a) (z : a.code ≡ 0) where
  start_passes : start_on n bytes (length old) ≡ 0
  start_passes = sym (starts_code S) ∙ z

  fair : (start_code n bytes ≡ 0) × (size n ≤ length old)
  fair = start_accepted n bytes (length old) start_passes

  pub start_keeps : Keeps n begun (start model n bytes).0
  start_keeps = rw (S.accepted start_passes).1 (written n old (start model n bytes).0 (start_valid n bytes fair.0) fair.1)

  -- ---- demand 3

  module _ {new : List ℕ} {cs : List Call} {rs : List Answer} (R : Run Performs cs begun new rs) where
    H : History n bytes cs
    H = history n bytes cs fair.0

    K : Keeps n new (end model n bytes cs)
    K = run_keeps (start model n bytes).0 start_keeps R

    told : rs ≡ replies ledger n bytes cs
    told = run_answers (start model n bytes).0 start_keeps R ∙ H.same_replies

    locks_are : (l : ℕ) → parts_of n new (locked l) ≡ bit (machine.locked (end ledger n bytes cs).fields l)
    locks_are l = (keeps_says K).locks l ∙ ap bit (H.same_locked l)

    entries_are : (l : ℕ) → tally (is_entry l) cs rs ≡ tally (is_leaving l) cs rs + parts_of n new (locked l)
    entries_are l = rw (told, locks_are l) (H.entries l)

    pub run_ends : Ends n bytes a cs rs new
    run_ends = record {
      never_unsound = subst (λ (bs : List Answer). All (λ (b : Answer). b.code ≢ 1) bs) (sym told) H.never_unsound;
      sound = keeps_sound K;
      counts = keeps_shape K;
      begins = (S.accepted start_passes).0 ∙ H.same_start;
      answers = told;
      queues = λ q. ap {A = State model} (λ t. t.queues q) (keeps_state K) ∙ H.same_queues q;
      fields = λ f. ap {A = State model} (λ t. t.fields f) (keeps_state K) ∙ ap (λ (g : Fields). g f) H.same_fields;
      locks = λ l. locks_are l;
      waits = λ p. (keeps_says K).waits p ∙ ap bit (H.same_waiting p);
      one_queue = λ p i. let o = H.one_queue p i in (o.0, o.1, λ q. ap {A = State model} (λ t. count p (t.queues q)) (keeps_state K) ∙ o.2 q);
      as_noted = λ p q. ap {A = State model} (λ t. count p (t.queues q)) (keeps_state K) ∙ H.as_noted p q;
      running_first = subst (λ (t : State model). t.fields running ≡ first (t.queues ready)) (sym (keeps_state K)) H.running_first;
      running_none = subst (λ (t : State model). (t.fields running ≡ 0) ↔ (t.queues ready ≡ [])) (sym (keeps_state K)) H.running_none;
      entries = λ l. entries_are l;
    }

as_they_are : (rs : List Answer) → rs ≡ map (λ (a : Answer). a) rs
as_they_are [] = refl
as_they_are (a ∷ rs) = ap (λ (l : List Answer). a ∷ l) (as_they_are rs)

pub demand3 : Demand3 (λ (a : Answer). a) Starts Performs
demand3 = record { ends = λ {n} {bytes} {old} {begun} {new} {a} {cs} {rs} S z R. subst (λ (l : List Answer). Ends n bytes a cs l new) (as_they_are rs) (run_ends S z R) }
