-- Start's codes and words: cleared, and with the counts written, the words are those of the fresh fields with nobody in a queue; when the area has
-- lined everybody up they are the ones that the started state prescribes. Assumes nothing.
use Prim.Native.Nat.{ℕ, zero, suc, ◌+◌, ◌*◌, ◌≤◌, ◌<◌}
use native.Mathlib.Omega.{arith}
use mathlib.Core.Path.{◌≡◌, refl, sym, ap, ◌∙◌, subst}
use mathlib.Core.Bool.{true, false, ◌||◌}
use mathlib.Core.Logic.{◌≢◌}
use mathlib.Core.List.{List, [], ◌∷◌, ◌++◌}
use lib.Dec.{ltb}
use lib.ListN.{length, get_or, drop, take, set, replicate, length-set, length-append, length-drop, get_or-append}
use lib.Seq.{get_or-set_same, get_or-set_other, drop-set-lt, length-take-le}
use borrow.Author.Tests.{lt-ltb, le-ltb, eq-eqb, ne_eqb}
use Rattle.std.specs.List.{list_any}
use Rattle.std.proofs.lemmas.List.{length-replicate, get_or-replicate, drop_at}
use Rattle.model.specs.declared.Shape.{Shape}
use Rattle.model.specs.declared.Answer.{Answer}
use Rattle.model.specs.Queue.{Queue}
use Rattle.model.specs.Queue.Queue.{ready, park, lock, condition}
use Rattle.model.specs.Field.{Field}
use Rattle.model.specs.Field.Field.{clock, running, priority, armed, timer, failed, abort, holder, wakeup, abortable}
use Rattle.model.specs.Rules.{counted, any_above, start_code, fresh}
use Rattle.model.specs.Machine.{model, start, refusal}
use Rattle.model.proofs.Places.{any_none}
use Rattle.area.specs.Layout.{Part, Parts, Slot, word, span, size, at, has, Stored}
use Rattle.area.specs.Layout.Part.{kept, tail, next, locked, waiting}
use Rattle.area.specs.Layout.Slot.{Processes, LocksConditions, Parks, Clock, Running, Tail, Holder, Link, Flags, Timer}
use Rattle.area.specs.State.{queues, next_in, laid}
use Rattle.area.specs.Holds.{Becomes, Gives}
use Rattle.start.specs.Start.{lined, start_on, Starts}
use Rattle.area.proofs.Addresses.{at_below}
use Rattle.area.proofs.Stores.{image_ext}
use Rattle.area.proofs.Whole.{stored_write}

-- ---- codes

-- the rule's search for a priority is the library's
pub any_is : (m : ℕ) (bytes : List ℕ) → list_any (ltb m) bytes ≡ any_above m bytes
any_is m [] = refl
any_is m (x ∷ xs) = ap (λ b. ltb m x || b) (any_is m xs)

module _ (n : Shape) (bytes : List ℕ) where
  pub code_counts : counted n ≡ false → 2 ≡ start_code n bytes
  code_counts e = rw e

  pub code_list : counted n ≡ true → length bytes ≢ n.processes → 3 ≡ start_code n bytes
  code_list e h = rw (e, ne_eqb (length bytes) n.processes h)

  pub code_priority : counted n ≡ true → length bytes ≡ n.processes → any_above 7 bytes ≡ true → 4 ≡ start_code n bytes
  code_priority e h a = rw (e, eq-eqb (length bytes) n.processes h, a)

  pub code_none : counted n ≡ true → length bytes ≡ n.processes → any_above 7 bytes ≡ false → 0 ≡ start_code n bytes
  code_none e h a = rw (e, eq-eqb (length bytes) n.processes h, a)

-- ---- nobody in a queue

next_none : (rs : List Queue) (p : ℕ) → next_in (λ q. []) rs p ≡ 0
next_none [] p = refl
next_none (r ∷ rs) p = next_none rs p

fresh_none : (f : Field) → fresh [] f ≡ 0
fresh_none clock = refl
fresh_none running = refl
fresh_none (priority zero) = refl
fresh_none (priority (suc p)) = refl
fresh_none (armed p) = refl
fresh_none (timer p) = refl
fresh_none (failed p) = refl
fresh_none (abort p) = refl
fresh_none (holder l) = refl
fresh_none (wakeup c) = refl
fresh_none (abortable c) = refl

laid_none : (n : Shape) (f : Part) → 0 ≡ laid n (lined [] 0) f
laid_none n (kept f) = sym (fresh_none f)
laid_none n (tail q) = refl
laid_none n (next p) = sym (next_none (queues n) p)
laid_none n (locked l) = refl
laid_none n (waiting p) = rw (any_none n.conditions (λ c. false) (λ c. refl))

span_some : (f : Part) → 0 < span f
span_some (kept clock) = omega arith
span_some (kept running) = omega arith
span_some (kept (priority p)) = omega arith
span_some (kept (armed p)) = omega arith
span_some (kept (timer p)) = omega arith
span_some (kept (failed p)) = omega arith
span_some (kept (abort p)) = omega arith
span_some (kept (holder l)) = omega arith
span_some (kept (wakeup c)) = omega arith
span_some (kept (abortable c)) = omega arith
span_some (tail q) = omega arith
span_some (next p) = omega arith
span_some (locked l) = omega arith
span_some (waiting p) = omega arith

-- the three words of the counts in an area whose first words are filled with 0
module _ (n : Shape) (old zeros : List ℕ) (words : ℕ) (counts : counted n ≡ true) (fits : size n ≤ length old) (whole : words ≡ size n)
    (filled : zeros ≡ replicate (length (take words old)) 0) where
  abbrev ws : List ℕ
  ws = zeros ++ drop words old

  zeros_long : length zeros ≡ words
  zeros_long = ap length filled ∙ length-replicate (length (take words old)) 0 ∙ length-take-le words old (omega arith)

  long : size n ≤ length ws
  long = simp (length-append, length-drop) (omega (arith, zeros_long))

  zero_at : (i : ℕ) → i < words → get_or ws i 0 ≡ 0
  zero_at i h =
      get_or-append zeros (drop words old) 0 i (omega (arith, zeros_long)) ∙ ap (λ (xs : List ℕ). get_or xs i 0) filled
      ∙ get_or-replicate (length (take words old)) i 0 0 (omega (arith, length-take-le words old (omega arith)))

  abbrev counted_out : List ℕ
  counted_out = set (set (set ws 0 n.processes) 1 (n.locks * 256 + n.conditions)) 2 (n.parks * 4096)

  apart : (i : ℕ) → 3 ≤ i → get_or counted_out i 0 ≡ get_or ws i 0
  apart i h =
      get_or-set_other (set (set ws 0 n.processes) 1 (n.locks * 256 + n.conditions)) 2 i (n.parks * 4096) 0 (omega arith)
      ∙ get_or-set_other (set ws 0 n.processes) 1 i (n.locks * 256 + n.conditions) 0 (omega arith) ∙ get_or-set_other ws 0 i n.processes 0 (omega arith)

  none_at : (s : Slot) → has n s ≡ true → 3 ≤ at n s → get_or counted_out (at n s) 0 ≡ 0
  none_at s h k = apart (at n s) k ∙ zero_at (at n s) (let b = at_below n s h in omega arith)

  words_at : (s : Slot) → has n s ≡ true → get_or counted_out (at n s) 0 ≡ word n (λ f. 0) s
  words_at Processes h =
      get_or-set_other (set (set ws 0 n.processes) 1 (n.locks * 256 + n.conditions)) 2 0 (n.parks * 4096) 0 (omega arith) ∙ get_or-set_other (set ws 0 n.processes) 1 0 (n.locks * 256 + n.conditions) 0 (omega arith)
      ∙ get_or-set_same ws 0 n.processes 0 (omega (arith, long))
  words_at LocksConditions h =
      get_or-set_other (set (set ws 0 n.processes) 1 (n.locks * 256 + n.conditions)) 2 1 (n.parks * 4096) 0 (omega arith) ∙ get_or-set_same (set ws 0 n.processes) 1 (n.locks * 256 + n.conditions) 0 (simp length-set (omega (arith, long)))
  words_at Parks h = get_or-set_same (set (set ws 0 n.processes) 1 (n.locks * 256 + n.conditions)) 2 (n.parks * 4096) 0 (simp length-set (omega (arith, long)))
  words_at Clock h = none_at Clock h (omega arith)
  words_at Running h = none_at Running h (omega arith)
  words_at (Tail ready) h = none_at (Tail ready) h (omega arith)
  words_at (Tail (park k)) h = none_at (Tail (park k)) h (omega arith)
  words_at (Tail (lock l)) h = none_at (Tail (lock l)) h (omega arith)
  words_at (Tail (condition k)) h = none_at (Tail (condition k)) h (omega arith)
  words_at (Holder l) h = none_at (Holder l) h (omega arith)
  words_at (Link p) h = none_at (Link p) h (omega arith)
  words_at (Flags p) h = none_at (Flags p) h (omega arith)
  words_at (Timer p) h = none_at (Timer p) h (omega arith)

  pub counted_stored : Stored n old counted_out (laid n (lined [] 0))
  counted_stored = record {
    image = image_ext n counted_out (λ f. 0) (laid n (lined [] 0))
        record { counts = counts; long = simp length-set long; words = words_at; spans = λ f h. span_some f } (λ f h. laid_none n f);
    beyond =
        drop-set-lt (size n) (set (set ws 0 n.processes) 1 (n.locks * 256 + n.conditions)) 2 (n.parks * 4096) (omega arith) ∙ drop-set-lt (size n) (set ws 0 n.processes) 1 (n.locks * 256 + n.conditions) (omega arith)
        ∙ drop-set-lt (size n) ws 0 n.processes (omega arith) ∙ subst (λ (k : ℕ). drop k ws ≡ drop k old) whole (drop_at zeros (drop words old) words zeros_long);
  }

-- ---- Start

module _ (n : Shape) (bytes old : List ℕ) where
  pub refuses_code : {c : ℕ} {a : Answer} → c ≡ start_code n bytes → c ≢ 0 → a ≡ refusal c → Starts n bytes old old a
  refuses_code {c} e h r = record {
    refused = λ k. (r ∙ ap refusal (e ∙ sym on), refl);
    accepted = λ k. absurd (h (e ∙ sym on ∙ k));
  }
    where
      on : start_on n bytes (length old) ≡ start_code n bytes
      on = rw (ne_eqb (start_code n bytes) 0 (λ z. h (e ∙ z)))

  pub refuses_short : {a : Answer} → start_code n bytes ≡ 0 → length old < size n → a ≡ refusal 5 → Starts n bytes old old a
  refuses_short e h r = record {
    refused = λ k. (r ∙ ap refusal (sym on), refl);
    accepted = λ k. let z : ◌≡◌ {A = ℕ} 5 0 = sym on ∙ k in absurd (omega arith);
  }
    where
      on : start_on n bytes (length old) ≡ 5
      on = rw (eq-eqb (start_code n bytes) 0 e, lt-ltb (length old) (size n) h)

  pub accepts_start : {ws₁ ws₂ new : List ℕ} {t : Parts} {a : Answer} → start_code n bytes ≡ 0 → size n ≤ length old
      → Stored n old ws₁ t → Becomes n ws₁ ws₂ (lined bytes n.processes) → Gives n ws₂ new a (start model n bytes) → Starts n bytes old new a
  accepts_start {ws₁} {ws₂} {new} {t} {a} e h x y g = record {
    refused = λ k. absurd (k on);
    accepted = λ k. (
      g.answer,
      stored_write n old new (start model n bytes).0
          record { image = g.becomes.holds.image; beyond = g.becomes.beyond ∙ y.beyond ∙ x.beyond },
    );
  }
    where
      on : start_on n bytes (length old) ≡ 0
      on = rw (eq-eqb (start_code n bytes) 0 e, le-ltb (length old) (size n) h)
