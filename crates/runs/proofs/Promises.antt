-- What follows from the promises of a call and of Start alone: a refusal spares the words, the words beyond the size are neither read nor
-- changed, and each field of an answer has ten bits. Assumes nothing.
use Prim.Native.Nat.{ℕ, ◌^◌, ◌≤◌, ◌<◌}
use native.Mathlib.Decide.{ℕ_discrete, dec_lt}
use native.Mathlib.Omega.{arith}
use mathlib.Core.Path.{◌≡◌, refl, sym, ap, ◌∙◌}
use mathlib.Core.Logic.Dec
use mathlib.Core.Bool.{Bool, true, false, not, cond, false≢true}
use mathlib.Core.List.{List, [], ◌∷◌, map}
use lib.Dec.{eqb, ltb}
use lib.ListN.{length, take, drop}
use borrow.Author.Tests.{le-ltb, ne_eqb}
use Rattle.model.specs.declared.Shape.{Shape}
use Rattle.model.specs.declared.Call.{Call}
use Rattle.model.specs.declared.Answer.{Answer}
use Rattle.model.specs.Rules.{counted, any_above, start_code}
use Rattle.model.specs.Machine.{State, model, fields_of, step, start, refusal}
use Rattle.model.proofs.Tests.{EqCase, holds, fails, eqb_case, settle}
use Rattle.model.proofs.Lists.{lists?}
use Rattle.model.proofs.Rules.{refused_stays}
use Rattle.model.proofs.Kept.{Small, step_small, start_small, start_valid}
use Rattle.area.specs.Layout.{word, slots, size}
use Rattle.area.specs.State.{laid, write}
use Rattle.area.specs.Reading.{shape_of, state_of, Agree}
use Rattle.area.specs.Sound.{Sound}
use Rattle.area.proofs.Whole.{counts_in, write_below, write_beyond}
use Rattle.area.proofs.States.{sound_write}
use Rattle.area.proofs.Agreeing.{shape_same, state_same, agree_back, sound_same}
use Rattle.start.specs.Start.{start_on, Starts}
use Rattle.monitor.specs.Calls.{Performs, Spares}
use Rattle.wire.proofs.Wire.{Fit, answer_from}
use Rattle.runs.proofs.History.{start_accepted}

-- ---- what can be decided

-- an area that cannot be unsound will do for a sound one
pub sure : {ws : List ℕ} {X : Type 0} → ((Sound ws → ⊥) → ⊥) → Dec X → (Sound ws → X) → X
sure N d f = settle d f (λ u. absurd (N u))

-- whether a test passed
pub passed? : (b : Bool) → Dec (b ≡ true)
passed? true = yes refl
passed? false = no false≢true

answers? : (a b : Answer) → Dec (a ≡ b)
answers? a b = elim (lists? (fields_of a) (fields_of b)) [
  | yes e ↦ yes (ap answer_from e)
  | no n ↦ no (λ e. n (ap fields_of e))
]

-- ---- a refusal spares the words

pub performs_spares : {c : Call} {old new : List ℕ} {a : Answer} → Performs c old new a → Spares a old new
performs_spares {c} {old} {new} {a} P h = settle (Dec.and (answers? a (refusal a.code)) (lists? new old)) on_sound on_unsound
  where
    codes : {b : Answer} → a ≡ b → refusal b.code ≡ refusal a.code
    codes e = ap {A = Answer} (λ b. refusal b.code) (sym e)

    on_sound : Sound old → (a ≡ refusal a.code) × (new ≡ old)
    on_sound S =
        let p = P.sound S in
        let k = refused_stays model (shape_of old) (state_of old) c (λ z. h (ap {A = Answer} (λ b. b.code) p.0 ∙ z)) in (
          p.0 ∙ ap {A = State model × Answer} (λ r. r.1) k ∙ codes p.0,
          p.1 ∙ ap {A = State model × Answer} (λ r. write (shape_of old) r.0 old) k ∙ sound_write old S,
        )

    on_unsound : (Sound old → ⊥) → (a ≡ refusal a.code) × (new ≡ old)
    on_unsound u = let p = P.unsound u in (p.0 ∙ codes p.0, p.1)

pub starts_spares : {n : Shape} {bytes old new : List ℕ} {a : Answer} → Starts n bytes old new a → Spares a old new
starts_spares {n} {bytes} {old} {new} {a} S h = go (eqb_case (start_on n bytes (length old)) 0)
  where
    go : EqCase (start_on n bytes (length old)) 0 → (a ≡ refusal a.code) × (new ≡ old)
    go (holds d e) = absurd (h (ap {A = Answer} (λ b. b.code) (S.accepted d).0))
    go (fails d e) = let p = S.refused d in (p.0 ∙ ap {A = Answer} (λ b. refusal b.code) (sym p.0), p.1)

-- ---- the words beyond the size

-- they stay
pub performs_keeps : {c : Call} {old new : List ℕ} {a : Answer} → Performs c old new a → drop (size (shape_of old)) new ≡ drop (size (shape_of old)) old
performs_keeps {c} {old} {new} P =
    settle (lists? (drop (size (shape_of old)) new) (drop (size (shape_of old)) old))
    (λ S. ap (drop (size (shape_of old))) (P.sound S).1 ∙ write_beyond (shape_of old) (step model (shape_of old) (state_of old) c).0 old)
    (λ u. ap (drop (size (shape_of old))) (P.unsound u).1)

pub starts_keeps : {n : Shape} {bytes old new : List ℕ} {a : Answer} → Starts n bytes old new a → drop (size n) new ≡ drop (size n) old
starts_keeps {n} {bytes} {old} {new} S = go (eqb_case (start_on n bytes (length old)) 0)
  where
    go : EqCase (start_on n bytes (length old)) 0 → drop (size n) new ≡ drop (size n) old
    go (holds d e) = ap (drop (size n)) (S.accepted d).1 ∙ write_beyond n (start model n bytes).0 old
    go (fails d e) = ap (drop (size n)) (S.refused d).1

-- and are not read: areas that agree below their size are answered alike, and agree afterwards
module _ {a b : List ℕ} (A : Agree a b) where
  pub unsound_same : (Sound a → ⊥) → Sound b → ⊥
  unsound_same u S = u (sound_same (agree_back A) S)

  -- the words that a state of these counts has below the size
  abbrev below : Shape → State model → List ℕ
  below n s = map (word n (laid n s)) (slots n)

  pub performs_alike : {c : Call} {a' b' : List ℕ} {x y : Answer} → Performs c a a' x → Performs c b b' y
      → (x ≡ y) × (take (size (shape_of a)) a' ≡ take (size (shape_of a)) b')
  performs_alike {c} {a'} {b'} {x} {y} P Q = settle (Dec.and (answers? x y) (lists? (take k a') (take k b'))) on_sound on_unsound
    where
      k : ℕ
      k = size (shape_of a)

      on_sound : Sound a → (x ≡ y) × (take k a' ≡ take k b')
      on_sound S =
          let p = P.sound S in
          let q = Q.sound (sound_same A S) in (
            p.0 ∙ (λ i. (step model (shape_same A i) (state_same A i) c).1) ∙ sym q.0,
            ap (take k) p.1 ∙ write_below (shape_of a) (step model (shape_of a) (state_of a) c).0 a
                ∙ (λ i. below (shape_same A i) (step model (shape_same A i) (state_same A i) c).0)
                ∙ sym (ap {A = Shape} (λ n. take (size n) b') (shape_same A) ∙ ap (take (size (shape_of b))) q.1 ∙ write_below (shape_of b) (step model (shape_of b) (state_of b) c).0 b),
          )

      on_unsound : (Sound a → ⊥) → (x ≡ y) × (take k a' ≡ take k b')
      on_unsound u =
          let p = P.unsound u in
          let q = Q.unsound (unsound_same u) in
          (p.0 ∙ sym q.0, ap (take k) p.1 ∙ A.same ∙ sym (ap (take k) q.1))

-- on an area long enough Start's code is that of its numbers
pub long_code : (n : Shape) (bytes : List ℕ) (words : ℕ) → size n ≤ words → start_on n bytes words ≡ start_code n bytes
long_code n bytes words h = rw (le-ltb words (size n) h) (go (start_code n bytes))
  where
    go : (k : ℕ) → cond (eqb k 0) 0 k ≡ k
    go k = elim (ℕ_discrete k 0) [
      | yes e ↦ rw e
      | no e ↦ rw (ne_eqb k 0 e)
    ]

-- and it reads none of the words that it finds
module _ {n : Shape} {bytes a b a' b' : List ℕ} {x y : Answer} (la : size n ≤ length a) (lb : size n ≤ length b) (P : Starts n bytes a a' x) (Q : Starts n bytes b b' y) where
  pub starts_alike : (x ≡ y) × (x.code ≡ 0 → take (size n) a' ≡ take (size n) b')
  starts_alike = go (eqb_case (start_code n bytes) 0)
    where
      go : EqCase (start_code n bytes) 0 → (x ≡ y) × (x.code ≡ 0 → take (size n) a' ≡ take (size n) b')
      go (holds d e) =
          let p = P.accepted (long_code n bytes (length a) la ∙ d) in
          let q = Q.accepted (long_code n bytes (length b) lb ∙ d) in
          (p.0 ∙ sym q.0, λ z. ap (take (size n)) p.1 ∙ write_below n (start model n bytes).0 a ∙ sym (ap (take (size n)) q.1 ∙ write_below n (start model n bytes).0 b))
      go (fails d e) =
          let p = P.refused (λ z. d (sym (long_code n bytes (length a) la) ∙ z)) in
          let q = Q.refused (λ z. d (sym (long_code n bytes (length b) lb) ∙ z)) in
          let same = p.0 ∙ ap refusal (long_code n bytes (length a) la ∙ sym (long_code n bytes (length b) lb)) ∙ sym q.0 in
          (same, λ z. absurd (d (sym (ap {A = Answer} (λ r. r.code) p.0 ∙ long_code n bytes (length a) la) ∙ z)))

-- ---- each field has ten bits

pub fit? : (w : ℕ) (xs : List ℕ) → Dec (Fit w xs)
fit? w [] = yes tt
fit? w (x ∷ xs) = Dec.and (dec_lt x (2 ^ w)) (fit? w xs)

small_fits : (n : Shape) (a : Answer) → counted n ≡ true → Small n a → Fit 10 (fields_of a)
small_fits n a k s = let h = counts_in n k in (omega arith, (omega arith, (omega arith, (omega arith, (omega arith, (omega arith, tt))))))

refusal_fits : (k : ℕ) → k < 1024 → Fit 10 (fields_of (refusal k))
refusal_fits k h = (h, (omega arith, (omega arith, (omega arith, (omega arith, (omega arith, tt))))))

pub performs_fits : {c : Call} {old new : List ℕ} {a : Answer} → Performs c old new a → Fit 10 (fields_of a)
performs_fits {c} {old} {a = a} P =
    settle (fit? 10 (fields_of a))
    (λ S. rw (P.sound S).0 (small_fits (shape_of old) _ S.valid.placed.counts (step_small (shape_of old) (state_of old) c S.valid)))
    (λ h. rw (P.unsound h).0 (refusal_fits 1 (omega arith)))

cond_below : (b : Bool) {x y k : ℕ} → x < k → y < k → cond b x y < k
cond_below true h l = h
cond_below false h l = l

start_below : (n : Shape) (bytes : List ℕ) (words : ℕ) → start_on n bytes words < 1024
start_below n bytes words =
    cond_below (eqb (start_code n bytes) 0) (cond_below (ltb words (size n)) (omega arith) (omega arith))
    (cond_below (not (counted n)) (omega arith)
    (cond_below (not (eqb (length bytes) n.processes)) (omega arith) (cond_below (any_above 7 bytes) (omega arith) (omega arith))))

pub starts_fits : {n : Shape} {bytes old new : List ℕ} {a : Answer} → Starts n bytes old new a → Fit 10 (fields_of a)
starts_fits {n} {bytes} {old} {a = a} S =
    settle (fit? 10 (fields_of a))
    (λ h. let k = (start_accepted n bytes (length old) h).0 in rw (S.accepted h).0 (small_fits n _ (start_valid n bytes k).placed.counts (start_small n bytes k)))
    (λ h. rw (S.refused h).0 (refusal_fits _ (start_below n bytes (length old))))
