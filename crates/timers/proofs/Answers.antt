-- What is answered to who is due: nobody, too short a buffer for all of them, or all of them, written in process order and then put in order of their ticks left. Assumes nothing.
use Prim.Native.Nat.{ℕ, ◌+◌, ◌*◌, ◌≤◌, ◌<◌}
use native.Mathlib.Omega.{arith}
use mathlib.Core.Path.{◌≡◌, refl, sym, ap, ◌∙◌}
use mathlib.Core.Bool.{true}
use mathlib.Core.List.{List, [], ◌∷◌, ◌++◌}
use lib.ListN.{length, take, drop}
use lib.Seq.{take_at, drop-append-add, drop-drop}
use Rattle.model.specs.declared.Shape.{Shape}
use Rattle.model.specs.Queue.{inside}
use Rattle.model.specs.Machine.{State, model}
use Rattle.model.specs.Timers.{Entry, left, due_within}
use Rattle.model.specs.Reports.{Reports}
use Rattle.model.proofs.Reports.{reports_short, reports_whole}
use Rattle.order.specs.Order.{Arranged}
use Rattle.timers.specs.Telling.{in_words, due_ones, Tells}
use Rattle.timers.proofs.Dues.{count_all}
use Rattle.timers.proofs.Sorted.{told_all}

module _ (ones old : List ℕ) {mid : List ℕ} {count : ℕ} (c : count ≡ length ones) (w : mid ≡ ones ++ drop (length ones) old) where
  -- what is written over the front of a buffer is its front
  pub front_ones : take count mid ≡ ones
  front_ones = rw w (take_at ones (drop (length ones) old) count (sym c))

  -- behind twice as many it is as it was
  rest_ones : drop (count + count) mid ≡ drop (2 * count) old
  rest_ones = rw (w, c) (drop-append-add ones (drop (length ones) old) (length ones) ∙ drop-drop (length ones) (length ones) old ∙ ap (λ (m : ℕ). drop m old) twice)
    where
      twice : length ones + length ones ≡ 2 * length ones
      twice = omega arith

-- two words for each process told
words_length : (es : List Entry) → length (in_words es) ≡ 2 * length es
words_length [] = refl
words_length (e ∷ es) = omega (arith, words_length es)

module _ (k : ℕ) (n : Shape) (s : State model) {count : ℕ} (c : count ≡ length (due_ones k n s)) where
  -- as many words as twice the count
  words_due : length (in_words (due_within n s k)) ≡ 2 * count
  words_due = omega (arith, words_length (due_within n s k), count_all n s k)

  module _ {old : List ℕ} where
    -- nobody
    pub tells_none : count ≡ 0 → Tells k n s old old (record { code = 0; count = 0 })
    tells_none z = told (due_within n s k) (omega (arith, count_all n s k))
      where
        told : (es : List Entry) → 0 ≡ length es → Reports (length es) (in_words es) old old (record { code = 0; count = 0 })
        told [] e = reports_whole refl (omega arith) refl
        told (x ∷ es) e = let w : ⊥ = omega arith in absurd w

    -- fewer than two words for each
    pub tells_short : length old < 2 * count → Tells k n s old old (record { code = 5; count = 0 })
    tells_short h = reports_short (omega (arith, words_due))

    -- all of them
    pub tells_whole : {mid new : List ℕ} {key : ℕ → ℕ} → 2 * count ≤ length old → ((p : ℕ) → inside k (left n s p) ≡ true → key p ≡ left n s p)
        → mid ≡ due_ones k n s ++ drop (length (due_ones k n s)) old → Arranged key count mid new → Tells k n s old new (record { code = 0; count = count })
    tells_whole {mid} {new} {key} h agree w a =
        reports_whole (c ∙ count_all n s k) (omega (arith, words_due))
        (a.words ∙ ap (λ (ws : List ℕ). ws ++ drop (count + count) mid) (told_all n s k key agree (rw (front_ones (due_ones k n s) old c w) at a.ordered)) ∙ rest)
      where
        rest : in_words (due_within n s k) ++ drop (count + count) mid ≡ in_words (due_within n s k) ++ drop (length (in_words (due_within n s k))) old
        rest = rw (rest_ones (due_ones k n s) old c w, words_due)
