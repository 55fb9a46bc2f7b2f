-- Laws on words: how long the first one is, and that a line is its first word and what follows. Assumes nothing.
use Prim.Native.Nat.{ℕ, ◌+◌}
use mathlib.Core.Path.{◌≡◌, refl, ap}
use mathlib.Core.Bool.{Bool, true, false, not, cond}
use mathlib.Core.List.{List, [], ◌∷◌, map}
use native.Mathlib.Omega.{arith}
use lib.Dec.{eqb}
use lib.ListN.{length, take, drop}
use Rattle.std.specs.List.{position_or_len}
use Rattle.words.specs.Words.{join, fields, number}
use Rattle.words.specs.Read.{word, after}

-- the first word ends at the first space, or at the end
pub word_length : (l : List ℕ) → length (word l) ≡ position_or_len (λ (b : ℕ). eqb b 32) l
word_length [] = refl
word_length (b ∷ bs) = go (eqb b 32) (word_length bs)
  where
    go : (t : Bool) → length (word bs) ≡ position_or_len (λ (x : ℕ). eqb x 32) bs → length (cond t [] (b ∷ word bs)) ≡ cond (not t) (1 + position_or_len (λ (x : ℕ). eqb x 32) bs) 0
    go true e = refl
    go false e = omega arith

pub word_take : (l : List ℕ) → take (length (word l)) l ≡ word l
word_take [] = refl
word_take (b ∷ bs) = go (eqb b 32) (word_take bs)
  where
    go : (t : Bool) → take (length (word bs)) bs ≡ word bs → take (length (cond t [] (b ∷ word bs))) (b ∷ bs) ≡ cond t [] (b ∷ word bs)
    go true e = refl
    go false e = ap (◌∷◌ b) e

-- the words that follow the end of a word
abbrev pub later : List ℕ → List (List ℕ)
later [] = []
later (b ∷ bs) = fields bs

pub fields_word : (l : List ℕ) → fields l ≡ word l ∷ later (drop (length (word l)) l)
fields_word [] = refl
fields_word (b ∷ bs) = go (eqb b 32) (fields_word bs)
  where
    go : (t : Bool) → fields bs ≡ word bs ∷ later (drop (length (word bs)) bs) →
        cond t ([] ∷ fields bs) (join b (fields bs)) ≡ cond t [] (b ∷ word bs) ∷ later (drop (length (cond t [] (b ∷ word bs))) (b ∷ bs))
    go true e = refl
    go false e = ap (join b) e

pub after_later : (l : List ℕ) → after l ≡ map number (later l)
after_later [] = refl
after_later (b ∷ bs) = refl
