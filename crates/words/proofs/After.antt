-- Laws on the numbers that follow a word, read one at a time. Assumes nothing.
use Prim.Native.Nat.{ℕ, ◌+◌, ◌<◌}
use mathlib.Core.Path.{◌≡◌, ap, ◌∙◌}
use mathlib.Core.List.{List, ◌∷◌, ◌++◌, map, append_assoc}
use native.Mathlib.Numerals.{add-one}
use lib.Dec.{eqb}
use Rattle.std.specs.List.{position_or_len}
use lib.ListN.{length, take, drop, set}
use lib.Seq.{take-suc-set}
use Rattle.words.specs.Words.{number}
use Rattle.words.specs.Read.{word as word_of, after}
use Rattle.words.proofs.Words.{word_length, word_take, fields_word, after_later}

-- after a space stand the next word's number and the numbers after that word
pub after_on : {rest words word others : List ℕ} {s e : ℕ} → rest ≡ s ∷ words → e ≡ position_or_len (λ (b : ℕ). eqb b 32) words → word ≡ take e words → others ≡ drop e words →
    after rest ≡ number word ∷ after others
after_on {words = words} r q t d =
    rw (r, t, d, q, ← (word_length words), word_take words) (ap (map number) (fields_word words) ∙ rw (after_later (drop (length (word_of words)) words)))

-- a number put after those that stand there
pub put_on : (table rest : List ℕ) (i x : ℕ) → i < length table → take (i + 1) (set table i x) ++ rest ≡ take i table ++ (x ∷ rest)
put_on table rest i x h = rw (add-one, take-suc-set table i x h, append_assoc)
