-- Laws on the meaning of a whole line, by what was found behind its first word. Assumes nothing.
use Prim.Native.Nat.{ℕ, ◌+◌, ◌≤◌}
use mathlib.Core.Path.{◌≡◌, ap, ◌∙◌, refl}
use mathlib.Core.Bool.{Bool, true, false, cond}
use mathlib.Core.List.{List, ◌∷◌}
use native.Mathlib.Omega.{arith}
use borrow.Author.Tests.{le-leb}
use lib.ListN.{length, take, drop}
use Rattle.std.specs.Prelude.{Some, None}
use Rattle.words.specs.Words.{fields, within}
use Rattle.words.specs.Read.{word, after}
use Rattle.words.proofs.Words.{word_take, later, fields_word, after_later}
use Rattle.script.specs.declared.Name.{Name}
use Rattle.script.specs.Line.{name_of, said, worded, spoken, meaning}
use Rattle.script.specs.Line.Meaning.{none}

-- ---- a whole line

-- e is where the first word ends
module _ (l : List ℕ) (e : ℕ) (h : length l ≤ 8192) (q : e ≡ 0 + length (word (drop 0 l))) where
  meaning_words : meaning l ≡ cond (within 65535 (after (drop e l))) (worded (name_of (take e l)) (after (drop e l))) none
  meaning_words =
      let q2 : e ≡ length (word l) = omega arith in
      let w : take e l ≡ word l = rw q2 (word_take l) in
      let f : fields l ≡ take e l ∷ later (drop e l) = fields_word l ∙ rw (w, q2) in
      rw (le-leb (length l) 8192 h) (ap spoken f ∙ rw (after_later (drop e l)))

  pub meaning_unnamed : name_of (take e l) ≡ None → meaning l ≡ none
  meaning_unnamed n = meaning_words ∙ rw n (go (within 65535 (after (drop e l))))
    where
      go : (t : Bool) → cond t none none ≡ none
      go true = refl
      go false = refl

  pub meaning_none : within 65535 (after (drop e l)) ≡ false → meaning l ≡ none
  meaning_none b = meaning_words ∙ rw b

  pub meaning_said : (n : Name) (ns : List ℕ) → name_of (take e l) ≡ Some n → ns ≡ after (drop e l) → within 65535 (after (drop e l)) ≡ true → meaning l ≡ said n ns
  meaning_said n ns q2 q3 b = meaning_words ∙ rw (b, q2, q3)
