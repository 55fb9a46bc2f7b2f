-- The value so far, with the digits that are left behind it, is the number that the word is. Assumes nothing.
use mathlib.Core.Path.{◌≡◌}
use lib.ListN.{drop}
use Rattle.words.specs.Words.{value_from, number}
use Rattle.words.proofs.value.Given as goal

abbrev pub invariant-loop-b : goal.invariant-loop-b
invariant-loop-b l = number l.word ≡ value_from l.sum (drop l.b-index l.word)
