use Prim.Native.Nat.{ℕ, ◌+◌}
use mathlib.Core.Path.{ap}
use lib.ListN.{drop, length-drop}
use lib.Seq.{take-length}
use Rattle.words.proofs.Words.{word_length}
use Rattle.words.proofs.word_end.Goals as goal

pub returns-clause-value : goal.returns-clause-value
returns-clause-value c =
    let line = c.args.line.now in
    let from = c.args.from in
    ap (λ (n : ℕ). from + n) (rw (word_length (drop from line), ← (take-length (drop from line)), length-drop from line) c.until_space.ensures.value)
