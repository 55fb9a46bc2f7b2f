-- `start::count_out` meets its contract: the three words of the counts in an area filled with 0. Assumes nothing.
use native.Mathlib.Omega.{arith}
use borrow.Author.Rules.{rules}
use Rattle.start.proofs.Started.{counted_stored}
use Rattle.start.proofs.count_out.Goals as goal

pub returns : goal.returns
returns c =
    counted_stored c.args.shape c.args.area.now c.fill.new.self _ c.requires.0 c.requires.1 (omega (arith, c.size_of-words.ensures))
    (c.fill.ensures.after (λ y k. search rules))
