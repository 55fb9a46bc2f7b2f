-- After a space stand the next word and the others, so one number more stands in the table, or one is too large. Assumes nothing.
use mathlib.Core.Path.{◌≡◌}
use mathlib.Core.List.{◌∷◌}
use native.Mathlib.Omega.{arith}
use Rattle.std.proofs.lemmas.Grind.{common_steps}
use Rattle.words.specs.Words.{number}
use Rattle.words.specs.Read.{after}
use Rattle.words.proofs.After.{after_on, put_on}
use Rattle.words.proofs.numbers.Goals as goal

pub returns-in_err-table : goal.returns-in_err-table
returns-in_err-table c =
    let q : after c.loop-words.rest.now ≡ number c.split_at.result.0.now ∷ after c.split_at.result.1.now = after_on c.in-Some.ensures.cases.0 c.until_space.ensures.value c.split_at.ensures.front c.split_at.ensures.back in
    grind (arith, common_steps)

pub loop-words-preserved : goal.loop-words-preserved
loop-words-preserved c =
    let q : after c.loop-words.rest.now ≡ number c.split_at.result.0.now ∷ after c.split_at.result.1.now = after_on c.in-Some.ensures.cases.0 c.until_space.ensures.value c.split_at.ensures.front c.split_at.ensures.back in
    grind (arith, common_steps, put_on)
