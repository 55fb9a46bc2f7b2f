-- `start::one_above` meets its contract: the call of `any` says what the library's recursion says, and so the rule's. Assumes nothing.
use Rattle.std.proofs.Common.{rules, tests}
use mathlib.Core.Path.{◌∙◌}
use lib.Dec.{ltb}
use Rattle.std.proofs.lemmas.Iterator.{YieldsList-from_slice}
use Rattle.std.proofs.lemmas.Iterator.Search.{any_from_yields_List}
use Rattle.start.proofs.Started.{any_is}
use Rattle.start.proofs.one_above.Goals as goal

pub returns : goal.returns
returns c = any_from_yields_List (ltb 7) _ _ _ c.any.ensures.ran (YieldsList-from_slice c.args.priorities.now cc) (λ x b q k. search (rules, tests)) ∙ any_is 7 c.args.priorities.now
