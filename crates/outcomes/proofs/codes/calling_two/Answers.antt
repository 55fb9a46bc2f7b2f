-- `outcomes::codes::calling_two` meets its contract: the code of the first number, or where it has none that of the second. Assumes nothing.
use mathlib.Core.Path.{refl}
use Rattle.std.proofs.lemmas.Result.{err_from_is_err_and}
use Rattle.outcomes.proofs.Outcomes.{refusing, two_by_first, two_by_second}
use Rattle.outcomes.proofs.codes.calling_two.Goals as goal

pub returns-in_err-calling : goal.returns-in_err-calling
returns-in_err-calling c =
    let p = err_from_is_err_and c.from_residual.result c.from_residual.ensures.1 in
    rw (p.1, p.2) (two_by_first c.in_err-calling.ensures c.args.m c.args.j (refusing _))

pub returns : goal.returns
returns c = two_by_second c.in_ok-calling.ensures c.missing.ensures refl
