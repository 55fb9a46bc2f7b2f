-- A computed example: the page of 01's sample after its nine lines. By computation. Assumes nothing.
use Rattle.std.proofs.Math.Decide.{ℕ_discrete}
use Rattle.std.specs.Prelude.{◌≡◌, refl, ◌++◌}
use Rattle.model.specs.Rules.{when, choose, decide}
use Rattle.model.specs.Machine.{model, start, step, after}
use Rattle.model.specs.Table.{sample, bytes, nine}
use Rattle.model.specs.Text.{bytes_of}
use Rattle.rows.specs.Printed.{aligned, printed}
use Rattle.sheet.specs.Sheet.{page}

-- the sample after its nine lines
nine_lines : page sample (after model sample (start model sample bytes).0 nine)
    ≡ bytes_of "RD   0    3    2    3    0 0\n" ++ bytes_of "LK   1    0    0    0    2 0\n" ++ bytes_of "CN   1    0    0    0    0 0\n"
unfolding page printed aligned step decide when choose ℕ_discrete
nine_lines = refl
