-- What stands beside the word stands in the rows that are left. Assumes nothing.
use Prim.Native.Nat.{ℕ}
use mathlib.Core.Path.{◌≡◌}
use mathlib.Core.List.{List, map}
use denote.Bor.{Bor}
use lib.ListN.{drop}
use Rattle.script.specs.declared.Name.{Name}
use Rattle.script.specs.Line.{beside}
use Rattle.script.proofs.name_beside.Given as goal

abbrev pub invariant-loop-text : goal.invariant-loop-text
invariant-loop-text l = beside l.word (map (λ (r : Bor (List ℕ) × Name). (r.0.now, r.1)) l.rows) ≡ beside l.word (map (λ (r : Bor (List ℕ) × Name). (r.0.now, r.1)) (drop l.text-index l.rows))
