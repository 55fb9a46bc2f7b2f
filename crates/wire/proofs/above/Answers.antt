-- `wire::above` meets its contract: the field below, the others above, and the number fits. Assumes nothing.
use native.Mathlib.Nat.{mod-lt}
use native.Mathlib.Omega.{arith}
use Rattle.wire.proofs.above.Goals as goal

pub overflow_mul-result : goal.overflow_mul-result
overflow_mul-result c = record { fits = omega (arith, c.requires.2) }

pub overflow_add-result : goal.overflow_add-result
overflow_add-result c = record { fits = omega (arith, mod-lt c.args.low c.requires.0, c.requires.1, c.requires.2) }

pub returns : goal.returns
returns c = rw c.from.ensures (omega arith)
