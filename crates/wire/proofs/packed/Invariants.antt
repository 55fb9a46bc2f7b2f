-- `wire::packed` meets its contract. The loop's invariant: the fields passed, which are the last, are in the number. Assumes nothing.
use Rattle.wire.proofs.Wire.{Partly}
use Rattle.wire.proofs.packed.Given as goal

abbrev pub invariant-loop-field : goal.invariant-loop-field
invariant-loop-field g l = Partly g.row.BITS l.fields l.field-iterator.iter.rest.now l.number
