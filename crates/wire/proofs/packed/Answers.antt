use Rattle.wire.proofs.Wire.{room_of, partly_start, partly_room, partly_on, partly_end}
use Rattle.wire.proofs.packed.Goals as goal

pub loop-field-init : goal.loop-field-init
loop-field-init g c = partly_start g.row.BITS (rw (c.into_iter-field-iterator.ensures.into_iter_gives, c.rev-field-items.ensures.source) c.iter.ensures.rest)

pub above-number-requires : goal.above-number-requires
above-number-requires g c = rw (room_of g.row.BITS c.requires.narrow) (partly_room c.loop-field.invariant _ _ c.in-Some.ensures.steps c.requires.narrow c.requires.fits)

pub loop-field-preserved : goal.loop-field-preserved
loop-field-preserved g c = rw (c.above-number.ensures, room_of g.row.BITS c.requires.narrow) (partly_on c.loop-field.invariant _ c.in-Some.ensures.steps)

pub returns : goal.returns
returns g c = partly_end c.in-None.ensures.steps.0 c.loop-field.invariant
