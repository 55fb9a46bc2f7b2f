-- `timers::nearest` meets its contract: the nearest by the area's own clock, or none. Assumes nothing.
use Rattle.model.specs.Field.Field.{clock as clockField}
use Rattle.timers.proofs.Left.{shown}
use Rattle.timers.proofs.nearest.Goals as goal

pub get-clock-requires : goal.get-clock-requires
get-clock-requires c = (c.args.shape, clockField, (c.requires.state, c.requires.holds), c.clock.ensures c.args.shape)

pub invariant_of-reading : goal.invariant_of-reading
invariant_of-reading c = (c.requires.state, shown c.args.shape c.args.area.now c.get-clock.ensures c.clock.ensures c.requires.state c.requires.holds c.requires.valid)

pub returns : goal.returns
returns c s H v =
    let S = shown c.args.shape c.args.area.now c.get-clock.ensures c.clock.ensures s H v in
    rw (c.from.ensures, c.unwrap_or-process.ensures, c.nearest.ensures s S)
