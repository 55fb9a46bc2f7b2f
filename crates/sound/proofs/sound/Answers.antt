-- `sound::sound` meets its contract: past its tests the counts, those met and running are what `Check` asks for, and each way out before the end
-- contradicts a clause of soundness. Assumes nothing.
use Rattle.sound.proofs.Check.{says_uncounted, says_uneven, says_led, says_runs}
use Rattle.sound.proofs.sound.Goals as goal

pub returns-then-not-counted : goal.returns-then-not-counted
returns-then-not-counted c = says_uncounted c.args.words.now c.type_inv.words _ c.counted.ensures c.if-not-counted.true

pub returns-then-ne : goal.returns-then-ne
returns-then-ne c = says_uneven c.args.words.now c.type_inv.words _ c.counted.ensures c.if-not-counted.false c.shape_of-shape.ensures c.met.ensures c.from.ensures c.if-ne.ensures

pub runs-requires : goal.runs-requires
runs-requires c = says_led c.args.words.now c.type_inv.words _ c.counted.ensures c.if-not-counted.false c.shape_of-shape.ensures c.met.ensures c.from.ensures c.if-ne.ensures c.records_at-first_record.ensures

pub returns : goal.returns
returns c = says_runs c.args.words.now c.type_inv.words _ c.counted.ensures c.if-not-counted.false c.shape_of-shape.ensures c.met.ensures c.from.ensures c.if-ne.ensures c.records_at-first_record.ensures _ c.runs.ensures
