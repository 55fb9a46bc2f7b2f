-- `heads::runs` meets its contract: where ready has a tail, its first is who runs. Assumes nothing.
use Rattle.heads.proofs.Steps.{runs_first, led_first}
use Rattle.heads.proofs.runs.Goals as goal

pub link_of-requires : goal.link_of-requires
link_of-requires c = led_first c.args.area.now c.args.records.now _ _ c.requires.1 c.next_field-tail.ensures c.if-tail-eq0.false c.next_of-first.ensures

pub returns-then-w-first : goal.returns-then-w-first
returns-then-w-first c = rw c.link_of.ensures (runs_first c.args.area.now c.args.records.now _ _ c.requires.1 c.next_field-tail.ensures c.if-tail-eq0.false c.next_of-first.ensures c.if-w-first.true)
