-- `start::line_up` meets its contract: the records are lent to the rings, and what comes back is everybody in ready. Assumes nothing.
use native.Mathlib.Omega.{arith}
use Rattle.start.proofs.Lining.{line_ranked, line_small, line_below, line_becomes}
use Rattle.start.proofs.line_up.Goals as goal

pub gather-tail-requires : goal.gather-tail-requires
gather-tail-requires c = line_ranked c.args.shape c.args.priorities.now c.args.area.now c.requires.accepted c.requires.image c.records_at-at.result c.records_at-at.ensures

pub overflow_mul-area : goal.overflow_mul-area
overflow_mul-area c = omega (arith, line_small c.args.shape c.args.priorities.now c.args.area.now c.requires.accepted c.requires.image c.records_at-at.result c.records_at-at.ensures c.gather-tail.new.records c.gather-tail.result c.gather-tail.ensures)

pub bounds-area-5 : goal.bounds-area-5
bounds-area-5 c = line_below c.args.shape c.args.priorities.now c.args.area.now c.requires.accepted c.requires.image c.records_at-at.result c.records_at-at.ensures c.gather-tail.new.records c.gather-tail.result c.gather-tail.ensures

pub returns : goal.returns
returns c = line_becomes c.args.shape c.args.priorities.now c.args.area.now c.requires.accepted c.requires.image c.records_at-at.result c.records_at-at.ensures c.gather-tail.new.records c.gather-tail.result c.gather-tail.ensures
