use Rattle.std.proofs.Common.{◌≡◌, ◌+◌, ◌-◌, refl, arith, rules}
use Rattle.model.specs.Queue.Queue.{condition}
use Rattle.area.specs.Layout.{conditions_at}
use Rattle.moves.proofs.Loose.{loose_of}
use Rattle.broadcasts.proofs.Ticking.{condition_here, sweep_next, sweep_end, sweep_skips}
use Rattle.broadcasts.proofs.clock.sweep_all.Goals as goal

pub loop-i-init : goal.loop-i-init
loop-i-init c =
    let w = c.next_waited-i.ensures in (
      omega arith,
      omega arith,
      refl,
      λ s H. sweep_skips s.queues _ 0 _ _ (omega arith) w.0 (omega arith) w.2 (loose_of H),
    )

pub sweep-requires : goal.sweep-requires
sweep-requires c =
    let l = c.loop-i in
    let n = c.args.shape in
    let here = condition_here n _ l.invariant.0 (omega arith) in
    (_, _, _, condition (l.i - conditions_at n + 1), l.invariant.3 c.requires.0 c.requires.1, here.0, here.1)

pub loop-i-smaller : goal.loop-i-smaller
loop-i-smaller c = omega arith

pub loop-i-preserved : goal.loop-i-preserved
loop-i-preserved c =
    let l = c.loop-i in
    let w = c.next_waited-i-in-loop-i.ensures in
    let n = c.args.shape in
    let here = condition_here n _ l.invariant.0 (omega arith) in (
      omega arith,
      omega arith,
      search rules,
      λ s H. sweep_skips s.queues _ (l.i - conditions_at n + 1) _ _ (omega arith) w.0 (omega arith) w.2 (sweep_next s.queues _ (l.i - conditions_at n) (c.sweep.ensures _ _ _ (condition (l.i - conditions_at n + 1)) (l.invariant.3 s H) here.0 here.1)),
    )

pub returns : goal.returns
returns c =
    λ s H.
    let l = c.loop-i in
    let n = c.args.shape in
    let all : l.i - conditions_at n ≡ n.conditions = omega (arith, l.invariant.1, c.loop-i-test.false, c.records_at-end.ensures) in
    sweep_end s.queues c.args.time all (l.invariant.3 s H)
