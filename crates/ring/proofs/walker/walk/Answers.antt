use Rattle.std.proofs.Common.{rules, [], ◌∷◌, ◌<◌, length, arith}
use lib.ListN.{length-append}
use Rattle.ring.proofs.Way.{passed_few, passed_more, passed_on, put_on}
use Rattle.ring.proofs.walker.walk.Goals as goal

pub overflow_add-count : goal.overflow_add-count
overflow_add-count c = let g = c.requires in omega (arith, passed_few (c.loop-p.invariant.4 g.0 g.1) g.1)

pub loop-p-preserved : goal.loop-p-preserved
loop-p-preserved c =
    let g = c.requires in
    let l = c.loop-p in
    let i = l.invariant in
    let e = c.in-Some.ensures.steps in
    let more : length l.yielded < length c.args.out.now = omega (arith, g.3, passed_more (i.4 g.0 g.1) e) in (
      search rules,
      search rules,
      omega (arith, i.2, length-append l.yielded (c.in-Some.p ∷ [])),
      put_on l.yielded c.args.out.now c.in-Some.p c.from.ensures i.2 i.3 more,
      (λ xs R. passed_on (i.4 xs R) e),
    )
