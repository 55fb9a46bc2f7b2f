-- `sound::rings` meets its contract: each queue is passed as `queued` passes it, or the pass breaks off there. Assumes nothing.
use native.Mathlib.Omega.{arith}
use mathlib.Core.Path.{refl, sym, ◌∙◌}
use Rattle.heads.proofs.Steps.{head_within, holder_within}
use Rattle.sound.proofs.Queues.{passed_none, passed_all, passed_empty, passed_odd, passed_broken, passed_on, tail_within}
use Rattle.sound.proofs.rings.Goals as goal

pub loop-i-init : goal.loop-i-init
loop-i-init g c = (omega arith, λ js T. passed_none _ _ _ _ _ _ js T)

pub offset_bounds-heads-at : goal.offset_bounds-heads-at
offset_bounds-heads-at g c = omega (arith, head_within _ _ _ _ _ c.head_at-at.ensures c.loop-i-test.true c.requires.1)

pub bounds-heads-at : goal.bounds-heads-at
bounds-heads-at g c = head_within _ _ _ _ _ c.head_at-at.ensures c.loop-i-test.true c.requires.1

pub holder_word-v-requires : goal.holder_word-v-requires
holder_word-v-requires g c = holder_within _ _ _ _ _ c.head_at-at.ensures c.loop-i-test.true c.requires.1

pub returns-then-not-in_order : goal.returns-then-not-in_order
returns-then-not-in_order g c js T = passed_odd _ _ _ _ _ _ _ _ c.head_at-at.ensures refl c.holder_word-v.ensures _ c.loop-i-test.true _ _ js (c.loop-i.invariant.1 js T) (omega arith) _ c.in_order.ensures _ c.if-not-in_order.true

pub walk-requires : goal.walk-requires
walk-requires g c =
    let tail = tail_within c.args.roll.processes g.row.KIND _ _ (omega arith) _ c.in_order.ensures c.if-not-in_order.false in
    omega (arith, tail)

pub returns-in_err-found : goal.returns-in_err-found
returns-in_err-found g c js T =
    rw c.from_residual.ensures (
    passed_broken _ _ _ _ _ _ _ _ c.head_at-at.ensures refl c.holder_word-v.ensures _ c.loop-i-test.true _ _ js (c.loop-i.invariant.1 js T) (omega arith) _ c.in_order.ensures c.if-not-in_order.false
    _ _ (c.from.ensures ∙ c.next_field.ensures) (c.from-in-loop-i.ensures ∙ c.next_field-in-loop-i.ensures) _ _ c.walk.ensures _ c.in_err-found.was)

pub loop-i-preserved-then-v-eq0 : goal.loop-i-preserved-then-v-eq0
loop-i-preserved-then-v-eq0 g c = (omega arith, λ js T. passed_empty _ _ _ _ _ _ _ _ c.head_at-at.ensures refl c.holder_word-v.ensures _ c.loop-i-test.true _ _ js (c.loop-i.invariant.1 js T) (sym c.vacant.ensures ∙ c.if-vacant.true) c.if-v-eq0.true)

pub loop-i-preserved : goal.loop-i-preserved
loop-i-preserved g c = (
  omega arith,
  λ js T.
      passed_on _ _ _ _ _ _ _ _ c.head_at-at.ensures refl c.holder_word-v.ensures _ c.loop-i-test.true _ _ js (c.loop-i.invariant.1 js T) (omega arith) _ c.in_order.ensures c.if-not-in_order.false
      _ _ (c.from.ensures ∙ c.next_field.ensures) (c.from-in-loop-i.ensures ∙ c.next_field-in-loop-i.ensures) _ _ c.walk.ensures _ c.in_ok-found.was,
)

pub returns : goal.returns
returns g c js T = passed_all _ _ _ _ _ _ _ _ js (c.loop-i.invariant.1 js T) c.loop-i.invariant.0 c.loop-i-test.false
