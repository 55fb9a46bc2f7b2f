-- `members::Roll::walk` meets its contract: each way out of the loop is a way that the walk underway ends. Assumes nothing.
use native.Mathlib.Omega.{arith}
use mathlib.Core.Path.{refl, ◌∙◌}
use Rattle.links.specs.Link.{next, priority}
use Rattle.members.proofs.Walks.{going_none, going_start, going_out, going_barred, going_unfit, going_rises, going_met, going_last, going_on}
use Rattle.members.proofs.Roll.walk.Goals as goal

pub returns-then-tail-eq0 : goal.returns-then-tail-eq0
returns-then-tail-eq0 c = λ js T. going_none _ _ _ _ _ _ js _ c.if-tail-eq0.true T

pub loop-found-init : goal.loop-found-init
unfolding next
loop-found-init c = (omega arith, λ js T. going_start _ _ _ _ _ _ js _ _ c.if-tail-eq0.false T (c.from-p.ensures ∙ c.next_field.ensures))

pub returns-then-not-eligible : goal.returns-then-not-eligible
returns-then-not-eligible c = λ js T. going_barred _ _ _ _ _ _ _ _ _ _ (c.loop-found.invariant.1 js T) _ (rw c.from-processes.ensures at c.eligible.ensures.same) _ c.if-not-eligible.true

pub returns-then-not-fits : goal.returns-then-not-fits
returns-then-not-fits c =
    λ js T.
    going_unfit _ _ _ _ _ _ _ _ _ _ (c.loop-found.invariant.1 js T) _ (rw c.from-processes.ensures at c.eligible.ensures.same) _ c.fits.ensures _ c.if-not-fits.true

pub returns-then-not-falls : goal.returns-then-not-falls
returns-then-not-falls c =
    λ js T.
    going_rises _ _ _ _ _ _ _ _ _ _ (c.loop-found.invariant.1 js T) _ (rw c.from-processes.ensures at c.eligible.ensures.same) _ c.fits.ensures _ c.falls.ensures _ c.if-not-falls.true

pub returns-then-not-mark : goal.returns-then-not-mark
returns-then-not-mark c =
    λ js T.
    going_met _ _ _ _ _ _ _ _ _ _ (c.loop-found.invariant.1 js T) _ (rw c.from-processes.ensures at c.eligible.ensures.same)
    _ c.fits.ensures _ c.falls.ensures _ c.loop-found.invariant.0 c.mark.ensures.1 _ c.if-not-mark.true

pub returns-then-p-tail : goal.returns-then-p-tail
returns-then-p-tail c =
    λ js T.
    going_last _ _ _ _ _ _ _ _ _ _ (c.loop-found.invariant.1 js T) _ (rw c.from-processes.ensures at c.eligible.ensures.same)
    _ c.fits.ensures _ c.falls.ensures _ c.loop-found.invariant.0 c.mark.ensures.1
    c.if-not-eligible.false c.if-not-fits.false c.if-not-falls.false c.if-not-mark.false (rw c.from-processes.ensures at c.loop-found-test.true) _ c.mark.ensures.0
    c.if-p-tail.true

pub loop-found-preserved : goal.loop-found-preserved
unfolding next priority
loop-found-preserved c = (
  omega arith,
  λ js T.
      going_on _ _ _ _ _ _ _ _ _ _ (c.loop-found.invariant.1 js T) _ (rw c.from-processes.ensures at c.eligible.ensures.same)
      _ c.fits.ensures _ c.falls.ensures _ c.loop-found.invariant.0 c.mark.ensures.1
      c.if-not-eligible.false c.if-not-fits.false c.if-not-falls.false c.if-not-mark.false (rw c.from-processes.ensures at c.loop-found-test.true) _ c.mark.ensures.0
      _ _ c.if-p-tail.false (c.from-p-in-loop-found.ensures ∙ c.next_field-in-loop-found.ensures) refl,
)

pub returns : goal.returns
returns c = λ js T. going_out _ _ _ _ _ _ _ _ _ _ (c.loop-found.invariant.1 js T) _ (rw c.from-processes.ensures at c.loop-found-test.false)
