use mathlib.Core.Path.{◌≡◌, refl, sym, ◌∙◌, subst}
use mathlib.Core.List.{List}
use Prim.Native.Nat.{ℕ}
use native.Mathlib.Omega.{arith}
use Rattle.model.specs.declared.Shape.{Shape}
use Rattle.model.specs.Machine.{State, model}
use Rattle.model.proofs.Tests.{bounds_inside}
use Rattle.model.proofs.Places.{not_abortably}
use Rattle.area.specs.Holds.{Holds}
use Rattle.wakes.proofs.Aborting.{heeds, any_passed, called_there, called_nowhere, all_passed}
use Rattle.wakes.proofs.aborts.call_off_any.Goals as goal

pub returns-then-not-waits : goal.returns-then-not-waits
returns-then-not-waits c s H = called_nowhere s c.args.p H refl (not_abortably c.args.shape s.fields s.queues c.args.p (sym (c.waits.ensures s H) ∙ c.if-not-waits.true))

-- the area is as it was
still : {n : Shape} {new old : List ℕ} {s : State model} → new ≡ old → Holds n old s → Holds n new s
still {n} {s = s} e = subst (λ (ws : List ℕ). Holds n ws s) (sym e)

pub call_off-requires : goal.call_off-requires
call_off-requires c = record { held = (c.requires.held.0, still c.loop-c.invariant.same c.requires.held.1); is_condition = bounds_inside c.args.shape.conditions c.loop-c.c (omega arith) c.loop-c-test.true; is_process = c.requires.is_process }

pub returns-then-call_off : goal.returns-then-call_off
returns-then-call_off c s H =
    let same = c.loop-c.invariant.same in
    let t = c.call_off.ensures s (still same H) in
    let e = sym t.told ∙ c.if-call_off.true in
    called_there s c.args.p c.loop-c.c (bounds_inside c.args.shape.conditions c.loop-c.c (omega arith) c.loop-c-test.true) e (rw (← same) (t.done e))

pub loop-c-preserved : goal.loop-c-preserved
loop-c-preserved c =
    let same = c.loop-c.invariant.same in
    let t = c.call_off.ensures c.requires.held.0 (still same c.requires.held.1) in
    record {
      at_most = omega arith;
      same = t.kept (sym t.told ∙ c.if-call_off.false) ∙ same;
      none = λ s H. any_passed c.loop-c.c (heeds s c.args.p) (omega arith) (c.loop-c.invariant.none s H) (sym (c.call_off.ensures s (still same H)).told ∙ c.if-call_off.false);
    }

pub returns-else-call_off : goal.returns-else-call_off
returns-else-call_off c s H =
    let same = c.loop-c.invariant.same in
    let t = c.call_off.ensures s (still same H) in
    let no = sym t.told ∙ c.if-call_off.false in
    called_nowhere s c.args.p H (t.kept no ∙ same) (all_passed c.args.shape.conditions (heeds s c.args.p) (omega arith) (any_passed c.loop-c.c (heeds s c.args.p) (omega arith) (c.loop-c.invariant.none s H) no))

pub returns-else-not-waits : goal.returns-else-not-waits
returns-else-not-waits c s H = called_nowhere s c.args.p H c.loop-c.invariant.same (all_passed c.args.shape.conditions (heeds s c.args.p) (omega arith) (c.loop-c.invariant.none s H))
