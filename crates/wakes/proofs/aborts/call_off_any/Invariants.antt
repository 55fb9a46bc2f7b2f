-- `wakes::aborts::call_off_any` meets its contract. The loop's invariant: no word has changed, and of the conditions passed none is abortable with the process in it. Assumes nothing.
use Prim.Native.Nat.{◌+◌, ◌-◌, ◌≤◌}
use mathlib.Core.Path.{◌≡◌}
use mathlib.Core.Bool.{false}
use Rattle.model.specs.Queue.{any_of}
use Rattle.model.specs.Machine.{State, model}
use Rattle.area.specs.Holds.{Holds}
use Rattle.wakes.proofs.Aborting.{heeds}
use Rattle.wakes.proofs.aborts.call_off_any.Given as goal

abbrev pub invariant-loop-c : goal.invariant-loop-c
invariant-loop-c l = record {
  at_most : l.c ≤ l.shape.conditions + 1;
  same : l.area ≡ l.initial.area;
  none : (s : State model) → Holds l.shape l.initial.area s → any_of (l.c - 1) (heeds s l.p) ≡ false;
}
