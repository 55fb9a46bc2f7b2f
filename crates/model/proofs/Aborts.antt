-- Abort in a valid state, of a process that stands anywhere but in an abortable condition: its bit is set, and nothing else changes. Nobody is
-- called, so nobody moves, and dispatch finds who runs as it was. Assumes nothing.
use Prim.Native.Nat.{ℕ}
use mathlib.Core.Path.{◌≡◌, sym, ap, ◌∙◌}
use mathlib.Core.Bool.{true, false, ◌&&◌, true≢false}
use mathlib.Core.List.{[]}
use Rattle.model.specs.declared.Shape.{Shape}
use Rattle.model.specs.declared.Process.{Process}
use Rattle.model.specs.declared.Call.TheVariants.{Abort}
use Rattle.model.specs.Queue.{Queue, inside, outside, member}
use Rattle.model.specs.Queue.Queue.{ready, condition}
use Rattle.model.specs.Field.{Fields, put, some}
use Rattle.model.specs.Field.Field.{failed, abort, abortable}
use Rattle.model.specs.Rules.{Effect, when, decide, abortably}
use Rattle.model.specs.Rules.Effect.{accept}
use Rattle.model.specs.Machine.{State, model, obey, step}
use Rattle.model.specs.Valid.{Valid}
use Rattle.model.proofs.Tests.{and_split, denied, not_true}
use Rattle.model.proofs.Fields.{dispatch_same}
use Rattle.model.proofs.Places.{any_none, stands_at}

module _ (n : Shape) (s : State model) (v : Valid n s) (p : Process) (q : Queue) (m : member p.0 (s.queues q) ≡ true) (h : (c : ℕ) → q ≡ condition c → s.fields (abortable c) ≡ 0) where
  stands : (r : Queue) → member p.0 (s.queues r) ≡ true → (inside n.processes p.0 ≡ true) × (v.placed.place p.0 ≡ r)
  stands r e = stands_at n.processes s.queues v.placed.place v.placed.once p.0 r e

  nobody : abortably n s.fields s.queues p.0 ≡ false
  nobody = any_none n.conditions (λ c. some (s.fields (abortable c)) && member p.0 (s.queues (condition c)))
      (λ c. denied (some (s.fields (abortable c)) && member p.0 (s.queues (condition c)))
      (λ e. let k = and_split (some (s.fields (abortable c))) (member p.0 (s.queues (condition c))) e in
      true≢false (sym k.0 ∙ rw (h c (sym (stands q m).1 ∙ (stands (condition c) k.1).1)))))

  does : decide n s.fields s.queues (Abort p) ≡ accept (put (abort p.0) 1 s.fields) [] 0
  unfolding decide when
  does = rw (not_true (outside n.processes p.0) (stands q m).0, nobody)

  pub abort_elsewhere : (step model n s (Abort p)).0 ≡ record { fields = put (abort p.0) 1 s.fields; queues = s.queues }
  unfolding step
  abort_elsewhere =
      ap {A = Effect} (λ e. (obey model s e).0) does
      ∙ ap {A = Fields} (λ f. record { fields = f; queues = s.queues })
      (dispatch_same (s.queues ready) (put (abort p.0) 1 s.fields) v.runs (ap {A = ℕ} (λ x. s.fields (failed x)) (sym v.runs) ∙ v.steady))
