-- What SetPriority comes to at each of its returns, by the numbers that the code reads: its rule, test by test. Assumes nothing.
use Prim.Native.Nat.{ℕ, ◌≤◌, ◌<◌}
use native.Mathlib.Omega.{arith}
use mathlib.Core.Path.{◌≡◌, refl, sym, ap, ◌∙◌}
use mathlib.Core.Logic.{◌≢◌}
use mathlib.Core.Bool.{false}
use mathlib.Core.List.{List, [], ◌∷◌}
use lib.Dec.{eqb}
use Rattle.model.specs.declared.Shape.{Shape}
use Rattle.model.specs.declared.Answer.{Answer}
use Rattle.model.specs.declared.Priority.{Priority}
use Rattle.model.specs.declared.Call.TheVariants.{SetPriority}
use Rattle.model.specs.Queue.Queue.{ready}
use Rattle.model.specs.Field.{put}
use Rattle.model.specs.Field.Field.{running, priority}
use Rattle.model.specs.Rules.{decide}
use Rattle.model.specs.Rules.Effect.{accept}
use Rattle.model.specs.Machine.{State, model, finish, refusal}
use Rattle.model.specs.Valid.{Valid}
use Rattle.model.proofs.Tests.{eqb_yes, eqb_no, leb_yes, leb_no}
use Rattle.area.specs.Holds.{Holds, Becomes, with, sent, Gives}
use Rattle.area.specs.Calls.{Does}
use Rattle.outcomes.proofs.Outcomes.{when_yes, when_no, refuses, accepts_ready}
use Rattle.moves.proofs.Shared.{runner_stands}

-- r is the running process
module _ {n : Shape} {old : List ℕ} {s : State model} (H : Holds n old s) (v : Priority) {r : ℕ} (er : r ≡ s.fields running) where
  pub set_priority_nobody : r ≡ 0 → Does (SetPriority v) n old old s (refusal 6)
  unfolding decide
  set_priority_nobody z = refuses H (SetPriority v) 6 (when_yes 6 _ (eqb_yes (s.fields running) 0 (sym er ∙ z))) refl

  module _ (z : r ≢ 0) where
    someone : eqb (s.fields running) 0 ≡ false
    someone = eqb_no (s.fields running) 0 (λ e. z (er ∙ e))

    pub set_priority_high : 7 < v.0 → Does (SetPriority v) n old old s (refusal 4)
    unfolding decide
    set_priority_high h = refuses H (SetPriority v) 4 (when_no 6 _ someone ∙ when_yes 4 _ (leb_yes 8 v.0 h)) refl

    -- who runs stands in ready, and does not come into it
    pub set_priority_low : {mid new : List ℕ} {a : Answer} → Valid n s → v.0 ≤ 7 → Becomes n old mid (sent r ready (with (priority r) v.0 s))
        → Gives n mid new a (finish model (put (priority r) v.0 s.fields) (sent r ready (with (priority r) v.0 s)).queues 0 0 0) → Does (SetPriority v) n old new s a
    unfolding decide
    set_priority_low valid h =
        accepts_ready H (SetPriority v) (put (priority r) v.0 s.fields) (r ∷ []) 0 0
        (when_no 6 _ someone ∙ when_no 4 _ (leb_no 8 v.0 (omega arith))
        ∙ ap {A = ℕ} (λ x. accept (put (priority x) v.0 s.fields) ((x, ready) ∷ []) 0) (sym er))
        (rw (runner_stands er valid z))
