-- What Reenter comes to at each of its returns, by what the code reads: its tests, a free lock off which its caller is called, and Enter.
-- Assumes nothing.
use Prim.Native.Nat.{ℕ}
use mathlib.Core.Path.{◌≡◌, refl, sym, ap, ◌∙◌, subst}
use mathlib.Core.Logic.{◌≢◌}
use mathlib.Core.Bool.{Bool, true, false, not, ◌&&◌, ◌||◌, and-false}
use mathlib.Core.List.{List, []}
use lib.Dec.{eqb}
use Rattle.model.specs.declared.Shape.{Shape}
use Rattle.model.specs.declared.Answer.{Answer}
use Rattle.model.specs.declared.Call.TheVariants.{Enter, Reenter}
use Rattle.model.specs.Queue.{outside}
use Rattle.model.specs.Field.{put, some}
use Rattle.model.specs.Field.Field.{running, abort, holder, abortable}
use Rattle.model.specs.Rules.{when, decide, called_off}
use Rattle.model.specs.Rules.Effect.{accept}
use Rattle.model.specs.Machine.{State, model, finish, obey, step, refusal}
use Rattle.model.proofs.Tests.{eqb_yes, eqb_no, not_true}
use Rattle.model.proofs.Rules.{reenter_is}
use Rattle.area.specs.Holds.{Holds, Becomes, with, Gives}
use Rattle.area.specs.Calls.{Does, CallingTwo}
use Rattle.outcomes.proofs.Outcomes.{when_no, choose_yes, Tested, two_tested, two_second, refuses_by, accepts}

-- ---- whether a process is called off

-- x and y are its abort and the condition's abortable
module _ {x v : ℕ} (ex : x ≡ v) where
  pub off_clear : (b : Bool) → x ≡ 0 → not (eqb x 0) ≡ some v && b
  off_clear b z = rw (eqb_yes x 0 z, eqb_yes v 0 (sym ex ∙ z))

  pub off_set : {y w : ℕ} → x ≢ 0 → y ≡ w → not (eqb y 0) ≡ some v && some w
  off_set o d = rw (eqb_no v 0 (λ z. o (ex ∙ z)), d)

-- ---- the rule, with r the running process, k the code of the tests on the numbers, h the lock's holder and b whether r is called off

module _ {n : Shape} {old : List ℕ} {s : State model} (H : Holds n old s) (l c : ℕ) {r k : ℕ} (er : r ≡ s.fields running) (ek : CallingTwo r n.locks l n.conditions c k) where
  tested : Tested k (λ e. when (eqb (s.fields running) 0) 6 (when (outside n.locks l || outside n.conditions c) 7 e))
  tested = rw (← er) (two_tested ek)

  pub reenter_refused : {a : Answer} → k ≢ 0 → a ≡ refusal k → Does (Reenter l c) n old old s a
  unfolding decide
  reenter_refused = refuses_by H (Reenter l c) _ refl tested

  module _ (z : k ≡ 0) where
    -- but for a free lock off which r is called, it is Enter
    as_enter : {new : List ℕ} {a : Answer} → (eqb (s.fields (holder l)) 0 && called_off s.fields c) ≡ false → Does (Enter l) n old new s a → Does (Reenter l c) n old new s a
    unfolding step
    as_enter {new} {a} e =
        subst (Gives n old new a) (ap (obey model s) (sym (reenter_is n s.fields s.queues l c (not_true (outside n.conditions c) (two_second ek z)) e)))

    pub reenter_locked_lem : {h : ℕ} {new : List ℕ} {a : Answer} → h ≡ s.fields (holder l) → h ≢ 0 → Does (Enter l) n old new s a → Does (Reenter l c) n old new s a
    reenter_locked_lem eh o = as_enter (rw (eqb_no (s.fields (holder l)) 0 (λ y. o (eh ∙ y))))

    module _ {b : Bool} (eb : b ≡ some (s.fields (abort r)) && some (s.fields (abortable c))) where
      off : b ≡ called_off s.fields c
      off = eb ∙ ap {A = ℕ} (λ x. some (s.fields (abort x)) && some (s.fields (abortable c))) er

      pub reenter_free : {new : List ℕ} {a : Answer} → b ≡ false → Does (Enter l) n old new s a → Does (Reenter l c) n old new s a
      reenter_free e = as_enter (rw (sym off ∙ e, and-false))

      pub reenter_off : {h : ℕ} {mid new : List ℕ} {a : Answer} → h ≡ s.fields (holder l) → h ≢ r → h ≡ 0 → b ≡ true → Becomes n old mid (with (abort r) 0 s)
          → Gives n mid new a (finish model (put (abort r) 0 s.fields) s.queues 2 0 0) → Does (Reenter l c) n old new s a
      unfolding decide
      reenter_off eh o free e =
          accepts H (Reenter l c) (put (abort r) 0 s.fields) [] 2 0 0
          (tested.passed z _ ∙ when_no 8 _ (eqb_no (s.fields (holder l)) (s.fields running) (λ d. o (eh ∙ d ∙ sym er)))
          ∙ choose_yes _ _ (rw (eqb_yes (s.fields (holder l)) 0 (sym eh ∙ free), sym off ∙ e)) ∙ ap {A = ℕ} (λ x. accept (put (abort x) 0 s.fields) [] 2) (sym er))
          refl refl
