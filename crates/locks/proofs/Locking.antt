-- What Enter and Exit come to at each of their returns, by the numbers that the code reads: their rules, test by test. Assumes nothing.
use Prim.Native.Nat.{ℕ}
use mathlib.Core.Path.{◌≡◌, refl, sym, ap, ◌∙◌}
use mathlib.Core.Logic.{◌≢◌}
use mathlib.Core.Bool.{true, false, not}
use mathlib.Core.List.{List, [], ◌∷◌}
use lib.Dec.{eqb}
use lib.ListN.{length}
use Rattle.model.specs.declared.Shape.{Shape}
use Rattle.model.specs.declared.Answer.{Answer}
use Rattle.model.specs.declared.Call.TheVariants.{Enter, Exit}
use Rattle.model.specs.Queue.{outside, first, first_only, ahead_of}
use Rattle.model.specs.Queue.Queue.{ready, lock}
use Rattle.model.specs.Field.{put}
use Rattle.model.specs.Field.Field.{running, failed, holder}
use Rattle.model.specs.Rules.{when, decide, released}
use Rattle.model.specs.Rules.Effect.{accept}
use Rattle.model.specs.Machine.{State, model, finish, refusal}
use Rattle.model.proofs.Tests.{eqb_yes, eqb_no}
use Rattle.model.proofs.Loops.{released_moved}
use Rattle.area.specs.Holds.{Holds, Becomes, with, sent, Gives}
use Rattle.area.specs.Calls.{Does, Calling, changed}
use Rattle.outcomes.proofs.Outcomes.{when_yes, when_no, choose_yes, choose_no, Tested, calling_tested, refuses, refuses_by, accepts, accepts_ready}
use Rattle.moves.proofs.Numbers.{first_only_lem, nobody_first}

-- ---- the rules, with r the running process, k the code of the tests that every call of a lock shares, and h the lock's holder

module _ {n : Shape} {old : List ℕ} {s : State model} (H : Holds n old s) (l : ℕ) {r k : ℕ} (er : r ≡ s.fields running) (ek : Calling r n.locks l k) where
  tested : Tested k (λ e. when (eqb (s.fields running) 0) 6 (when (outside n.locks l) 7 e))
  tested = rw (← er) (calling_tested ek)

  pub enter_refused : {a : Answer} → k ≢ 0 → a ≡ refusal k → Does (Enter l) n old old s a
  unfolding decide
  enter_refused = refuses_by H (Enter l) _ refl tested

  pub exit_refused : {a : Answer} → k ≢ 0 → a ≡ refusal k → Does (Exit l) n old old s a
  unfolding decide
  exit_refused = refuses_by H (Exit l) _ refl tested

  module _ (z : k ≡ 0) {h : ℕ} (eh : h ≡ s.fields (holder l)) where
    own : h ≡ r → eqb (s.fields (holder l)) (s.fields running) ≡ true
    own e = eqb_yes (s.fields (holder l)) (s.fields running) (sym eh ∙ e ∙ er)

    foreign : h ≢ r → eqb (s.fields (holder l)) (s.fields running) ≡ false
    foreign d = eqb_no (s.fields (holder l)) (s.fields running) (λ e. d (eh ∙ e ∙ sym er))

    pub enter_own : {a : Answer} → h ≡ r → a ≡ refusal 8 → Does (Enter l) n old old s a
    unfolding decide
    enter_own e = refuses H (Enter l) 8 (tested.passed z _ ∙ when_yes 8 _ (own e))

    pub enter_free : {mid new : List ℕ} {a : Answer} → h ≢ r → h ≡ 0 → Becomes n old mid (with (holder l) r s)
        → Gives n mid new a (finish model (put (holder l) r s.fields) s.queues 1 0 0) → Does (Enter l) n old new s a
    unfolding decide
    enter_free d e =
        accepts H (Enter l) (put (holder l) r s.fields) [] 1 0 0
        (tested.passed z _ ∙ when_no 8 _ (foreign d) ∙ choose_yes _ _ (eqb_yes (s.fields (holder l)) 0 (sym eh ∙ e))
        ∙ ap {A = ℕ} (λ x. accept (put (holder l) x s.fields) [] 1) (sym er))
        refl refl

    pub enter_taken : {mid new : List ℕ} {a : Answer} {others : ℕ} → h ≢ r → h ≢ 0
        → (others ≡ length (ahead_of r ((changed (put (failed r) 1 s.fields) ((r, lock l) ∷ []) s).queues (lock l)))) × Becomes n old mid (changed (put (failed r) 1 s.fields) ((r, lock l) ∷ []) s)
        → Gives n mid new a (finish model (put (failed r) 1 s.fields) (changed (put (failed r) 1 s.fields) ((r, lock l) ∷ []) s).queues 0 0 others) → Does (Enter l) n old new s a
    unfolding decide
    enter_taken d e t =
        accepts H (Enter l) (put (failed r) 1 s.fields) ((r, lock l) ∷ []) 0 0 _
        (tested.passed z _ ∙ when_no 8 _ (foreign d) ∙ choose_no _ _ (eqb_no (s.fields (holder l)) 0 (λ k. e (eh ∙ k)))
        ∙ ap {A = ℕ} (λ x. accept (put (failed x) 1 s.fields) ((x, lock l) ∷ []) 0) (sym er))
        refl t.0 t.1

    pub exit_foreign : {a : Answer} → h ≢ r → a ≡ refusal 9 → Does (Exit l) n old old s a
    unfolding decide
    exit_foreign d = refuses H (Exit l) 9 (tested.passed z _ ∙ when_yes 9 _ (ap not (foreign d)))

    pub exit_own : {mid new : List ℕ} {a : Answer} {m : ℕ} → h ≡ r
        → (m ≡ length (first_only (s.queues (lock l)))) × Becomes n old mid (changed (put (holder l) 0 s.fields) (released s.queues l) s)
        → Gives n mid new a (finish model (put (holder l) 0 s.fields) (changed (put (holder l) 0 s.fields) (released s.queues l) s).queues 0 m 0) → Does (Exit l) n old new s a
    unfolding decide
    exit_own e t =
        accepts_ready H (Exit l) (put (holder l) 0 s.fields) (first_only (s.queues (lock l))) 0 _
        (tested.passed z _ ∙ when_no 9 _ (ap not (own e)))
        (t.0 ∙ sym (released_moved n.processes s.queues H.placed.place H.placed.once l)) t.1

-- ---- a lock is released: nobody waits for it, or the first who does moves

module _ {n : Shape} {old new : List ℕ} {s : State model} (H : Holds n old s) (l : ℕ) {x : ℕ} (e : x ≡ first (s.queues (lock l))) where
  pub release_none : x ≡ 0 → Becomes n old new (with (holder l) 0 s)
      → (◌≡◌ {A = ℕ} 0 (length (first_only (s.queues (lock l))))) × Becomes n old new (changed (put (holder l) 0 s.fields) (released s.queues l) s)
  release_none z b = let k = nobody_first H (lock l) e z in (rw k, rw k b)

  pub release_first : x ≢ 0 → Becomes n old new (sent x ready (with (holder l) 0 s))
      → (◌≡◌ {A = ℕ} 1 (length (first_only (s.queues (lock l))))) × Becomes n old new (changed (put (holder l) 0 s.fields) (released s.queues l) s)
  release_first z b = let k = first_only_lem (s.queues (lock l)) e z in (rw k, rw k b)
