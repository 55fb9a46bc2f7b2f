-- Requeue: what it comes to by its tests, and who arrives in ready: a process from a park, since it stands in no other queue. Assumes nothing.
use Prim.Native.Nat.{ℕ, suc, ◌≤◌, ◌<◌}
use native.Mathlib.Omega.{arith}
use mathlib.Core.Path.{◌≡◌, refl, sym, ap, ◌∙◌}
use mathlib.Core.Bool.{Bool, true, false, not, ◌||◌, or-true}
use mathlib.Core.Logic.{◌≢◌, ◌⊎◌, inl, inr}
use mathlib.Core.List.{List, [], ◌∷◌}
use lib.Dec.{ltb}
use Rattle.model.specs.declared.Shape.{Shape}
use Rattle.model.specs.declared.Process.{Process}
use Rattle.model.specs.declared.Answer.{Answer}
use Rattle.model.specs.declared.Call.TheVariants.{Requeue}
use Rattle.model.specs.Queue.{outside, inside, bit, member, is_condition}
use Rattle.model.specs.Queue.Queue.{ready, park}
use Rattle.model.specs.Field.{priorities}
use Rattle.model.specs.Rules.{ready_or_park, when, decide}
use Rattle.model.specs.Machine.{State, model, moves, arrivals, finish, refusal}
use Rattle.model.proofs.Tests.{holds, fails, EqCase, eqb_case, eqb_no, leb_yes, leb_no}
use Rattle.model.proofs.Kept.{low_exists}
use Rattle.model.proofs.Places.{ahead_park}
use Rattle.model.proofs.Loops.{elsewhere}
use Rattle.area.specs.Layout.{at}
use Rattle.area.specs.Layout.Slot.{Tail}
use Rattle.area.specs.Holds.{Holds, Becomes, Moves, Gives}
use Rattle.area.specs.Calls.{Does, Missing, changed}
use Rattle.moves.proofs.Numbers.{not_outside}
use Rattle.moves.proofs.Shared.{trying}
use Rattle.outcomes.proofs.Outcomes.{when_yes, when_no, Tested, missing_tested, refuses, refuses_by, accepts}

-- ---- ready and the parks

park_there : (k : ℕ) → k ≢ 0 → ready_or_park k ≡ park k
park_there k h = rw (eqb_no k 0 h)

pub no_condition : (k : ℕ) → 0 ≡ bit (is_condition (ready_or_park k))
no_condition k = go (eqb_case k 0)
  where
    go : EqCase k 0 → 0 ≡ bit (is_condition (ready_or_park k))
    go (holds e z) = rw z
    go (fails e z) = rw z

-- a process on its way from one of them to another, where it may stand
abbrev pub between : {n : Shape} {ws : List ℕ} {s : State model} {from to p : ℕ} (a b : ℕ) → Holds n ws s → a ≤ n.parks → b ≤ n.parks → from ≡ at n (Tail (ready_or_park a)) → to ≡ at n (Tail (ready_or_park b)) → inside n.processes p ≡ true → Moves n ws from to p 0
between {n} a b H x y here there i = trying H (ready_or_park a) (ready_or_park b) (low_exists n a x) (low_exists n b y) here there i (no_condition b)

-- who stands in a park does not stand in ready
pub not_ready : {n : Shape} {ws : List ℕ} {s : State model} → Holds n ws s → (a p : ℕ) → member p (s.queues (ready_or_park a)) ≡ true → a ≢ 0 → member p (s.queues ready) ≡ false
not_ready {n} {ws} {s} H a p m h = elsewhere n.processes s.queues H.placed.place H.placed.once p (park a) ready (λ e. apart e) (rw (park_there a h) at m)
  where
    apart : park a ≡ ready → ⊥
    apart e = let z : ◌≡◌ {A = ℕ} 0 1 = cc in omega arith

-- ---- the call

-- a park that is not there
no_park : (n : Shape) (a b : ℕ) (o : Bool) → (n.parks < a) ⊎ ((a ≤ n.parks) × (n.parks < b)) → ltb n.parks a || ltb n.parks b || o ≡ true
no_park n a b o (inl h) = rw (leb_yes (suc n.parks) a (omega arith))
no_park n a b o (inr h) = rw (leb_yes (suc n.parks) b (omega arith), or-true)

module _ {n : Shape} {old : List ℕ} {s : State model} (H : Holds n old s) (a b : ℕ) (p : Process) where
  pub requeue_none : (n.parks < a) ⊎ ((a ≤ n.parks) × (n.parks < b)) → Does (Requeue a b p) n old old s (refusal 7)
  unfolding decide
  requeue_none w = refuses H (Requeue a b p) 7 (when_yes 7 _ (no_park n a b (outside n.processes p.0) w)) refl

  module _ (x : a ≤ n.parks) (y : b ≤ n.parks) where
    parks_there : (o : Bool) → ltb n.parks a || ltb n.parks b || o ≡ o
    parks_there o = rw (leb_no (suc n.parks) a (omega arith), leb_no (suc n.parks) b (omega arith))

    -- with k the code of the test on the process
    tested : {k : ℕ} → Missing n.processes p.0 k → Tested k (when (ltb n.parks a || ltb n.parks b || outside n.processes p.0) 7)
    tested ek = rw (parks_there (outside n.processes p.0)) (missing_tested ek)

    pub requeue_missing : {r : Answer} {k : ℕ} → Missing n.processes p.0 k → k ≢ 0 → r ≡ refusal k → Does (Requeue a b p) n old old s r
    unfolding decide
    requeue_missing ek = refuses_by H (Requeue a b p) _ refl (tested ek)

    module _ (i : inside n.processes p.0 ≡ true) where
      right : ltb n.parks a || ltb n.parks b || outside n.processes p.0 ≡ false
      right = parks_there (outside n.processes p.0) ∙ not_outside n.processes p.0 i

      pub requeue_absent : {new : List ℕ} → new ≡ old → member p.0 (s.queues (ready_or_park a)) ≡ false → Does (Requeue a b p) n old new s (refusal 10)
      unfolding decide
      requeue_absent same m = rw same (refuses H (Requeue a b p) 10 (when_no 7 _ right ∙ when_yes 10 _ (ap not m)) refl)

      pub requeue_moves : {r : Answer} {came : ℕ} {mid new : List ℕ} → member p.0 (s.queues (ready_or_park a)) ≡ true → came ≡ arrivals (s.queues ready) ((p.0, ready_or_park b) ∷ [])
          → Becomes n old mid (changed s.fields ((p.0, ready_or_park b) ∷ []) s)
          → Gives n mid new r (finish model s.fields (moves model (priorities s.fields) s.queues ((p.0, ready_or_park b) ∷ [])) 0 came 0) → Does (Requeue a b p) n old new s r
      unfolding decide
      requeue_moves {came} m e b' g =
          accepts H (Requeue a b p) s.fields ((p.0, ready_or_park b) ∷ []) 0 came 0 (when_no 7 _ right ∙ when_no 10 _ (ap not m)) e (sym (ahead_park ((changed s.fields ((p.0, ready_or_park b) ∷ []) s).queues) p.0 b)) b' g
