-- What waking and dispatch leave of the fields: a field that no put names stays. By induction on the processes. Assumes nothing.
use Prim.Native.Nat.{ℕ}
use mathlib.Core.Path.{◌≡◌, refl, sym, ap, ◌∙◌, fun_ext}
use mathlib.Core.Logic.{◌≢◌}
use mathlib.Core.Bool.{true, false, false≢true}
use mathlib.Core.List.{List, [], ◌∷◌}
use lib.Dec.{eqb}
use Rattle.model.specs.Queue.{member, first}
use Rattle.model.specs.Field.{Field, Fields, put, priorities}
use Rattle.model.specs.Field.Field.{running, priority, armed, timer, failed}
use Rattle.model.specs.Rules.{disarm, calm}
use Rattle.model.specs.Machine.{dispatch}
use Rattle.model.proofs.Tests.{holds, fails, EqCase, eqb_case, PutCase, put_case, put_here, put_away, or_split, not_so}

-- a field that is neither an armed nor a timer
pub calm_away : (g : Field) → ((p : ℕ) (s : Fields) → disarm p s g ≡ s g) → (ps : List ℕ) (s : Fields) → calm ps s g ≡ s g
calm_away g h [] s = refl
calm_away g h (p ∷ ps) s = calm_away g h ps (disarm p s) ∙ h p s

pub calm_priorities : (ps : List ℕ) (s : Fields) → priorities (calm ps s) ≡ priorities s
calm_priorities ps s = fun_ext (λ p. calm_away (priority p) (λ x t. refl) ps s)

-- armed and the timer: who is disarmed has 0 there, and the others what they had
pub record Cleared (F : ℕ → Field) : Type 0 where
  pub here : (p : ℕ) (s : Fields) → disarm p s (F p) ≡ 0
  pub away : (x p : ℕ) (s : Fields) → x ≢ p → disarm x s (F p) ≡ s (F p)

pub armed_cleared : Cleared armed
armed_cleared = record { here = λ p s. put_here (armed p) 0 (put (timer p) 0 s); away = λ x p s o. put_away (armed x) 0 (put (timer x) 0 s) (armed p) (λ e. o (cc)) }

pub timer_cleared : Cleared timer
timer_cleared = record { here = λ p s. put_here (timer p) 0 s; away = λ x p s o. put_away (timer x) 0 s (timer p) (λ e. o (cc)) }

-- so it is with those who wake, and with the others
module _ {F : ℕ → Field} (C : Cleared F) where
  pub calm_other : (p : ℕ) (ps : List ℕ) (s : Fields) → member p ps ≡ false → calm ps s (F p) ≡ s (F p)
  calm_other p [] s e = refl
  calm_other p (x ∷ ps) s e =
      let k = or_split (eqb x p) (member p ps) e in
      calm_other p ps (disarm x s) k.1 ∙ C.away x p s (not_so (eqb_case x p) k.0)

  calm_none : (p : ℕ) (ps : List ℕ) (s : Fields) → s (F p) ≡ 0 → calm ps s (F p) ≡ 0
  calm_none p [] s e = e
  calm_none p (x ∷ ps) s e = calm_none p ps (disarm x s) (go (eqb_case x p))
    where
      go : EqCase x p → disarm x s (F p) ≡ 0
      go (holds d z) = rw d (C.here p s)
      go (fails d z) = C.away x p s d ∙ e

  pub calm_clears : (p : ℕ) (ps : List ℕ) (s : Fields) → member p ps ≡ true → calm ps s (F p) ≡ 0
  calm_clears p [] s e = absurd (false≢true e)
  calm_clears p (x ∷ ps) s e = go (eqb_case x p) (calm_clears p ps (disarm x s))
    where
      go : EqCase x p → (member p ps ≡ true → calm ps (disarm x s) (F p) ≡ 0) → calm ps (disarm x s) (F p) ≡ 0
      go (holds d z) ih = calm_none p ps (disarm x s) (rw d (C.here p s))
      go (fails d z) ih = ih (rw z at e)

-- the value that a field has changes nothing
pub put_own : (f : Field) (v : ℕ) (s : Fields) → s f ≡ v → put f v s ≡ s
put_own f v s e = fun_ext (λ g. go g (put_case f g))
  where
    go : (g : Field) → PutCase f g → put f v s g ≡ s g
    go g (holds d z) = rw z (sym e ∙ ap s d)
    go g (fails d z) = rw z

-- a field that is neither running nor failed
pub dispatch_away : (g : Field) → ((x : ℕ) (s : Fields) → put running x s g ≡ s g) → ((x : ℕ) (s : Fields) → put (failed x) 0 s g ≡ s g)
    → (xs : List ℕ) (s : Fields) → dispatch xs s g ≡ s g
dispatch_away g h k [] s = h 0 s
dispatch_away g h k (x ∷ xs) s = k x (put running x s) ∙ h x s

pub dispatch_priorities : (xs : List ℕ) (s : Fields) → priorities (dispatch xs s) ≡ priorities s
dispatch_priorities xs s = fun_ext (λ p. dispatch_away (priority p) (λ x t. refl) (λ x t. refl) xs s)

-- where the first runs already and is not failed, dispatch changes nothing
pub dispatch_same : (xs : List ℕ) (s : Fields) → s running ≡ first xs → s (failed (first xs)) ≡ 0 → dispatch xs s ≡ s
dispatch_same [] s r f = put_own running 0 s r
dispatch_same (x ∷ xs) s r f = put_own (failed x) 0 (put running x s) f ∙ put_own running x s r

pub dispatch_running : (xs : List ℕ) (s : Fields) → dispatch xs s running ≡ first xs
dispatch_running [] s = refl
dispatch_running (x ∷ xs) s = refl
