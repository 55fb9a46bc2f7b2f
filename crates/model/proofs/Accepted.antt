-- What holds of an effect if it is accepted, and how to walk a call's rule by its tests without writing a branch out. Assumes nothing.
use Prim.Native.Nat.{ℕ, ◌≤◌}
use mathlib.Core.Path.{◌≡◌, refl, subst}
use mathlib.Core.Bool.{Bool, true, false, ◌&&◌}
use mathlib.Core.List.{List, [], ◌∷◌}
use lib.Dec.{eqb, leb}
use Rattle.model.specs.declared.Shape.{Shape}
use Rattle.model.specs.declared.Call.{Call}
use Rattle.model.specs.declared.Call.TheVariants.{Enter, Exit, Wait, Notify, Broadcast, Naked, Requeue, SetPriority, Tick, Abort, SetAbortable, Reenter}
use Rattle.model.specs.Queue.{Queue, Note}
use Rattle.model.specs.Queue.Queue.{lock, condition}
use Rattle.model.specs.Field.{Fields, put}
use Rattle.model.specs.Field.Field.{running, failed, holder}
use Rattle.model.specs.Rules.{Effect, when, choose, nakedly, enters, decide}
use Rattle.model.specs.Rules.Effect.{refuse, accept}
use Rattle.model.proofs.Tests.{so, leb_case, and_split}

-- the codes that a rule refuses with lie in 2 to 10
abbrev pub refusing : ℕ → Bool
refusing k = leb 2 k && leb k 10

pub data Accepted (P : Fields → List Note → ℕ → Type 0) : Effect → Type 0 where
  refused : {k : ℕ} → refusing k ≡ true → Accepted P (refuse k)
  accepted : {f : Fields} {ms : List Note} {k : ℕ} → P f ms k → Accepted P (accept f ms k)

module _ {P : Fields → List Note → ℕ → Type 0} where
  pub when_by : {b : Bool} (k : ℕ) {e : Effect} → refusing k ≡ true → (b ≡ false → Accepted P e) → Accepted P (when b k e)
  unfolding when
  when_by {b = true} k z h = refused z
  when_by {b = false} k z h = h refl

  pub choose_by : {b : Bool} {d e : Effect} → (b ≡ true → Accepted P d) → (b ≡ false → Accepted P e) → Accepted P (choose b d e)
  unfolding choose
  choose_by {b = true} h k = h refl
  choose_by {b = false} h k = k refl

  -- both ways of a device's notify
  pub nakedly_by : (c : ℕ) (xs : List ℕ) (s : Fields) → (xs ≡ [] → Accepted P (nakedly c [] s)) → ((x : ℕ) (ys : List ℕ) → xs ≡ x ∷ ys → Accepted P (nakedly c (x ∷ ys) s)) → Accepted P (nakedly c xs s)
  nakedly_by c [] s h k = h refl
  nakedly_by c (x ∷ ys) s h k = k x ys refl

  -- both ways of Enter past its codes
  pub enters_by : (l : ℕ) (s : Fields) → (eqb (s (holder l)) 0 ≡ true → P (put (holder l) (s running) s) [] 1)
      → (eqb (s (holder l)) 0 ≡ false → P (put (failed (s running)) 1 s) ((s running, lock l) ∷ []) 0) → Accepted P (enters l s)
  enters_by l s h k = choose_by (λ e. accepted (h e)) (λ e. accepted (k e))

  -- what is refused has such a code
  pub of_refuse : {k : ℕ} → Accepted P (refuse k) → (2 ≤ k) × (k ≤ 10)
  of_refuse {k} (refused e) = let s = and_split (leb 2 k) (leb k 10) e in (so (leb_case 2 k) s.0, so (leb_case k 10) s.1)

-- a mark is 0, 1 or 2
abbrev pub Marked : Fields → List Note → ℕ → Type 0
Marked f ms k = leb k 2 ≡ true

pub decide_marks : (n : Shape) (s : Fields) (qs : Queue → List ℕ) (c : Call) → Accepted Marked (decide n s qs c)
unfolding decide nakedly
decide_marks n s qs (Enter l) = when_by _ refl (λ _. when_by _ refl (λ _. when_by _ refl (λ _. enters_by l s (λ _. refl) (λ _. refl))))
decide_marks n s qs (Exit l) = when_by _ refl (λ _. when_by _ refl (λ _. when_by _ refl (λ _. accepted refl)))
decide_marks n s qs (Wait l c t) =
    when_by _ refl (λ _. when_by _ refl (λ _. when_by _ refl (λ _. choose_by (λ _. accepted refl) (λ _. choose_by (λ _. accepted refl) (λ _. accepted refl)))))
decide_marks n s qs (Notify c) = when_by _ refl (λ _. when_by _ refl (λ _. accepted refl))
decide_marks n s qs (Broadcast c) = when_by _ refl (λ _. when_by _ refl (λ _. accepted refl))
decide_marks n s qs (Naked c) = when_by _ refl (λ _. nakedly_by c (qs (condition c)) s (λ _. accepted refl) (λ x ys _. accepted refl))
decide_marks n s qs (Requeue a b p) = when_by _ refl (λ _. when_by _ refl (λ _. accepted refl))
decide_marks n s qs (SetPriority v) = when_by _ refl (λ _. when_by _ refl (λ _. accepted refl))
decide_marks n s qs Tick = accepted refl
decide_marks n s qs (Abort p) = when_by _ refl (λ _. accepted refl)
decide_marks n s qs (SetAbortable c v) = when_by _ refl (λ _. accepted refl)
decide_marks n s qs (Reenter l c) =
    when_by _ refl (λ _. when_by _ refl (λ _. when_by _ refl (λ _. choose_by (λ _. accepted refl) (λ _. enters_by l s (λ _. refl) (λ _. refl)))))

-- no rule refuses with code 0, nor with code 1
pub codes : (n : Shape) (s : Fields) (qs : Queue → List ℕ) (c : Call) (k : ℕ) → decide n s qs c ≡ refuse k → (2 ≤ k) × (k ≤ 10)
codes n s qs c k e = of_refuse (subst (Accepted Marked) e (decide_marks n s qs c))
