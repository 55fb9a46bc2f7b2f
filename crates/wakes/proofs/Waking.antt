-- One process wakes: what Notify and Naked come to by their tests. A process that wakes from a condition was not in ready, so it arrives there.
-- Assumes nothing.
use Prim.Native.Nat.{ℕ}
use native.Mathlib.Omega.{arith}
use mathlib.Core.Path.{◌≡◌, refl, sym, ◌∙◌, subst}
use mathlib.Core.Bool.{true}
use mathlib.Core.Logic.{◌≢◌}
use mathlib.Core.List.{List, [], ◌∷◌}
use lib.Dec.{eqb}
use lib.ListN.{length}
use Rattle.std.proofs.lemmas.List.{nil_from_length}
use Rattle.model.specs.declared.Shape.{Shape}
use Rattle.model.specs.declared.Answer.{Answer}
use Rattle.model.specs.declared.Call.TheVariants.{Notify, Naked}
use Rattle.model.specs.Queue.{outside, inside, first, first_only, to_ready}
use Rattle.model.specs.Queue.Queue.{ready, condition}
use Rattle.model.specs.Field.{Fields, put}
use Rattle.model.specs.Field.Field.{running, wakeup}
use Rattle.model.specs.Rules.{when, calm, wake, nakedly, decide}
use Rattle.model.specs.Rules.Effect.{accept}
use Rattle.model.specs.Machine.{State, model, arrivals, finish, refusal}
use Rattle.model.proofs.Loops.{apart, first_moved}
use Rattle.area.specs.Holds.{Holds, Becomes, with, Gives}
use Rattle.area.specs.Calls.{Does, Missing, Calling, woken}
use Rattle.area.proofs.Puts.{becomes_none}
use Rattle.moves.proofs.Numbers.{not_outside, first_only_lem, nobody_first}
use Rattle.outcomes.proofs.Outcomes.{when_no, Tested, missing_tested, calling_tested, refuses_by, accepts, accepts_ready}

-- ---- the rules, with r the running process and k the code of the tests on the numbers

module _ {n : Shape} {old : List ℕ} {s : State model} (H : Holds n old s) (c : ℕ) where
  module _ {r k : ℕ} (runs : r ≡ s.fields running) (ek : Calling r n.conditions c k) where
    tested : Tested k (λ e. when (eqb (s.fields running) 0) 6 (when (outside n.conditions c) 7 e))
    tested = rw (← runs) (calling_tested ek)

    pub notify_refused : {a : Answer} → k ≢ 0 → a ≡ refusal k → Does (Notify c) n old old s a
    unfolding decide
    notify_refused = refuses_by H (Notify c) _ refl tested

    notify_0 : k ≡ 0 → decide n s.fields s.queues (Notify c) ≡ wake (first_only (s.queues (condition c))) s.fields
    unfolding decide
    notify_0 z = tested.passed z _

  pub naked_refused : {k : ℕ} {a : Answer} → Missing n.conditions c k → k ≢ 0 → a ≡ refusal k → Does (Naked c) n old old s a
  unfolding decide
  naked_refused ek = refuses_by H (Naked c) _ refl (missing_tested ek)

  naked_0 : inside n.conditions c ≡ true → decide n s.fields s.queues (Naked c) ≡ nakedly c (s.queues (condition c)) s.fields
  unfolding decide
  naked_0 i = when_no 7 _ (not_outside n.conditions c i)

nakedly_none : (c : ℕ) (xs : List ℕ) (s : Fields) → length (first_only xs) ≡ 0 → nakedly c xs s ≡ accept (put (wakeup c) 1 s) [] 1
unfolding nakedly
nakedly_none c [] s e = refl
nakedly_none c (x ∷ xs) s e = let z : ⊥ = omega arith in absurd z

nakedly_first : (c : ℕ) (xs : List ℕ) (s : Fields) → length (first_only xs) ≢ 0 → nakedly c xs s ≡ wake (first_only xs) s
unfolding nakedly
nakedly_first c [] s h = absurd (h refl)
nakedly_first c (x ∷ xs) s h = refl

-- ---- the calls

module _ {n : Shape} {old : List ℕ} {s : State model} (H : Holds n old s) (c : ℕ) where
  first_arrives : arrivals (s.queues ready) (to_ready (first_only (s.queues (condition c)))) ≡ length (first_only (s.queues (condition c)))
  first_arrives = first_moved n.processes s.queues H.placed.place H.placed.once (condition c) (apart c)

  -- the first wakes, if there is one
  pub notify_first_lem : {a : Answer} {r k m : ℕ} {mid new : List ℕ} → r ≡ s.fields running → Calling r n.conditions c k → k ≡ 0 → m ≡ length (first_only (s.queues (condition c)))
      → Becomes n old mid (woken (first_only (s.queues (condition c))) s)
      → Gives n mid new a (finish model (woken (first_only (s.queues (condition c))) s).fields (woken (first_only (s.queues (condition c))) s).queues 0 m 0) → Does (Notify c) n old new s a
  notify_first_lem {m = m} runs ek z e b g =
      accepts_ready H (Notify c) (calm (first_only (s.queues (condition c))) s.fields) (first_only (s.queues (condition c))) 0 m (notify_0 H c runs ek z) (e ∙ sym first_arrives) b g

  -- by a device: the first wakes, or nobody waits there, and the wakeup is set
  pub naked_first : {a : Answer} {m : ℕ} {mid new : List ℕ} → inside n.conditions c ≡ true → m ≡ length (first_only (s.queues (condition c))) → m ≢ 0
      → Becomes n old mid (woken (first_only (s.queues (condition c))) s)
      → Gives n mid new a (finish model (woken (first_only (s.queues (condition c))) s).fields (woken (first_only (s.queues (condition c))) s).queues 0 m 0) → Does (Naked c) n old new s a
  naked_first {m = m} i e k b g =
      accepts_ready H (Naked c) (calm (first_only (s.queues (condition c))) s.fields) (first_only (s.queues (condition c))) 0 m
      (naked_0 H c i ∙ nakedly_first c (s.queues (condition c)) s.fields (λ z. k (e ∙ z))) (e ∙ sym first_arrives) b g

  pub naked_nobody : {a : Answer} {mid new : List ℕ} → inside n.conditions c ≡ true → 0 ≡ length (first_only (s.queues (condition c)))
      → Becomes n old mid (with (wakeup c) 1 s) → Gives n mid new a (finish model (put (wakeup c) 1 s.fields) s.queues 1 0 0) → Does (Naked c) n old new s a
  naked_nobody i e b g =
      accepts H (Naked c) (put (wakeup c) 1 s.fields) [] 1 0 0 (naked_0 H c i ∙ nakedly_none c (s.queues (condition c)) s.fields (sym e)) refl refl b g

-- where nobody has woken, nothing has changed
pub still : {n : Shape} {old new : List ℕ} (s : State model) (c : ℕ) → 0 ≡ length (first_only (s.queues (condition c))) → Becomes n old new (woken (first_only (s.queues (condition c))) s) → Becomes n old new s
still {n} {old} {new} s c e b = subst (λ (xs : List ℕ). Becomes n old new (woken xs s)) (nil_from_length (first_only (s.queues (condition c))) (sym e)) b

-- ---- the first wakes

module _ {n : Shape} {old : List ℕ} {s : State model} (H : Holds n old s) (c : ℕ) {f : ℕ} (e : f ≡ first (s.queues (condition c))) where
  pub first_none : f ≡ 0 → (0 ≡ length (first_only (s.queues (condition c)))) × Becomes n old old (woken (first_only (s.queues (condition c))) s)
  first_none z = let k = nobody_first H (condition c) e z in (rw k, rw k (becomes_none H))

  pub first_wakes : {new : List ℕ} → f ≢ 0 → Becomes n old new (woken (f ∷ []) s) → (1 ≡ length (first_only (s.queues (condition c)))) × Becomes n old new (woken (first_only (s.queues (condition c))) s)
  first_wakes h b = let k = first_only_lem (s.queues (condition c)) e h in (rw k, rw k b)
