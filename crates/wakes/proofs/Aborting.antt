-- What Abort and SetAbortable come to by their tests, and the search for an abortable condition in which a process waits: of the conditions passed
-- none was one. Assumes nothing.
use Prim.Native.Nat.{ℕ, suc, zero, ◌+◌, ◌-◌, ◌≤◌, ◌<◌}
use native.Mathlib.Omega.{arith}
use mathlib.Core.Path.{◌≡◌, refl, sym, ap, ◌∙◌, subst}
use mathlib.Core.Logic.{◌≢◌}
use mathlib.Core.Bool.{Bool, true, false, ◌&&◌, ◌||◌, cond, or-true}
use mathlib.Core.List.{List, [], ◌∷◌}
use lib.Dec.{ltb}
use borrow.Author.Tests.{lt-ltb, le-ltb}
use Rattle.model.specs.declared.Shape.{Shape}
use Rattle.model.specs.declared.Process.{Process}
use Rattle.model.specs.declared.Answer.{Answer}
use Rattle.model.specs.declared.Call.TheVariants.{Abort, SetAbortable}
use Rattle.model.specs.Queue.{inside, outside, any_of, bit, member}
use Rattle.model.specs.Queue.Queue.{condition}
use Rattle.model.specs.Field.{put, some}
use Rattle.model.specs.Field.Field.{abort, abortable}
use Rattle.model.specs.Rules.{when, decide, calm, abortably, called}
use Rattle.model.specs.Rules.Effect.{refuse, accept}
use Rattle.model.specs.Machine.{State, model, finish, refusal}
use Rattle.model.proofs.Tests.{eqb_yes, eqb_no, not_true}
use Rattle.model.proofs.Places.{any_some}
use Rattle.model.proofs.Loops.{called_moved}
use Rattle.area.specs.Holds.{Holds, Becomes, with, Gives, Tried}
use Rattle.area.specs.Calls.{Does, Missing, woken}
use Rattle.area.proofs.Puts.{becomes_none}
use Rattle.outcomes.proofs.Outcomes.{when_yes, when_no, missing_tested, missing_there, refuses, refuses_by, accepts, accepts_ready}

-- ---- one condition

-- p waits there, and it is abortable
abbrev pub heeds : State model → ℕ → ℕ → Bool
heeds s p c = some (s.fields (abortable c)) && member p (s.queues (condition c))

-- a is its abortable bit
module _ {a v : ℕ} (e : a ≡ v) where
  pub deaf : (b : Bool) → a ≡ 0 → some v && b ≡ false
  deaf b z = rw (eqb_yes v 0 (sym e ∙ z))

  pub heard : {b r : Bool} {old new : List ℕ} {A : Type 0} → a ≢ 0 → Tried b r old new A → Tried (some v && b) r old new A
  heard o t = rw (eqb_no v 0 (λ z. o (e ∙ z))) t

-- ---- the search

-- one more condition is none
pub any_passed : (c : ℕ) (t : ℕ → Bool) → 1 ≤ c → any_of (c - 1) t ≡ false → t c ≡ false → any_of (c + 1 - 1) t ≡ false
any_passed zero t l a b = absurd (omega arith)
any_passed (suc k) t l a b =
    let x : suc k - 1 ≡ k = omega arith in
    let y : suc k + 1 - 1 ≡ suc k = omega arith in
    rw y (rw (b, rw x at a))

-- all of them are none
pub all_passed : (m : ℕ) {k : ℕ} (t : ℕ → Bool) → k ≡ m → any_of k t ≡ false → any_of m t ≡ false
all_passed m t e h = subst (λ (k : ℕ). any_of k t ≡ false) e h

module _ {n : Shape} {old new : List ℕ} (s : State model) (p : ℕ) where
  -- it was found
  pub called_there : (c : ℕ) → inside n.conditions c ≡ true → heeds s p c ≡ true → Becomes n old new (woken (p ∷ []) s)
      → (1 ≡ bit (abortably n s.fields s.queues p)) × Becomes n old new (woken (called n s.fields s.queues p) s)
  called_there c i e b = let k = any_some n.conditions (heeds s p) c i e in rw k (refl, b)

  -- there is none
  pub called_nowhere : Holds n old s → new ≡ old → abortably n s.fields s.queues p ≡ false
      → (0 ≡ bit (abortably n s.fields s.queues p)) × Becomes n old new (woken (called n s.fields s.queues p) s)
  called_nowhere H d e = rw (e, d) (refl, becomes_none H)

-- ---- Abort, with k the code of its test

module _ {n : Shape} {old : List ℕ} {s : State model} (H : Holds n old s) (p : Process) {k : ℕ} (ek : Missing n.processes p.0 k) where
  pub abort_refused : {a : Answer} → k ≢ 0 → a ≡ refusal k → Does (Abort p) n old old s a
  unfolding decide
  abort_refused = refuses_by H (Abort p) _ refl (missing_tested ek)

  abbrev callees : List ℕ
  callees = called n s.fields s.queues p.0

  pub abort_calls : {a : Answer} {m : ℕ} {mid new : List ℕ} → k ≡ 0 → m ≡ bit (abortably n s.fields s.queues p.0) → Becomes n old mid (woken callees (with (abort p.0) 1 s))
      → Gives n mid new a (finish model (woken callees (with (abort p.0) 1 s)).fields (woken callees (with (abort p.0) 1 s)).queues 0 m 0) → Does (Abort p) n old new s a
  unfolding decide
  abort_calls {m = m} z e =
      accepts_ready H (Abort p) (calm callees (put (abort p.0) 1 s.fields)) callees 0 m ((missing_tested ek).passed z _)
      (e ∙ sym (called_moved n s.queues H.placed.place H.placed.once p.0 (H.placed.real p.0) s.fields))

-- ---- SetAbortable, with k the code of its first test

module _ {n : Shape} {old : List ℕ} {s : State model} (H : Holds n old s) (c v : ℕ) {k : ℕ} (ek : Missing n.conditions c k) where
  pub set_missing : {a : Answer} → k ≢ 0 → a ≡ refusal k → Does (SetAbortable c v) n old old s a
  unfolding decide when
  set_missing z = refuses H (SetAbortable c v) k (go (outside n.conditions c) ek.code)
    where
      go : (b : Bool) → k ≡ cond b 7 0 → when (b || ltb 1 v) 7 (accept (put (abortable c) v s.fields) [] 0) ≡ refuse k
      go true q = ap refuse (sym q)
      go false q = absurd (z q)

  pub set_above : 1 < v → Does (SetAbortable c v) n old old s (refusal 7)
  unfolding decide
  set_above h = refuses H (SetAbortable c v) 7 (when_yes 7 _ (rw (lt-ltb 1 v h, or-true))) refl

  pub set_done : {a : Answer} {mid new : List ℕ} → k ≡ 0 → v ≤ 1 → Becomes n old mid (with (abortable c) v s) → Gives n mid new a (finish model (put (abortable c) v s.fields) s.queues 0 0 0) → Does (SetAbortable c v) n old new s a
  unfolding decide
  set_done z h =
      accepts H (SetAbortable c v) (put (abortable c) v s.fields) [] 0 0 0 (when_no 7 _ (rw (not_true (outside n.conditions c) (missing_there ek z), le-ltb 1 v h))) refl refl
