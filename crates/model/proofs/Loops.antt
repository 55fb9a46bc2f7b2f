-- What code that performs moves one by one needs: what each move leaves of the queues, and how many arrive. By induction on the moves. Assumes nothing.
use Prim.Native.Nat.{ℕ, zero, suc, ◌≤◌}
use native.Mathlib.Omega.{arith}
use mathlib.Core.Path.{◌≡◌, refl, sym, ap, ◌∙◌}
use mathlib.Core.Logic.{◌≢◌}
use mathlib.Core.Bool.{Bool, true, false, cond, and-false, true≢false}
use mathlib.Core.List.{List, [], ◌∷◌}
use lib.ListN.{length}
use Rattle.model.specs.declared.Shape.{Shape}
use Rattle.model.specs.Queue.{Queue, bit, inside, exists, up_to, member, first_only, remove, insert, move, to_ready}
use Rattle.model.specs.Queue.Queue.{ready, lock, condition}
use Rattle.model.specs.Ledger.{by_priority}
use Rattle.model.specs.Field.{Fields}
use Rattle.model.specs.Rules.{released, abortably, called, due}
use Rattle.model.specs.Machine.{State, model, moves, arrivals, waiting}
use Rattle.model.specs.Valid.{Valid}
use Rattle.model.proofs.Tests.{same_case, stops, same_yes, denied, inside_bounds}
use Rattle.model.proofs.Lists.{remove_absent, absent_count, member_here, member_there, nobody, first_only_member}
use Rattle.model.proofs.Notes.{by_snoc}
use Rattle.model.proofs.Places.{moves_append, to_ready_append, Stands, stands_at, stands_start, waiting_is, not_abortably}
use Rattle.model.proofs.Rules.{due_rung}

-- ---- one move

-- the queue that it goes to, and the others
pub move_to : (pr : ℕ → ℕ) (qs : Queue → List ℕ) (x : ℕ) (q : Queue) → move pr qs x q q ≡ insert pr x (remove x (qs q))
move_to pr qs x q = rw (same_yes q q refl)

pub move_off : (pr : ℕ → ℕ) (qs : Queue → List ℕ) (x : ℕ) (q r : Queue) → q ≢ r → move pr qs x q r ≡ remove x (qs r)
move_off pr qs x q r o = rw (stops (same_case q r) o)

module _ (P : ℕ) (qs : Queue → List ℕ) (place : ℕ → Queue) (h : Stands P qs place) where
  -- who stands in one queue stands in no other
  pub elsewhere : (p : ℕ) (q r : Queue) → q ≢ r → member p (qs q) ≡ true → member p (qs r) ≡ false
  elsewhere p q r o e = go (member p (qs r)) refl
    where
      go : (b : Bool) → member p (qs r) ≡ b → b ≡ false
      go true d = absurd (o (sym (stands_at P qs place h p q e).1 ∙ (stands_at P qs place h p r d).1))
      go false d = refl

-- ---- how many arrive

pub arrivals_ready : (rs xs : List ℕ) → ((p : ℕ) → member p xs ≡ true → member p rs ≡ false) → arrivals rs (to_ready xs) ≡ length xs
arrivals_ready rs [] h = refl
arrivals_ready rs (x ∷ xs) h = rw (h x (member_here x xs), arrivals_ready rs xs (λ p e. h p (member_there p x xs e))) (omega arith)

module _ (P : ℕ) (qs : Queue → List ℕ) (place : ℕ → Queue) (h : Stands P qs place) where
  pub queue_moved : (q : Queue) → q ≢ ready → arrivals (qs ready) (to_ready (qs q)) ≡ length (qs q)
  queue_moved q o = arrivals_ready (qs ready) (qs q) (λ p e. elsewhere P qs place h p q ready o e)

  pub first_moved : (q : Queue) → q ≢ ready → arrivals (qs ready) (to_ready (first_only (qs q))) ≡ length (first_only (qs q))
  first_moved q o = arrivals_ready (qs ready) (first_only (qs q)) (λ p e. elsewhere P qs place h p q ready o (first_only_member p (qs q) e))

  pub released_moved : (l : ℕ) → arrivals (qs ready) (released qs l) ≡ length (first_only (qs (lock l)))
  released_moved l = first_moved (lock l) (λ e. let w : ◌≡◌ {A = ℕ} 0 1 = cc in omega arith)

-- no condition is ready
pub apart : (c : ℕ) → condition c ≢ ready
apart c e = let z : ◌≡◌ {A = ℕ} 0 1 = cc in omega arith

module _ (n : Shape) (qs : Queue → List ℕ) (place : ℕ → Queue) (h : Stands n.processes qs place) (p : ℕ) (real : inside n.processes p ≡ true → exists n (place p) ≡ true) where
  -- who waits is not in ready
  pub waits_outside : waiting n qs p ≡ true → member p (qs ready) ≡ false
  waits_outside w = denied (member p (qs ready)) (λ d. true≢false (sym w ∙ waiting_is n qs place h p real ∙ rw ((stands_at n.processes qs place h p ready d).1, and-false)))

  -- so who is called off arrives there
  pub called_moved : (s : Fields) → arrivals (qs ready) (to_ready (called n s qs p)) ≡ bit (abortably n s qs p)
  called_moved s = go (abortably n s qs p) refl
    where
      waits : (b : Bool) → waiting n qs p ≡ b → abortably n s qs p ≡ true → waiting n qs p ≡ true
      waits true w e = w
      waits false w e = absurd (true≢false (sym e ∙ not_abortably n s qs p w))

      go : (b : Bool) → abortably n s qs p ≡ b → arrivals (qs ready) (to_ready (cond b (p ∷ []) [])) ≡ bit b
      go true e = rw (waits_outside (waits (waiting n qs p) refl e))
      go false e = refl

-- ---- Start's loop: process k + 1 after processes 1 to k

start_moves : (pr : ℕ → ℕ) (qs : Queue → List ℕ) (k : ℕ) → moves model pr qs (to_ready (up_to (suc k))) ≡ move pr (moves model pr qs (to_ready (up_to k))) (suc k) ready
start_moves pr qs k = rw (to_ready_append (up_to k) (suc k ∷ []), moves_append pr (to_ready (up_to k)) ((suc k, ready) ∷ []) qs)

-- Start's queues when processes 1 to k have come into ready, which nobody else does
module _ (pr : ℕ → ℕ) (k : ℕ) where
  abbrev come : Queue → List ℕ
  come = moves model pr (λ q. []) (to_ready (up_to k))

  start_out : (q : Queue) → member (suc k) (come q) ≡ false
  start_out q = denied (member (suc k) (come q))
      (λ m. let b = inside_bounds k (suc k) (stands_at k come (λ p. ready) (stands_start pr k) (suc k) q m).0 in omega arith)

  pub start_others : (q : Queue) → ready ≢ q → come q ≡ []
  start_others q o = nobody (come q) (λ p. denied (member p (come q)) (λ m. o (stands_at k come (λ p. ready) (stands_start pr k) p q m).1))

-- they stand there by falling priority, and equals in order
pub start_ready : (pr : ℕ → ℕ) → ((p : ℕ) → pr p ≤ 7) → (k : ℕ) → moves model pr (λ q. []) (to_ready (up_to k)) ready ≡ by_priority pr 7 (up_to k)
start_ready pr h zero = refl
start_ready pr h (suc k) =
    let qs = moves model pr (λ q. []) (to_ready (up_to k)) in
    ap (λ (f : Queue → List ℕ). f ready) (start_moves pr (λ q. []) k)
    ∙ move_to pr qs (suc k) ready
    ∙ ap (insert pr (suc k)) (remove_absent (suc k) (qs ready) (absent_count (suc k) (qs ready) (start_out pr k ready)) ∙ start_ready pr h k)
    ∙ sym (by_snoc pr 7 (suc k) (up_to k) (h (suc k)))

-- ---- Tick wakes only who waits

module _ (n : Shape) (s : State model) (v : Valid n s) (now p : ℕ) (e : member p (due n s.fields now) ≡ true) where
  pub due_waits : waiting n s.queues p ≡ true
  due_waits = go (waiting n s.queues p) refl
    where
      go : (b : Bool) → waiting n s.queues p ≡ b → b ≡ true
      go true d = refl
      go false d = absurd ((due_rung n s.fields now p e).0 (v.arms p d))

  pub due_outside : member p (s.queues ready) ≡ false
  due_outside = waits_outside n s.queues v.placed.place v.placed.once p (v.placed.real p) due_waits

pub due_moved : (n : Shape) (s : State model) → Valid n s → (now : ℕ) → arrivals (s.queues ready) (to_ready (due n s.fields now)) ≡ length (due n s.fields now)
due_moved n s v now = arrivals_ready (s.queues ready) (due n s.fields now) (λ p e. due_outside n s v now p e)
