-- Entries and leavings of a lock balance, over any machine: each call changes the account as it changes the holder. Assumes nothing.
use Prim.Native.Nat.{ℕ, ◌+◌, ◌%◌}
use native.Mathlib.Omega.{arith}
use mathlib.Core.Path.{◌≡◌, refl}
use mathlib.Core.Bool.{true, false, not, ◌&&◌, and-false}
use mathlib.Core.List.{List, [], ◌∷◌}
use lib.Dec.{eqb}
use Rattle.model.specs.declared.Shape.{Shape}
use Rattle.model.specs.declared.Call.{Call}
use Rattle.model.specs.declared.Call.TheVariants.{Enter, Exit, Wait, Notify, Broadcast, Naked, Requeue, SetPriority, Tick, Abort, SetAbortable, Reenter}
use Rattle.model.specs.declared.Answer.{Answer}
use Rattle.model.specs.Queue.{Queue, Note, bit, first_only}
use Rattle.model.specs.Queue.Queue.{ready, condition}
use Rattle.model.specs.Field.{Fields, put, priorities}
use Rattle.model.specs.Field.Field.{clock, running, abort, holder}
use Rattle.model.specs.Rules.{Effect, decide, nakedly, calm, called, due}
use Rattle.model.specs.Rules.Effect.{refuse, accept}
use Rattle.model.specs.Machine.{Machine, State, moves, refusal, obey, step, after, answers, locked}
use Rattle.model.specs.History.{tries, leaves, is_entry, is_leaving, tally}
use Rattle.model.proofs.Tests.{holds, fails, so, EqCase, eqb_case, eqb_no, put_here, put_away, not_false}
use Rattle.model.proofs.Fields.{calm_away, dispatch_away}
use Rattle.model.proofs.Accepted.{Accepted, accepted, when_by, choose_by, nakedly_by, enters_by, of_refuse}

-- 1 while a lock is locked
abbrev pub held : Fields → ℕ → ℕ
held s l = bit (locked s l)

-- what one call does to the account of lock l
abbrev Balanced : Fields → ℕ → Call → Answer → Fields → Type 0
Balanced s l c a g = held s l + bit (is_entry l c a) ≡ bit (is_leaving l c a) + held g l

-- an answer of an accepted call with mark k
abbrev pub accepting : ℕ → Answer → Answer
accepting k a = record { code = 0; running = a.running; retry = a.retry; mark = k; moved = a.moved; ahead = a.ahead }

abbrev Fair : Fields → ℕ → Call → Fields → List Note → ℕ → Type 0
Fair s l c g ms k = (a : Answer) → Balanced s l c (accepting k a) g

-- a free lock is entered
taken : (s : Fields) (l j : ℕ) → eqb (s running) 0 ≡ false → eqb (s (holder j)) 0 ≡ true → held s l + bit (eqb j l && eqb 1 1) ≡ 0 + held (put (holder j) (s running) s) l
taken s l j r e = go (eqb_case j l)
  where
    go : EqCase j l → held s l + bit (eqb j l && eqb 1 1) ≡ 0 + held (put (holder j) (s running) s) l
    go (holds d z) = rw (z, ← d, put_here (holder j) (s running) s, r, e)
    go (fails d z) = rw (z, put_away (holder j) (s running) s (holder l) (λ y. d (cc))) (omega arith)

-- the running process leaves its lock
left : (s : Fields) (l j : ℕ) → eqb (s running) 0 ≡ false → not (eqb (s (holder j)) (s running)) ≡ false → held s l + 0 ≡ bit (eqb j l && eqb 0 0) + held (put (holder j) 0 s) l
left s l j r e = go (eqb_case j l) (so (eqb_case (s (holder j)) (s running)) (not_false _ e))
  where
    go : EqCase j l → s (holder j) ≡ s running → held s l + 0 ≡ bit (eqb j l && eqb 0 0) + held (put (holder j) 0 s) l
    go (holds d z) w = rw (z, ← d, put_here (holder j) 0 s, w, r)
    go (fails d z) w = rw (z, put_away (holder j) 0 s (holder l) (λ y. d (cc))) (omega arith)

keep : (x : ℕ) → x + 0 ≡ 0 + x
keep x = omega arith

calmed : (s : Fields) (l : ℕ) (ps : List ℕ) → held s l + 0 ≡ 0 + held (calm ps s) l
calmed s l ps = rw (calm_away (holder l) (λ p t. refl) ps s) (keep (held s l))

decide_fair : (n : Shape) (s : Fields) (qs : Queue → List ℕ) (l : ℕ) (c : Call) → Accepted (Fair s l c) (decide n s qs c)
unfolding decide nakedly
decide_fair n s qs l (Enter j) =
    when_by _ refl (λ r. when_by _ refl (λ _. when_by _ refl (λ _. enters_by j s (λ e a. taken s l j r e) (λ _ a. rw and-false (keep (held s l))))))
decide_fair n s qs l (Exit j) = when_by _ refl (λ r. when_by _ refl (λ _. when_by _ refl (λ e. accepted (λ a. left s l j r e))))
decide_fair n s qs l (Wait j c t) =
    when_by _ refl (λ r. when_by _ refl (λ _. when_by _ refl (λ e. choose_by
    (λ _. accepted (λ a. left s l j r e)) (λ _. choose_by (λ _. accepted (λ a. left s l j r e)) (λ _. accepted (λ a. left s l j r e))))))
decide_fair n s qs l (Notify c) = when_by _ refl (λ _. when_by _ refl (λ _. accepted (λ a. calmed s l (first_only (qs (condition c))))))
decide_fair n s qs l (Broadcast c) = when_by _ refl (λ _. when_by _ refl (λ _. accepted (λ a. calmed s l (qs (condition c)))))
decide_fair n s qs l (Naked c) = when_by _ refl (λ _. nakedly_by c (qs (condition c)) s (λ _. accepted (λ a. keep (held s l))) (λ x ys _. accepted (λ a. keep (held s l))))
decide_fair n s qs l (Requeue a b p) = when_by _ refl (λ _. when_by _ refl (λ _. accepted (λ a. keep (held s l))))
decide_fair n s qs l (SetPriority v) = when_by _ refl (λ _. when_by _ refl (λ e. accepted (λ a. keep (held s l))))
decide_fair n s qs l Tick = let now = (s clock + 1) % 65536 in accepted (λ a. calmed (put clock now s) l (due n s now))
decide_fair n s qs l (Abort p) = when_by _ refl (λ _. accepted (λ a. calmed (put (abort p.0) 1 s) l (called n s qs p.0)))
decide_fair n s qs l (SetAbortable c v) = when_by _ refl (λ _. accepted (λ a. keep (held s l)))
decide_fair n s qs l (Reenter j c) =
    when_by _ refl (λ r. when_by _ refl (λ _. when_by _ refl (λ _. choose_by
    (λ _. accepted (λ a. rw and-false (keep (held s l)))) (λ _. enters_by j s (λ e a. taken s l j r e) (λ _ a. rw and-false (keep (held s l)))))))

refusal_fair : (s : Fields) (l k : ℕ) (c : Call) → eqb k 0 ≡ false → Balanced s l c (refusal k) s
refusal_fair s l k c e = rw (e, and-false (tries l c), and-false (leaves l c)) (keep (held s l))

module _ (M : Machine) where
  obey_fair : (s : State M) (l : ℕ) (c : Call) (e : Effect) → Accepted (Fair s.fields l c) e → Balanced s.fields l c (obey M s e).1 (obey M s e).0.fields
  obey_fair s l c (refuse k) h = let w = of_refuse h in refusal_fair s.fields l k c (eqb_no k 0 (omega arith))
  obey_fair s l c (accept g ms k) (accepted h) =
      rw (dispatch_away (holder l) (λ x t. refl) (λ x t. refl) (M.read (priorities g) (moves M (priorities g) s.queues ms) ready) g) (h (obey M s (accept g ms k)).1)

  step_fair : (n : Shape) (s : State M) (l : ℕ) (c : Call) → Balanced s.fields l c (step M n s c).1 (step M n s c).0.fields
  unfolding step
  step_fair n s l c = obey_fair s l c _ (decide_fair n s.fields (M.read (priorities s.fields) s.queues) l c)

  -- over any list of calls, from any state
  pub account : (n : Shape) (l : ℕ) (cs : List Call) (s : State M)
      → held s.fields l + tally (is_entry l) cs (answers M n s cs) ≡ tally (is_leaving l) cs (answers M n s cs) + held (after M n s cs).fields l
  account n l [] s = keep (held s.fields l)
  account n l (c ∷ cs) s = let one = step_fair n s l c in let rest = account n l cs (step M n s c).0 in omega arith
