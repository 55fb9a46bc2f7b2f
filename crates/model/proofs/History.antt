-- Demand 3 of states: over every history the model is what the ledger reads as, and it stays valid. From the simulation, validity and the account. Assumes nothing.
use Prim.Native.Nat.{ℕ, ◌+◌, ◌≤◌}
use native.Mathlib.Omega.{arith}
use mathlib.Core.Path.{◌≡◌, refl, ap, sym, ◌∙◌, subst, fun_ext}
use mathlib.Core.Logic.{◌≢◌, ◌↔◌}
use mathlib.Core.Bool.{true, false≢true}
use mathlib.Core.List.{List, [], ◌∷◌}
use Rattle.model.specs.declared.Shape.{Shape}
use Rattle.model.specs.declared.Call.{Call}
use Rattle.model.specs.declared.Answer.{Answer}
use Rattle.model.specs.Queue.{Queue, up_to, inside, any_of, bit, same, exists, member, count, first, to_ready, All}
use Rattle.model.specs.Queue.Queue.{ready, condition}
use Rattle.model.specs.Field.{priorities}
use Rattle.model.specs.Field.Field.{running, holder}
use Rattle.model.specs.Rules.{Effect, start_code, fresh}
use Rattle.model.specs.Rules.Effect.{refuse, accept}
use Rattle.model.specs.Machine.{Machine, State, model, moves, start, obey, step, after, answers, waiting, locked}
use Rattle.model.specs.Ledger.{ledger, reading, lies}
use Rattle.model.specs.Valid.{Valid}
use Rattle.model.specs.History.{History, is_entry, is_leaving, tally, end}
use Rattle.model.proofs.Lists.{member_here, member_bit}
use Rattle.model.proofs.Notes.{reading_count}
use Rattle.model.proofs.Fields.{dispatch_priorities, dispatch_away}
use Rattle.model.proofs.Accepted.{Accepted, Marked, of_refuse, decide_marks}
use Rattle.model.proofs.Simulation.{Bounded, view, both, after_view, answers_view, start_view}
use Rattle.model.proofs.Locks.{held, account}
use Rattle.model.proofs.Places.{stands_at}
use Rattle.model.proofs.Kept.{valid_bounded, given, fresh_bounded, start_valid, after_valid}

-- ---- places by notes

module _ (n : Shape) (m : State model) (l : State ledger) (mv : m ≡ view l) (v : Valid n m) where
  queues_are : (q : Queue) → m.queues q ≡ reading (priorities l.fields) l.queues q
  queues_are q = ap {A = State model} (λ t. t.queues q) mv

  as_noted_are : (p : ℕ) (q : Queue) → count p (m.queues q) ≡ bit (lies l.queues p q)
  as_noted_are p q = ap (count p) (queues_are q) ∙ reading_count (priorities l.fields) p q l.queues
      (subst (λ (t : State model). priorities t.fields p ≤ 7) mv (valid_bounded n m.fields v.placed.range p))

  one_are : (p : ℕ) → inside n.processes p ≡ true → (q : Queue) × (exists n q ≡ true) × ((r : Queue) → count p (m.queues r) ≡ bit (same q r))
  one_are p i = (v.placed.place p, v.placed.real p i, λ r. rw i at (v.placed.once p r))

  waiting_are : (p : ℕ) → waiting n m.queues p ≡ any_of n.conditions (λ c. lies l.queues p (condition c))
  waiting_are p = ap (any_of n.conditions) (fun_ext (λ c. member_bit p (m.queues (condition c)) (lies l.queues p (condition c)) (as_noted_are p (condition c))))

  none_are : (m.fields running ≡ 0) ↔ (m.queues ready ≡ [])
  none_are = (λ e. go (m.queues ready) (sym v.runs ∙ e) (λ x z. (stands_at n.processes m.queues v.placed.place v.placed.once x ready z).0), λ e. v.runs ∙ ap first e)
    where
      go : (xs : List ℕ) → first xs ≡ 0 → ((x : ℕ) → member x xs ≡ true → inside n.processes x ≡ true) → xs ≡ []
      go [] e h = refl
      go (x ∷ xs) e h = absurd (false≢true (rw e at (h x (member_here x xs))))

-- ---- codes of answers

obey_code : (M : Machine) (s : State M) (e : Effect) → Accepted Marked e → (obey M s e).1.code ≢ 1
obey_code M s (refuse k) h = let b = of_refuse h in omega arith
obey_code M s (accept f ms k) h = omega arith

-- no machine that obeys the rules ever gives code 1
pub answers_code : (M : Machine) (n : Shape) (cs : List Call) (s : State M) → All (λ (a : Answer). a.code ≢ 1) (answers M n s cs)
unfolding step
answers_code M n [] s = tt
answers_code M n (c ∷ cs) s =
    (obey_code M s _ (decide_marks n s.fields (M.read (priorities s.fields) s.queues) c), answers_code M n cs (step M n s c).0)

-- ---- the whole

entries_are : (n : Shape) (cs : List Call) (s : State ledger) (l : ℕ) → held s.fields l ≡ 0
    → tally (is_entry l) cs (answers ledger n s cs) ≡ tally (is_leaving l) cs (answers ledger n s cs) + held (after ledger n s cs).fields l
entries_are n cs s l e = let k = account ledger n l cs s in omega arith

pub history : (n : Shape) (bytes : List ℕ) (cs : List Call) → start_code n bytes ≡ 0 → History n bytes cs
history n bytes cs ok = record {
  same_start = ap {A = State model × Answer} (λ r. r.1) sv;
  same_replies = ap {A = State model} (λ t. answers model n t cs) sv0 ∙ answers_view n cs (start ledger n bytes).0 sb;
  same_fields = ap {A = State model} (λ t. t.fields) mv;
  same_queues = queues_are n m l mv v;
  same_locked = λ j. ap {A = State model} (λ t. locked t.fields j) mv;
  same_waiting = waiting_are n m l mv v;
  one_queue = one_are n m l mv v;
  as_noted = as_noted_are n m l mv v;
  running_first = v.runs;
  running_none = none_are n m l mv v;
  entries = λ j. entries_are n cs (start ledger n bytes).0 j (rw (dispatch_away (holder j) (λ x t. refl) (λ x t. refl) in_ready (fresh bytes)));
  never_unsound = answers_code ledger n cs (start ledger n bytes).0;
  valid = v;
}
  where
    bounded : Bounded (priorities (fresh bytes))
    bounded = fresh_bounded bytes (given n bytes ok).low

    sv : start model n bytes ≡ both (start ledger n bytes)
    sv = start_view n bytes bounded

    sv0 : (start model n bytes).0 ≡ view (start ledger n bytes).0
    sv0 = ap {A = State model × Answer} (λ r. r.0) sv

    in_ready : List ℕ
    in_ready = reading (priorities (fresh bytes)) (moves ledger (priorities (fresh bytes)) [] (to_ready (up_to n.processes))) ready

    sb : Bounded (priorities (start ledger n bytes).0.fields)
    sb = subst Bounded (sym (dispatch_priorities in_ready (fresh bytes))) bounded

    m : State model
    m = end model n bytes cs

    l : State ledger
    l = end ledger n bytes cs

    mv : m ≡ view l
    mv = ap {A = State model} (λ t. after model n t cs) sv0 ∙ after_view n cs (start ledger n bytes).0 sb

    v : Valid n m
    v = after_valid n cs (start model n bytes).0 (start_valid n bytes ok)
