-- The model and the ledger agree over every list of calls: the model's state is what the ledger's reads as, call by call. Assumes nothing.
use Prim.Native.Nat.{ℕ, ◌≤◌}
use mathlib.Core.Path.{◌≡◌, refl, ap, sym, ◌∙◌, subst, fun_ext}
use mathlib.Core.List.{List, [], ◌∷◌, ◌++◌}
use Rattle.model.specs.declared.Shape.{Shape}
use Rattle.model.specs.declared.Call.{Call}
use Rattle.model.specs.declared.Call.TheVariants.{Enter, Exit, Wait, Notify, Broadcast, Naked, Requeue, SetPriority, Tick, Abort, SetAbortable, Reenter}
use Rattle.model.specs.declared.Answer.{Answer}
use Rattle.model.specs.Queue.{Queue, Note, first_only, to_ready, up_to}
use Rattle.model.specs.Queue.Queue.{ready, condition}
use Rattle.model.specs.Field.{Fields, put, priorities}
use Rattle.model.specs.Field.Field.{running, priority, abort}
use Rattle.model.specs.Rules.{Effect, decide, nakedly, calm, called, due, fresh}
use Rattle.model.specs.Rules.Effect.{refuse, accept}
use Rattle.model.specs.Machine.{State, model, moves, arrivals, ahead, finish, obey, step, after, answers, start}
use Rattle.model.specs.Ledger.{ledger, reading}
use Rattle.model.proofs.Tests.{PutCase, holds, fails, put_case, put_away, not_below}
use Rattle.model.proofs.Lists.{SameOff}
use Rattle.model.proofs.Notes.{reading_snoc, reading_none}
use Rattle.model.proofs.Fields.{calm_priorities, dispatch_priorities}
use Rattle.model.proofs.Accepted.{Accepted, accepted, when_by, choose_by, nakedly_by, enters_by}

-- the ledger's state as the model has it
abbrev pub view : State ledger → State model
view s = record { fields = s.fields; queues = reading (priorities s.fields) s.queues }

abbrev pub Bounded : (ℕ → ℕ) → Type 0
Bounded pr = (p : ℕ) → pr p ≤ 7

-- ---- moves

-- the first move's process alone may have another priority than before
pub data Agree (f g : ℕ → ℕ) : List Note → Type 0 where
  alike : {ms : List Note} → f ≡ g → Agree f g ms
  lead : {m : Note} {ms : List Note} → SameOff m.0 f g → Agree f g (m ∷ ms)

reading_one : (f g : ℕ → ℕ) (m : Note) (ns : List Note) → SameOff m.0 f g → Bounded g → reading g (ns ++ (m ∷ [])) ≡ model.moved g (reading f ns) m
reading_one f g m ns e h = fun_ext (λ r. reading_snoc f g m ns r e (h m.0))

-- notes added one after the other move one process after the other
pub reading_all : (g : ℕ → ℕ) (ms ns : List Note) → Bounded g → reading g (moves ledger g ns ms) ≡ moves model g (reading g ns) ms
reading_all g [] ns h = refl
reading_all g (m ∷ ms) ns h =
    reading_all g ms (ns ++ (m ∷ [])) h ∙ ap {A = Queue → List ℕ} (λ qs. moves model g qs ms) (reading_one g g m ns (λ x e. refl) h)

reading_moves : (f g : ℕ → ℕ) (ms ns : List Note) → Agree f g ms → Bounded g → reading g (moves ledger g ns ms) ≡ moves model g (reading f ns) ms
reading_moves f g ms ns (alike e) h = rw e (reading_all g ms ns h)
reading_moves f g l ns (lead {m} {ms} e) h =
    reading_all g ms (ns ++ (m ∷ [])) h ∙ ap {A = Queue → List ℕ} (λ qs. moves model g qs ms) (reading_one f g m ns e h)

-- ---- what each rule does to priorities

abbrev pub Ranked : (ℕ → ℕ) → Fields → List Note → ℕ → Type 0
Ranked pr g ms k = Agree pr (priorities g) ms × Bounded (priorities g)

-- a new priority of one process
put_off : (s : Fields) (p v : ℕ) → SameOff p (priorities s) (priorities (put (priority p) v s))
put_off s p v x h = sym (put_away (priority p) v s (priority x) (λ e. h (cc)))

put_bounded : (s : Fields) (p v : ℕ) → v ≤ 7 → Bounded (priorities s) → Bounded (priorities (put (priority p) v s))
put_bounded s p v e h x = go (put_case (priority p) (priority x))
  where
    go : PutCase (priority p) (priority x) → put (priority p) v s (priority x) ≤ 7
    go (holds d z) = rw z e
    go (fails d z) = rw z (h x)

module _ (n : Shape) (s : Fields) (qs : Queue → List ℕ) (h : Bounded (priorities s)) where
  wakes_keep : (ps : List ℕ) (g : Fields) → priorities g ≡ priorities s → Ranked (priorities s) (calm ps g) (to_ready ps) 0
  wakes_keep ps g e = let d = calm_priorities ps g ∙ e in (alike (sym d), subst Bounded (sym d) h)

  -- only SetPriority changes a priority: its caller's, who then moves
  pub decide_keeps : (c : Call) → Accepted (Ranked (priorities s)) (decide n s qs c)
  unfolding decide nakedly
  decide_keeps (Enter l) = when_by _ refl (λ _. when_by _ refl (λ _. when_by _ refl (λ _. enters_by l s (λ _. (alike refl, h)) (λ _. (alike refl, h)))))
  decide_keeps (Exit l) = when_by _ refl (λ _. when_by _ refl (λ _. when_by _ refl (λ _. accepted (alike refl, h))))
  decide_keeps (Wait l c t) =
      when_by _ refl (λ _. when_by _ refl (λ _. when_by _ refl (λ _. choose_by
      (λ _. accepted (alike refl, h)) (λ _. choose_by (λ _. accepted (alike refl, h)) (λ _. accepted (alike refl, h))))))
  decide_keeps (Notify c) = when_by _ refl (λ _. when_by _ refl (λ _. accepted (wakes_keep (first_only (qs (condition c))) s refl)))
  decide_keeps (Broadcast c) = when_by _ refl (λ _. when_by _ refl (λ _. accepted (wakes_keep (qs (condition c)) s refl)))
  decide_keeps (Naked c) = when_by _ refl (λ _. nakedly_by c (qs (condition c)) s (λ _. accepted (alike refl, h)) (λ x ys _. accepted (alike refl, h)))
  decide_keeps (Requeue a b p) = when_by _ refl (λ _. when_by _ refl (λ _. accepted (alike refl, h)))
  decide_keeps (SetPriority v) =
      when_by _ refl (λ _. when_by _ refl (λ e. accepted (lead (put_off s (s running) v.0), put_bounded s (s running) v.0 (not_below 7 v.0 e) h)))
  decide_keeps Tick = accepted (wakes_keep (due n s _) _ refl)
  decide_keeps (Abort p) = when_by _ refl (λ _. accepted (wakes_keep (called n s qs p.0) (put (abort p.0) 1 s) refl))
  decide_keeps (SetAbortable c v) = when_by _ refl (λ _. accepted (alike refl, h))
  decide_keeps (Reenter l c) =
      when_by _ refl (λ _. when_by _ refl (λ _. when_by _ refl (λ _. choose_by
      (λ _. accepted (alike refl, h)) (λ _. enters_by l s (λ _. (alike refl, h)) (λ _. (alike refl, h))))))

-- ---- one call

abbrev pub both : State ledger × Answer → State model × Answer
both r = (view r.0, r.1)

finish_view : (g : Fields) (ns : List Note) (k a b : ℕ) → finish model g (reading (priorities g) ns) k a b ≡ both (finish ledger g ns k a b)
finish_view g ns k a b = rw (dispatch_priorities (reading (priorities g) ns ready) g)

obey_view : (s : State ledger) (e : Effect) → Accepted (Ranked (priorities s.fields)) e → obey model (view s) e ≡ both (obey ledger s e)
obey_view s (refuse k) h = refl
obey_view s (accept g ms k) (accepted h) =
    rw (← (reading_moves (priorities s.fields) (priorities g) ms s.queues h.0 h.1))
    (let ns = moves ledger (priorities g) s.queues ms in
    finish_view g ns k (arrivals (reading (priorities s.fields) s.queues ready) ms) (ahead (reading (priorities g) ns) ms))

pub step_view : (n : Shape) (s : State ledger) (c : Call) → Bounded (priorities s.fields) → step model n (view s) c ≡ both (step ledger n s c)
unfolding step
step_view n s c h = obey_view s _ (decide_keeps n s.fields (reading (priorities s.fields) s.queues) h c)

obey_bounded : (s : State ledger) (e : Effect) → Bounded (priorities s.fields) → Accepted (Ranked (priorities s.fields)) e → Bounded (priorities (obey ledger s e).0.fields)
obey_bounded s (refuse k) b h = b
obey_bounded s (accept g ms k) b (accepted h) =
    subst Bounded (sym (dispatch_priorities (reading (priorities g) (moves ledger (priorities g) s.queues ms) ready) g)) h.1

step_bounded : (n : Shape) (s : State ledger) (c : Call) → Bounded (priorities s.fields) → Bounded (priorities (step ledger n s c).0.fields)
unfolding step
step_bounded n s c h = obey_bounded s _ h (decide_keeps n s.fields (reading (priorities s.fields) s.queues) h c)

-- ---- many calls, and Start

pub after_view : (n : Shape) (cs : List Call) (s : State ledger) → Bounded (priorities s.fields) → after model n (view s) cs ≡ view (after ledger n s cs)
after_view n [] s h = refl
after_view n (c ∷ cs) s h = rw (step_view n s c h) (after_view n cs (step ledger n s c).0 (step_bounded n s c h))

pub answers_view : (n : Shape) (cs : List Call) (s : State ledger) → Bounded (priorities s.fields) → answers model n (view s) cs ≡ answers ledger n s cs
answers_view n [] s h = refl
answers_view n (c ∷ cs) s h =
    rw (step_view n s c h) (ap {B = List Answer} (λ r. (step ledger n s c).1 ∷ r) (answers_view n cs (step ledger n s c).0 (step_bounded n s c h)))

pub start_view : (n : Shape) (bytes : List ℕ) → Bounded (priorities (fresh bytes)) → start model n bytes ≡ both (start ledger n bytes)
start_view n bytes h =
    ap {A = Queue → List ℕ} (λ q. finish model (fresh bytes) q 0 0 0)
    (ap {A = Queue → List ℕ} (λ q. moves model (priorities (fresh bytes)) q (to_ready (up_to n.processes))) (sym (reading_none (priorities (fresh bytes))))
    ∙ sym (reading_all (priorities (fresh bytes)) (to_ready (up_to n.processes)) [] h))
    ∙ finish_view (fresh bytes) (moves ledger (priorities (fresh bytes)) [] (to_ready (up_to n.processes))) 0 0 0
