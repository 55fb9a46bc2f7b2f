-- Laws that pin single rules, over every fields and queues, valid or not: each follows its rule's tests to the accepted effect. Assumes nothing.
use Prim.Native.Nat.{ℕ, ◌+◌, ◌%◌, ◌≤◌, ◌<◌}
use native.Mathlib.Omega.{arith}
use mathlib.Core.Path.{◌≡◌, refl, ap, sym, ◌∙◌}
use mathlib.Core.Logic.{◌≢◌, ◌⊎◌, inl, inr}
use mathlib.Core.Bool.{Bool, true, false, ◌&&◌, ◌||◌, cond, and-false, true≢false}
use mathlib.Core.List.{List, [], ◌∷◌, ◌++◌}
use lib.Dec.{eqb}
use lib.ListN.{length}
use Rattle.model.specs.declared.Shape.{Shape}
use Rattle.model.specs.declared.Call.{Call}
use Rattle.model.specs.declared.Call.TheVariants.{Enter, Exit, Wait, Notify, Broadcast, Naked, Requeue, SetPriority, Tick, Abort, SetAbortable, Reenter}
use Rattle.model.specs.declared.Ticks.{Ticks}
use Rattle.model.specs.declared.Process.{Process}
use Rattle.model.specs.declared.Answer.{Answer}
use Rattle.model.specs.Queue.{Queue, Note, inside, outside, up_to, member, first, first_only, ahead_of, insert, to_ready, All}
use Rattle.model.specs.Queue.Queue.{ready, lock, condition}
use Rattle.model.specs.Field.{Field, Fields, put, some, priorities}
use Rattle.model.specs.Field.Field.{running, armed, timer, failed, abort, holder, wakeup, abortable}
use Rattle.model.specs.Rules.{Effect, when, choose, nakedly, decide, released, called_off, abortably, called, enters, alarm, rings, due}
use Rattle.model.specs.Rules.Effect.{refuse, accept}
use Rattle.model.specs.Machine.{Machine, State, moves, refusal, dispatch, retry, arrivals, ahead, finish, obey, step}
use Rattle.model.proofs.Tests.{so, not_so, eqb_case, eqb_yes, eqb_no, put_here, put_away, and_split, not_true}
use Rattle.model.proofs.Lists.{filter_member, member_filter, member_up_to, insert_skip, insert_front}
use Rattle.model.proofs.Fields.{calm_away, dispatch_priorities, dispatch_running}
use Rattle.model.proofs.Accepted.{Accepted, accepted, when_by, choose_by, nakedly_by, enters_by, of_refuse}
use Rattle.model.proofs.Places.{ahead_ready, ahead_after, ahead_park}

-- a newcomer goes behind its equals
pub behind_equals : (pr : ℕ → ℕ) (p : ℕ) (xs ys : List ℕ) → All (λ x. pr p ≤ pr x) xs → All (λ y. pr y < pr p) ys → insert pr p (xs ++ ys) ≡ xs ++ (p ∷ ys)
behind_equals pr p xs ys h k = insert_skip pr p xs ys h ∙ rw (insert_front pr p ys k)

all_ready : (ps : List ℕ) → All (λ (m : Note). m.1 ≡ ready) (to_ready ps)
all_ready [] = tt
all_ready (p ∷ ps) = (refl, all_ready ps)

module _ (n : Shape) (s : Fields) (qs : Queue → List ℕ) where
  -- Enter of a free lock takes it, whoever queues there
  pub enter_takes : (l : ℕ) → s (holder l) ≡ 0 → Accepted (λ g ms k. (g ≡ put (holder l) (s running) s) × (ms ≡ []) × (k ≡ 1)) (decide n s qs (Enter l))
  unfolding decide
  enter_takes l e = when_by _ refl (λ _. when_by _ refl (λ _. when_by _ refl (λ _. enters_by l s
      (λ _. (refl, refl, refl)) (λ z. absurd (not_so (eqb_case (s (holder l)) 0) z e)))))

  -- Exit hands the lock to nobody, and changes no other field
  pub exit_frees_lem : (l : ℕ) → Accepted (λ g ms k. (g (holder l) ≡ 0) × ((f : Field) → holder l ≢ f → g f ≡ s f) × (ms ≡ released qs l) × (k ≡ 0)) (decide n s qs (Exit l))
  unfolding decide
  exit_frees_lem l = when_by _ refl (λ _. when_by _ refl (λ _. when_by _ refl (λ _. accepted (put_here (holder l) 0 s, (λ f o. put_away (holder l) 0 s f o), refl, refl))))

  -- Wait over abort leaves the lock as Exit does, and every other field, wakeup and abort among them
  pub wait_called_off : (l c : ℕ) (t : Ticks) → called_off s c ≡ true
      → Accepted (λ g ms k. (g (holder l) ≡ 0) × ((f : Field) → holder l ≢ f → g f ≡ s f) × (ms ≡ released qs l) × (k ≡ 0)) (decide n s qs (Wait l c t))
  unfolding decide
  wait_called_off l c t e = when_by _ refl (λ _. when_by _ refl (λ _. when_by _ refl (λ _. choose_by
      (λ _. accepted (put_here (holder l) 0 s, (λ f o. put_away (holder l) 0 s f o), refl, refl)) (λ z. absurd (true≢false (sym e ∙ z))))))

  -- Wait over a set wakeup, where its caller is not called off, clears it and keeps its caller's place: the lock's first alone moves
  pub wait_stays : (l c : ℕ) (t : Ticks) → called_off s c ≡ false → some (s (wakeup c)) ≡ true
      → Accepted (λ g ms k. (g ≡ put (wakeup c) 0 (put (holder l) 0 s)) × (ms ≡ released qs l) × (k ≡ 0)) (decide n s qs (Wait l c t))
  unfolding decide
  wait_stays l c t o e = when_by _ refl (λ _. when_by _ refl (λ _. when_by _ refl (λ _. choose_by
      (λ z. absurd (true≢false (sym z ∙ o))) (λ _. choose_by
      (λ _. accepted (refl, refl, refl)) (λ z. absurd (true≢false (sym e ∙ z)))))))

  -- Notify sets no wakeup, and moves only to ready
  pub notify_wakes : (c : ℕ) → Accepted (λ g ms k. ((d : ℕ) → g (wakeup d) ≡ s (wakeup d)) × All (λ m. m.1 ≡ ready) ms × (ms ≡ to_ready (first_only (qs (condition c)))) × (k ≡ 0)) (decide n s qs (Notify c))
  unfolding decide
  notify_wakes c = when_by _ refl (λ _. when_by _ refl (λ _.
      accepted ((λ d. calm_away (wakeup d) (λ p t. refl) (first_only (qs (condition c))) s), all_ready (first_only (qs (condition c))), refl, refl)))

  -- Broadcast wakes all of the queue, in its order
  pub broadcast_wakes : (c : ℕ) → Accepted (λ g ms k. (ms ≡ to_ready (qs (condition c))) × (k ≡ 0)) (decide n s qs (Broadcast c))
  unfolding decide
  broadcast_wakes c = when_by _ refl (λ _. when_by _ refl (λ _. accepted (refl, refl)))

  -- Abort of a process that stands anywhere but in an abortable condition sets its bit, and does nothing else
  pub abort_alone : (p : Process) → abortably n s qs p.0 ≡ false → Accepted (λ g ms k. (g ≡ put (abort p.0) 1 s) × (ms ≡ []) × (k ≡ 0)) (decide n s qs (Abort p))
  unfolding decide
  abort_alone p e = when_by _ refl (λ _. rw e (accepted (refl, refl, refl)))

  -- a Reenter of a locked lock never clears abort
  pub reenter_keeps : (l c : ℕ) → s (holder l) ≢ 0 → Accepted (λ g ms k. (p : ℕ) → g (abort p) ≡ s (abort p)) (decide n s qs (Reenter l c))
  unfolding decide
  reenter_keeps l c o = when_by _ refl (λ _. when_by _ refl (λ _. when_by _ refl (λ _. choose_by
      (λ e. absurd (o (so (eqb_case (s (holder l)) 0) (and_split (eqb (s (holder l)) 0) (called_off s c) e).0))) (λ _. enters_by l s (λ _ p. refl) (λ _ p. refl)))))

  -- Reenter, but for a free lock off which its caller is called, is Enter
  pub reenter_is : (l c : ℕ) → outside n.conditions c ≡ false → (eqb (s (holder l)) 0 && called_off s c) ≡ false → decide n s qs (Reenter l c) ≡ decide n s qs (Enter l)
  unfolding decide choose
  reenter_is l c i e =
      ap {A = Bool} (λ b. when (eqb (s running) 0) 6 (when (outside n.locks l || b) 7 (when (eqb (s (holder l)) (s running)) 8 (choose (eqb (s (holder l)) 0 && called_off s c) (accept (put (abort (s running)) 0 s) [] 2) (enters l s))))) i
      ∙ later (outside n.locks l) (choose_second e)
    where
      choose_second : {b : Bool} → b ≡ false → choose b (accept (put (abort (s running)) 0 s) [] 2) (enters l s) ≡ enters l s
      choose_second z = rw z

      later : (o : Bool) {d e : Effect} → d ≡ e → when (eqb (s running) 0) 6 (when (o || false) 7 (when (eqb (s (holder l)) (s running)) 8 d)) ≡ when (eqb (s running) 0) 6 (when o 7 (when (eqb (s (holder l)) (s running)) 8 e))
      later true z = ap (λ x. when (eqb (s running) 0) 6 (when true 7 (when (eqb (s (holder l)) (s running)) 8 x))) z
      later false z = ap (λ x. when (eqb (s running) 0) 6 (when false 7 (when (eqb (s (holder l)) (s running)) 8 x))) z

-- a wait of t ticks, if t is not 0, stores the clock plus t as it comes out
pub alarm_at : (now t : ℕ) → t ≢ 0 → alarm now t ≡ (now + t) % 65536
alarm_at now t h = rw (eqb_no t 0 h)

-- Tick leaves who is not armed asleep, and wakes the armed whose timer is the clock
module _ (n : Shape) (s : Fields) (now p : ℕ) where
  pub due_rung : member p (due n s now) ≡ true → (s (armed p) ≢ 0) × (s (timer p) ≡ now)
  due_rung e =
      let k = and_split (some (s (armed p))) (eqb (s (timer p)) now) (filter_member (rings s now) p (up_to n.processes) e).1 in
      (not_so (eqb_case (s (armed p)) 0) (not_true (eqb (s (armed p)) 0) k.0), so (eqb_case (s (timer p)) now) k.1)

  pub rung_due : inside n.processes p ≡ true → s (armed p) ≢ 0 → s (timer p) ≡ now → member p (due n s now) ≡ true
  rung_due i o e = member_filter (rings s now) p (up_to n.processes) (member_up_to n.processes p i) (rw (eqb_no (s (armed p)) 0 o, eqb_yes (s (timer p)) now e))

-- ---- what all calls share

-- how an accepted call ends, g being the fields before dispatch
pub record Ended (M : Machine) (g : Fields) (r : State M × Answer) : Type 0 where
  -- running is the first of ready, and the answer says so
  pub runs : r.0.fields running ≡ first (M.read (priorities r.0.fields) r.0.queues ready)
  pub says : r.1.running ≡ r.0.fields running
  -- the first's failed bit is cleared, and retry is what it was
  pub clears : (x : ℕ) (xs : List ℕ) → M.read (priorities r.0.fields) r.0.queues ready ≡ x ∷ xs → (r.1.retry ≡ g (failed x)) × (r.0.fields (failed x) ≡ 0)
  pub idles : M.read (priorities r.0.fields) r.0.queues ready ≡ [] → r.1.retry ≡ 0
  -- no other field changes
  pub others : (f : Field) → running ≢ f → failed (r.0.fields running) ≢ f → r.0.fields f ≡ g f

-- dispatch ends Start and every accepted call so
pub finish_ends : (M : Machine) (g : Fields) (q : M.Queues) (k came others : ℕ) → Ended M g (finish M g q k came others)
finish_ends M g q k came others = record {
  runs = dispatch_running in_ready g ∙ ap first (sym again);
  says = sym (dispatch_running in_ready g);
  clears = λ x xs e. clears_go in_ready x xs (sym again ∙ e);
  idles = λ e. idles_go in_ready (sym again ∙ e);
  others = others_go in_ready;
}
  where
    in_ready : List ℕ
    in_ready = M.read (priorities g) q ready

    -- dispatch changes no reading
    again : M.read (priorities (dispatch in_ready g)) q ready ≡ in_ready
    again = ap {A = ℕ → ℕ} (λ pr. M.read pr q ready) (dispatch_priorities in_ready g)

    clears_go : (ys : List ℕ) (x : ℕ) (xs : List ℕ) → ys ≡ x ∷ xs → (retry ys g ≡ g (failed x)) × (dispatch ys g (failed x) ≡ 0)
    clears_go ys x xs e = rw e (refl, put_here (failed x) 0 (put running x g))

    idles_go : (ys : List ℕ) → ys ≡ [] → retry ys g ≡ 0
    idles_go ys e = rw e

    others_go : (ys : List ℕ) (f : Field) → running ≢ f → failed (dispatch ys g running) ≢ f → dispatch ys g f ≡ g f
    others_go [] f a b = put_away running 0 g f a
    others_go (x ∷ xs) f a b = put_away (failed x) 0 (put running x g) f b ∙ put_away running x g f a

module _ (M : Machine) (n : Shape) (s : State M) (c : Call) where
  -- what the rules say of the call in this state
  abbrev pub effect : Effect
  effect = decide n s.fields (M.read (priorities s.fields) s.queues) c

  -- a refused call changes nothing and answers zeros beside its code
  pub refused_stays : (step M n s c).1.code ≢ 0 → step M n s c ≡ (s, refusal (step M n s c).1.code)
  unfolding step
  refused_stays = go effect
    where
      go : (e : Effect) → (obey M s e).1.code ≢ 0 → obey M s e ≡ (s, refusal (obey M s e).1.code)
      go (refuse k) h = refl
      go (accept g ms k) h = absurd (h refl)

  -- an accepted call ends with dispatch
  pub accepted_ends : (g : Fields) (ms : List Note) (k : ℕ) → effect ≡ accept g ms k → Ended M g (step M n s c)
  unfolding step
  accepted_ends g ms k e =
      let q = moves M (priorities g) s.queues ms in
      rw e (finish_ends M g q k (arrivals (M.read (priorities s.fields) s.queues ready) ms) (ahead (M.read (priorities g) q) ms))

-- without abort, or over a condition that is not abortable, Reenter is Enter: the same answer, and the same state
pub reenter_enters : (M : Machine) (n : Shape) (s : State M) (l c : ℕ) → outside n.conditions c ≡ false → (s.fields (abort (s.fields running)) ≡ 0) ⊎ (s.fields (abortable c) ≡ 0)
    → step M n s (Reenter l c) ≡ step M n s (Enter l)
unfolding step
reenter_enters M n s l c i h = ap (obey M s) (reenter_is n s.fields (M.read (priorities s.fields) s.queues) l c i (rw (off h, and-false)))
  where
    off : (s.fields (abort (s.fields running)) ≡ 0) ⊎ (s.fields (abortable c) ≡ 0) → called_off s.fields c ≡ false
    off (inl e) = rw e
    off (inr e) = rw (e, and-false)

-- ---- who is told how many are ahead

-- Enter and Reenter with mark 0 and Wait with mark 1: how many stand before their caller in the queue that it joined. All others: nothing
abbrev pub carried : Call → ℕ → ℕ → (Queue → List ℕ) → ℕ
carried (Enter l) k p qs = cond (eqb k 0) (length (ahead_of p (qs (lock l)))) 0
carried (Exit l) k p qs = 0
carried (Wait l c t) k p qs = cond (eqb k 1) (length (ahead_of p (qs (condition c)))) 0
carried (Notify c) k p qs = 0
carried (Broadcast c) k p qs = 0
carried (Naked c) k p qs = 0
carried (Requeue a b x) k p qs = 0
carried (SetPriority v) k p qs = 0
carried Tick k p qs = 0
carried (Abort x) k p qs = 0
carried (SetAbortable c v) k p qs = 0
carried (Reenter l c) k p qs = cond (eqb k 0) (length (ahead_of p (qs (lock l)))) 0

-- so it is said of the moves of each call
decide_carries : (n : Shape) (s : Fields) (qs : Queue → List ℕ) (c : Call) → Accepted (λ g ms k. (rs : Queue → List ℕ) → ahead rs ms ≡ carried c k (s running) rs) (decide n s qs c)
unfolding decide nakedly
decide_carries n s qs (Enter l) = when_by _ refl (λ _. when_by _ refl (λ _. when_by _ refl (λ _. enters_by l s (λ _ rs. refl) (λ _ rs. refl))))
decide_carries n s qs (Exit l) = when_by _ refl (λ _. when_by _ refl (λ _. when_by _ refl (λ _. accepted (λ rs. ahead_ready rs (first_only (qs (lock l)))))))
decide_carries n s qs (Wait l c t) =
    when_by _ refl (λ _. when_by _ refl (λ _. when_by _ refl (λ _. choose_by
    (λ _. accepted (λ rs. ahead_ready rs (first_only (qs (lock l))))) (λ _. choose_by
    (λ _. accepted (λ rs. ahead_ready rs (first_only (qs (lock l)))))
    (λ _. accepted (λ rs. ahead_after rs (first_only (qs (lock l))) ((s running, condition c) ∷ [])))))))
decide_carries n s qs (Notify c) = when_by _ refl (λ _. when_by _ refl (λ _. accepted (λ rs. ahead_ready rs (first_only (qs (condition c))))))
decide_carries n s qs (Broadcast c) = when_by _ refl (λ _. when_by _ refl (λ _. accepted (λ rs. ahead_ready rs (qs (condition c)))))
decide_carries n s qs (Naked c) = when_by _ refl (λ _. nakedly_by c (qs (condition c)) s (λ _. accepted (λ rs. refl)) (λ x ys _. accepted (λ rs. refl)))
decide_carries n s qs (Requeue a b p) = when_by _ refl (λ _. when_by _ refl (λ _. accepted (λ rs. ahead_park rs p.0 b)))
decide_carries n s qs (SetPriority v) = when_by _ refl (λ _. when_by _ refl (λ _. accepted (λ rs. refl)))
decide_carries n s qs Tick = accepted (λ rs. ahead_ready rs (due n s _))
decide_carries n s qs (Abort p) = when_by _ refl (λ _. accepted (λ rs. ahead_ready rs (called n s qs p.0)))
decide_carries n s qs (SetAbortable c v) = when_by _ refl (λ _. accepted (λ rs. refl))
decide_carries n s qs (Reenter l c) =
    when_by _ refl (λ _. when_by _ refl (λ _. when_by _ refl (λ _. choose_by (λ _. accepted (λ rs. refl)) (λ _. enters_by l s (λ _ rs. refl) (λ _ rs. refl)))))

-- and so of the answer of every accepted call, by the queues after it
pub ahead_told : (M : Machine) (n : Shape) (s : State M) (c : Call) → (step M n s c).1.code ≡ 0
    → (step M n s c).1.ahead ≡ carried c (step M n s c).1.mark (s.fields running) (M.read (priorities (step M n s c).0.fields) (step M n s c).0.queues)
unfolding step
ahead_told M n s c = go (effect M n s c) (decide_carries n s.fields (M.read (priorities s.fields) s.queues) c)
  where
    go : (e : Effect) → Accepted (λ g ms k. (rs : Queue → List ℕ) → ahead rs ms ≡ carried c k (s.fields running) rs) e → (obey M s e).1.code ≡ 0
        → (obey M s e).1.ahead ≡ carried c (obey M s e).1.mark (s.fields running) (M.read (priorities (obey M s e).0.fields) (obey M s e).0.queues)
    go (refuse k) h z = let b = of_refuse h in let w : ⊥ = omega (arith, b.0, z) in absurd w
    go (accept g ms k) (accepted h) z =
        let q = moves M (priorities g) s.queues ms in
        rw (dispatch_priorities (M.read (priorities g) q ready) g) (h (M.read (priorities g) q))
