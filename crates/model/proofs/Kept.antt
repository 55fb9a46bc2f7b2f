-- A valid state stays valid under every call, Start leaves one, and answers are small: each rule is a few puts and moves. Assumes nothing.
use Prim.Native.Nat.{ℕ, zero, suc, ◌+◌, ◌%◌, ◌≤◌, ◌<◌}
use native.Mathlib.Omega.{arith}
use mathlib.Core.Path.{◌≡◌, refl, sym, ◌∙◌, subst}
use mathlib.Core.Logic.{◌≢◌}
use mathlib.Core.Bool.{Bool, true, false, not, ◌&&◌, ◌||◌, cond, true≢false, false≢true}
use mathlib.Core.List.{List, [], ◌∷◌, ◌++◌, cons≢nil}
use lib.Dec.{eqb, ltb}
use lib.ListN.{length, get_or, length-append, get_or-eq_default}
use Rattle.model.specs.declared.Shape.{Shape}
use Rattle.model.specs.declared.Call.{Call}
use Rattle.model.specs.declared.Call.TheVariants.{Enter, Exit, Wait, Notify, Broadcast, Naked, Requeue, SetPriority, Tick, Abort, SetAbortable, Reenter}
use Rattle.model.specs.declared.Answer.{Answer}
use Rattle.model.specs.Queue.{Queue, Note, inside, outside, bit, up_to, same, exists, member, first, first_only, to_ready, Falling}
use Rattle.model.specs.Queue.Queue.{ready, park, lock, condition}
use Rattle.model.specs.Field.{Field, Fields, put, some, priorities}
use Rattle.model.specs.Field.Field.{clock, running, priority, armed, timer, failed, abort, holder, wakeup, abortable}
use Rattle.model.specs.Rules.{Effect, decide, nakedly, enters, released, abortably, called, calm, alarm, arm, ready_or_park, rings, due, counted, any_above, start_code, fresh}
use Rattle.model.specs.Rules.Effect.{refuse, accept}
use Rattle.model.specs.Machine.{State, model, moves, dispatch, retry, arrivals, ahead, finish, obey, step, after, start}
use Rattle.model.specs.Valid.{room, Placed, Valid}
use Rattle.model.proofs.Tests.{holds, fails, so, not_so, stops, EqCase, eqb_case, eqb_yes, LeCase, leb_case, same_case, put_here, or_split, not_false, not_below, bit_small, inside_bounds, bounds_inside, outside_inside}
use Rattle.model.proofs.Lists.{first_there, first_member, first_only_member, filter_member, up_to_member, filter_length, all_append}
use Rattle.model.proofs.Fields.{armed_cleared, calm_clears, dispatch_priorities, dispatch_running}
use Rattle.model.proofs.Accepted.{Accepted, accepted, Marked, when_by, choose_by, nakedly_by, enters_by, of_refuse, decide_marks}
use Rattle.model.proofs.Simulation.{Bounded, Ranked, decide_keeps}
use Rattle.model.proofs.Places.{sent, relocate, relocate_append, arrivals_few, arrivals_append, ahead_few, Stands, Movers, ready_movers, stands_moves, member_is, stands_at, queue_length, falling_all, falling_moves, stands_start}
use Rattle.model.proofs.Good.{Fits, Good, good_put, good_zero, good_calm, good_move, good_ready, each_most, each_none, each_low, of_valid, to_valid}

-- ---- moves of a call

first_only_length : (xs : List ℕ) → length (first_only xs) ≤ length xs
first_only_length [] = omega arith
first_only_length (x ∷ xs) = omega arith

pub up_to_length : (k : ℕ) → length (up_to k) ≡ k
up_to_length zero = refl
up_to_length (suc k) = let e = up_to_length k in rw (length-append (up_to k) (suc k ∷ [])) (omega arith)

-- ---- Requeue's queues

pub low_exists : (n : Shape) (k : ℕ) → k ≤ n.parks → exists n (ready_or_park k) ≡ true
low_exists n k h = go (eqb_case k 0)
  where
    go : EqCase k 0 → exists n (ready_or_park k) ≡ true
    go (holds d z) = rw z
    go (fails d z) = rw z (bounds_inside n.parks k (omega arith) h)

-- what holds of ready and of park k holds of Requeue's queue k
low_by : (P : Queue → Type 0) (k : ℕ) → P ready → P (park k) → P (ready_or_park k)
low_by P k a b = go (eqb k 0)
  where
    go : (z : Bool) → P (cond z ready (park k))
    go true = a
    go false = b

alarm_small : (now t : ℕ) → alarm now t < 65536
alarm_small now t = go (eqb t 0)
  where
    go : (b : Bool) → cond b 0 ((now + t) % 65536) < 65536
    go true = omega arith
    go false = omega arith

-- without armed there is no timer
alarm_none : (now t : ℕ) → bit (some t) ≡ 0 → alarm now t ≡ 0
alarm_none now t = go (eqb t 0)
  where
    go : (b : Bool) → bit (not b) ≡ 0 → cond b 0 ((now + t) % 65536) ≡ 0
    go true e = refl
    go false e = let w : ⊥ = omega arith in absurd w

-- ---- each call, before dispatch

-- what an accepted call leaves
pub record Fine (n : Shape) (place : ℕ → Queue) (g : Fields) (ms : List Note) (k : ℕ) : Type 0 where
  pub good : Good n g (relocate place ms)
  pub movers : Movers n.processes ms
  pub few : (rs : List ℕ) → arrivals rs ms ≤ n.processes

module _ (n : Shape) (s : Fields) (qs : Queue → List ℕ) (v : Valid n record { fields = s; queues = qs }) where
  good : Good n s v.placed.place
  good = of_valid n record { fields = s; queues = qs } v

  standing : (p : ℕ) (q : Queue) → member p (qs q) ≡ true → (inside n.processes p ≡ true) × (v.placed.place p ≡ q)
  standing p q e = stands_at n.processes qs v.placed.place v.placed.once p q e

  -- a member of a queue has what fits there
  fit : (p : ℕ) (q : Queue) → member p (qs q) ≡ true → Fits q (s (armed p)) (s (failed p))
  fit p q e = let k = standing p q e in rw k.1 at (good.fits p k.0)

  -- who runs stands in ready
  pub runner : eqb (s running) 0 ≡ false → member (s running) (qs ready) ≡ true
  runner r = rw v.runs (first_member (qs ready) (rw v.runs at (not_so (eqb_case (s running) 0) r)))

  -- nobody comes
  still : (g : Fields) (k : ℕ) → Good n g v.placed.place → Fine n v.placed.place g [] k
  still g k h = record { good = h; movers = tt; few = λ rs. omega arith }

  -- one moves
  one : (g : Fields) (k x : ℕ) (q r : Queue) → member x (qs r) ≡ true → Good n g (sent v.placed.place (x, q)) → Fine n v.placed.place g ((x, q) ∷ []) k
  one g k x q r e h = record {
    good = h;
    movers = ((standing x r e).0, tt);
    few = λ rs. let a = inside_bounds n.processes x (standing x r e).0 in let b = bit_small (same q ready && not (member x rs)) in omega arith;
  }

  -- some of them wake, all of them processes
  waking : (g : Fields) (k : ℕ) (ps : List ℕ) → Good n g v.placed.place → ((p : ℕ) → member p ps ≡ true → inside n.processes p ≡ true) → length ps ≤ n.processes
      → Fine n v.placed.place (calm ps g) (to_ready ps) k
  waking g k ps h i l = record {
    good = good_ready n (calm ps g) ps v.placed.place (good_calm n ps g v.placed.place h) (λ p e. calm_clears armed_cleared p ps g e);
    movers = ready_movers n.processes ps i;
    few = λ rs. let a = arrivals_few rs ps in omega arith;
  }

  in_queue : (q : Queue) (p : ℕ) → member p (qs q) ≡ true → inside n.processes p ≡ true
  in_queue q p e = (standing p q e).0

  in_first : (q : Queue) (p : ℕ) → member p (first_only (qs q)) ≡ true → inside n.processes p ≡ true
  in_first q p e = in_queue q p (first_only_member p (qs q) e)

  long : (q : Queue) → length (qs q) ≤ n.processes
  long q = queue_length n.processes qs v.placed.place v.placed.once q

  first_long : (q : Queue) → length (first_only (qs q)) ≤ n.processes
  first_long q = let a = first_only_length (qs q) in let b = long q in omega arith

  -- the lock is left, and its first goes to ready
  leaving : (l : ℕ) → Fine n v.placed.place (put (holder l) 0 s) (released qs l) 0
  leaving l = record {
    good = good_ready n (put (holder l) 0 s) (first_only (qs (lock l))) v.placed.place (good_zero n s v.placed.place (holder l) good (λ z. absurd (false≢true z)))
        (λ p e. (fit p (lock l) (first_only_member p (qs (lock l)) e)).1);
    movers = ready_movers n.processes (first_only (qs (lock l))) (in_first (lock l));
    few = λ rs. let a = arrivals_few rs (first_only (qs (lock l))) in let b = first_long (lock l) in omega arith;
  }

  -- the free lock is taken: its holder stands in ready
  takes : (l : ℕ) → eqb (s running) 0 ≡ false → inside n.locks l ≡ true → Good n (put (holder l) (s running) s) v.placed.place
  takes l r i = good_put n s v.placed.place (holder l) (s running) good (rw i (good.range running)) (λ z. rw (standing (s running) ready (runner r)).1)

  -- the running process fails and moves to the lock, whose holder is another
  queues_up : (l : ℕ) → eqb (s running) 0 ≡ false → inside n.locks l ≡ true → eqb (s (holder l)) (s running) ≡ false
      → Good n (put (failed (s running)) 1 s) (sent v.placed.place (s running, lock l))
  queues_up l r i o =
      let k = standing (s running) ready (runner r) in
      let t = fit (s running) ready (runner r) in
      good_move n (put (failed (s running)) 1 s) v.placed.place (s running) (lock l)
      (good_put n s v.placed.place (failed (s running)) 1 good (rw k.0 (omega arith)) (λ z. rw k.1 t)) i (put_here (failed (s running)) 1 s, t)
      (λ j e. stops (same_case (lock l) (lock j)) (λ d. not_so (eqb_case (s (holder l)) (s running)) o (cc))) (λ c e. refl)

  -- Enter past its codes
  goes_in : (l : ℕ) → eqb (s running) 0 ≡ false → inside n.locks l ≡ true → eqb (s (holder l)) (s running) ≡ false → Accepted (Fine n v.placed.place) (enters l s)
  goes_in l r i o = enters_by l s
      (λ e. still (put (holder l) (s running) s) 1 (takes l r i))
      (λ e. one (put (failed (s running)) 1 s) 0 (s running) (lock l) ready (runner r) (queues_up l r i o))

  -- the wait goes on in ready
  stays : (l c : ℕ) → Fine n v.placed.place (put (wakeup c) 0 (put (holder l) 0 s)) (released qs l) 0
  stays l c = let k = leaving l in record {
    good = good_zero n (put (holder l) 0 s) (relocate v.placed.place (released qs l)) (wakeup c) k.good (λ z. absurd (false≢true z));
    movers = k.movers;
    few = k.few;
  }

  -- the wait goes on in the condition
  sleeps : (l c t : ℕ) → eqb (s running) 0 ≡ false → inside n.conditions c ≡ true → some (s (wakeup c)) ≡ false
      → Fine n v.placed.place (arm (s running) t (put (holder l) 0 s)) (released qs l ++ ((s running, condition c) ∷ [])) 1
  sleeps l c t r i e =
      let k = leaving l in
      let x = s running in
      let there = relocate v.placed.place (released qs l) in
      record {
        good = rw (relocate_append (released qs l) ((x, condition c) ∷ []) v.placed.place)
            (good_put n (put (armed x) (bit (some t)) (put (holder l) 0 s)) (sent there (x, condition c)) (timer x) (alarm (s clock) t)
            (good_put n (put (holder l) 0 s) (sent there (x, condition c)) (armed x) (bit (some t))
            (good_move n (put (holder l) 0 s) there x (condition c) k.good i v.steady (λ j z. refl)
            (λ d z. stops (same_case (condition c) (condition d)) (λ y. let w : ◌≡◌ {A = Bool} true false = cc in true≢false w)))
            (let b = bit_small (some t) in rw (standing x ready (runner r)).0 (omega arith))
            ((λ z. rw (eqb_yes x x refl) v.steady), (λ z. good.timers x (fit x ready (runner r)))))
            (rw (standing x ready (runner r)).0 (alarm_small (s clock) t))
            (λ z. alarm_none (s clock) t (sym (put_here (armed x) (bit (some t)) (put (holder l) 0 s)) ∙ z)));
        movers = all_append (λ m. inside n.processes m.0 ≡ true) (released qs l) ((x, condition c) ∷ []) k.movers ((standing x ready (runner r)).0, tt);
        few = λ rs. let a = k.few rs in let b = arrivals_append rs (released qs l) ((x, condition c) ∷ []) in omega arith;
      }

  -- the wakeup is set over an empty queue
  sets : (c : ℕ) → inside n.conditions c ≡ true → qs (condition c) ≡ [] → Good n (put (wakeup c) 1 s) v.placed.place
  sets c i e = good_put n s v.placed.place (wakeup c) 1 good (rw i (omega arith))
      (λ z p j. let w : false ≡ true && same (v.placed.place p) (condition c) = rw (e, j) at (member_is n.processes qs v.placed.place v.placed.once p (condition c)) in sym w)

  -- from ready or a park to ready or a park: nobody is armed in either
  requeues : (a b p : ℕ) → b ≤ n.parks → member p (qs (ready_or_park a)) ≡ true → Good n s (sent v.placed.place (p, ready_or_park b))
  requeues a b p h e =
      let t = low_by (λ q. Fits q (s (armed p)) (s (failed p)) → s (armed p) ≡ 0) a (λ z. z) (λ z. z) (fit p (ready_or_park a) e) in
      good_move n s v.placed.place p (ready_or_park b) good (low_exists n b h) (low_by (λ q. Fits q (s (armed p)) (s (failed p))) b t t)
      (λ l z. low_by (λ q. same q (lock l) ≡ false) b refl refl) (λ c z. low_by (λ q. same q (condition c) ≡ false) b refl refl)

  -- the running process takes a priority and moves
  ranks : (w : ℕ) → eqb (s running) 0 ≡ false → w ≤ 7 → Good n (put (priority (s running)) w s) (sent v.placed.place (s running, ready))
  ranks w r h = good_move n (put (priority (s running)) w s) v.placed.place (s running) ready
      (good_put n s v.placed.place (priority (s running)) w good (rw (standing (s running) ready (runner r)).0 (omega arith)) tt)
      refl (fit (s running) ready (runner r)) (λ l z. refl) (λ c z. refl)

  -- those who are due are processes, and not too many
  in_due : (now p : ℕ) → member p (due n s now) ≡ true → inside n.processes p ≡ true
  in_due now p e = up_to_member n.processes p (filter_member _ p (up_to n.processes) e).0

  due_long : (now : ℕ) → length (due n s now) ≤ n.processes
  due_long now = let a = filter_length (rings s now) (up_to n.processes) in let b = up_to_length n.processes in omega arith

  -- one process or nobody
  in_only : (p : ℕ) (b : Bool) → inside n.processes p ≡ true → (x : ℕ) → member x (cond b (p ∷ []) []) ≡ true → inside n.processes x ≡ true
  in_only p true i x e = go (eqb_case p x) e
    where
      go : EqCase p x → eqb p x || false ≡ true → inside n.processes x ≡ true
      go (holds d z) e = rw (← d) i
      go (fails d z) e = absurd (false≢true (rw z at e))
  in_only p false i x e = absurd (false≢true e)

  only_long : (p : ℕ) (b : Bool) → inside n.processes p ≡ true → length (cond b (p ∷ []) []) ≤ n.processes
  only_long p true i = let k = inside_bounds n.processes p i in omega arith
  only_long p false i = omega arith

  -- every rule leaves what is valid but for dispatch
  pub decide_good : (c : Call) → Accepted (Fine n v.placed.place) (decide n s qs c)
  unfolding decide nakedly
  decide_good (Enter l) = when_by _ refl (λ r. when_by _ refl (λ j. when_by _ refl (λ o. goes_in l r (outside_inside n.locks l j) o)))
  decide_good (Exit l) = when_by _ refl (λ r. when_by _ refl (λ j. when_by _ refl (λ o. accepted (leaving l))))
  decide_good (Wait l c t) = when_by _ refl (λ r. when_by _ refl (λ j. when_by _ refl (λ o. choose_by
      (λ e. accepted (leaving l)) (λ _. choose_by
      (λ e. accepted (stays l c))
      (λ e. accepted (sleeps l c t.0 r (outside_inside n.conditions c (or_split (outside n.locks l) (outside n.conditions c) j).1) e))))))
  decide_good (Notify c) = when_by _ refl (λ r. when_by _ refl (λ j. accepted (waking s 0 (first_only (qs (condition c))) good (in_first (condition c)) (first_long (condition c)))))
  decide_good (Broadcast c) = when_by _ refl (λ r. when_by _ refl (λ j. accepted (waking s 0 (qs (condition c)) good (in_queue (condition c)) (long (condition c)))))
  decide_good (Naked c) = when_by _ refl (λ j. nakedly_by c (qs (condition c)) s
      (λ e. accepted (still (put (wakeup c) 1 s) 1 (sets c (outside_inside n.conditions c j) e)))
      (λ x ys e. accepted (waking s 0 (x ∷ []) good (λ p z. in_first (condition c) p (rw e z)) (let w : length (first_only (qs (condition c))) ≤ n.processes = first_long (condition c) in rw e at w))))
  decide_good (Requeue a b p) = when_by _ refl (λ j. when_by _ refl (λ o.
      let k = or_split (ltb n.parks a || ltb n.parks b) (outside n.processes p.0) j in
      let m = not_false (member p.0 (qs (ready_or_park a))) o in
      accepted (one s 0 p.0 (ready_or_park b) (ready_or_park a) m (requeues a b p.0 (not_below n.parks b (or_split (ltb n.parks a) (ltb n.parks b) k.0).1) m))))
  decide_good (SetPriority w) = when_by _ refl (λ r. when_by _ refl (λ e.
      accepted (one (put (priority (s running)) w.0 s) 0 (s running) ready ready (runner r) (ranks w.0 r (not_below 7 w.0 e)))))
  decide_good Tick = let now = (s clock + 1) % 65536 in let h : now < 65536 = omega arith in
      accepted (waking (put clock now s) 0 (due n s now) (good_put n s v.placed.place clock now good h tt) (in_due now) (due_long now))
  decide_good (Abort p) = when_by _ refl (λ j.
      let i = outside_inside n.processes p.0 j in
      accepted (waking (put (abort p.0) 1 s) 0 (called n s qs p.0) (good_put n s v.placed.place (abort p.0) 1 good (rw i (omega arith)) tt) (in_only p.0 (abortably n s qs p.0) i) (only_long p.0 (abortably n s qs p.0) i)))
  decide_good (SetAbortable c w) = when_by _ refl (λ j.
      let k = or_split (outside n.conditions c) (ltb 1 w) j in
      let u = not_below 1 w k.1 in
      accepted (still (put (abortable c) w s) 0 (good_put n s v.placed.place (abortable c) w good (rw (outside_inside n.conditions c k.0) (omega arith)) tt)))
  decide_good (Reenter l c) = when_by _ refl (λ r. when_by _ refl (λ j. when_by _ refl (λ o. choose_by
      (λ e. accepted (still (put (abort (s running)) 0 s) 2 (good_zero n s v.placed.place (abort (s running)) good tt)))
      (λ e. goes_in l r (outside_inside n.locks l (or_split (outside n.locks l) (outside n.conditions c) j).0) o))))

-- ---- dispatch

-- the first of ready may run and be no longer failed
dispatch_good : (n : Shape) (g : Fields) (place : ℕ → Queue) (xs : List ℕ) → (xs ≢ [] → (inside n.processes (first xs) ≡ true) × (place (first xs) ≡ ready)) → Good n g place → Good n (dispatch xs g) place
dispatch_good n g place [] h k = good_zero n g place running k tt
dispatch_good n g place (x ∷ xs) h k =
    let w = h cons≢nil in
    let b = inside_bounds n.processes x w.0 in
    good_zero n (put running x g) place (failed x) (good_put n g place running x k (omega arith) tt) (λ i. rw w.1 (rw w.1 at (k.fits x i)))

dispatch_steady : (n : Shape) (g : Fields) (xs : List ℕ) → ((f : Field) → g f < room n f) → dispatch xs g (failed (dispatch xs g running)) ≡ 0
dispatch_steady n g [] k = each_none n.processes 0 2 (g (failed 0)) refl (k (failed 0))
dispatch_steady n g (x ∷ xs) k = put_here (failed x) 0 (put running x g)

finish_valid : (n : Shape) (g : Fields) (qs : Queue → List ℕ) (place : ℕ → Queue) (k a b : ℕ) → counted n ≡ true → Good n g place → Stands n.processes qs place → ((q : Queue) → Falling (priorities g) (qs q))
    → Valid n (finish model g qs k a b).0
finish_valid n g qs place k a b counts good st falls = to_valid n (finish model g qs k a b).0 counts place
    (dispatch_good n g place (qs ready) (λ h. stands_at n.processes qs place st (first (qs ready)) ready (first_there (qs ready) h)) good) st
    (λ q. subst (λ (pr : ℕ → ℕ). Falling pr (qs q)) (sym (dispatch_priorities (qs ready) g)) (falls q))
    (dispatch_running (qs ready) g) (dispatch_steady n g (qs ready) good.range)

-- ---- validity is kept

-- priorities in range are at most 7
pub valid_bounded : (n : Shape) (s : Fields) → ((f : Field) → s f < room n f) → Bounded (priorities s)
valid_bounded n s h p = let k = each_most n.processes p 8 (s (priority p)) (h (priority p)) (omega arith) in omega arith

obey_valid : (n : Shape) (s : State model) (v : Valid n s) (e : Effect) → Accepted (Ranked (priorities s.fields)) e → Accepted (Fine n v.placed.place) e → Valid n (obey model s e).0
obey_valid n s v (refuse k) h r = v
obey_valid n s v (accept g ms k) (accepted h) (accepted r) =
    let qs = moves model (priorities g) s.queues ms in
    finish_valid n g qs (relocate v.placed.place ms) k (arrivals (s.queues ready) ms) (ahead qs ms) v.placed.counts r.good
    (stands_moves n.processes (priorities g) ms s.queues v.placed.place v.placed.once r.movers) (falling_moves (priorities s.fields) (priorities g) ms s.queues h.0 v.placed.falls)

pub step_valid : (n : Shape) (s : State model) (c : Call) → Valid n s → Valid n (step model n s c).0
unfolding step
step_valid n s c v = obey_valid n s v (decide n s.fields s.queues c)
    (decide_keeps n s.fields s.queues (valid_bounded n s.fields v.placed.range) c) (decide_good n s.fields s.queues v c)

-- no clause but the range of the clock goes by it
pub valid_clock : {n : Shape} {s : State model} {v : ℕ} → Placed n (record { fields = put clock v s.fields; queues = s.queues }) → Valid n s → Valid n (record { fields = put clock v s.fields; queues = s.queues })
valid_clock P w = record {
  placed = P;
  runs = w.runs;
  steady = w.steady;
  arms = w.arms;
  timers = w.timers;
  blocked = w.blocked;
  asleep = w.asleep;
  holders = w.holders;
  wakeups = w.wakeups;
}

pub after_valid : (n : Shape) (cs : List Call) (s : State model) → Valid n s → Valid n (after model n s cs)
after_valid n [] s v = v
after_valid n (c ∷ cs) s v = after_valid n cs (step model n s c).0 (step_valid n s c v)

-- ---- Start

-- what an accepted Start was given
pub record Given (n : Shape) (bytes : List ℕ) : Type 0 where
  pub counts : counted n ≡ true
  pub long : length bytes ≡ n.processes
  pub low : any_above 7 bytes ≡ false

pub given : (n : Shape) (bytes : List ℕ) → start_code n bytes ≡ 0 → Given n bytes
given n bytes = go (counted n) refl (eqb (length bytes) n.processes) refl (any_above 7 bytes) refl
  where
    go : (a : Bool) → counted n ≡ a → (b : Bool) → eqb (length bytes) n.processes ≡ b → (c : Bool) → any_above 7 bytes ≡ c → ◌≡◌ {A = ℕ} (cond (not a) 2 (cond (not b) 3 (cond c 4 0))) 0 → Given n bytes
    go false x b y c z e = let w : ⊥ = omega arith in absurd w
    go true x false y c z e = let w : ⊥ = omega arith in absurd w
    go true x true y true z e = let w : ⊥ = omega arith in absurd w
    go true x true y false z e = record { counts = x; long = so (eqb_case (length bytes) n.processes) y; low = z }

get_d_low : (bytes : List ℕ) (p : ℕ) → any_above 7 bytes ≡ false → get_or bytes p 0 ≤ 7
get_d_low [] p e = omega arith
get_d_low (x ∷ xs) zero e = not_below 7 x (or_split (ltb 7 x) (any_above 7 xs) e).0
get_d_low (x ∷ xs) (suc p) e = get_d_low xs p (or_split (ltb 7 x) (any_above 7 xs) e).1

pub fresh_bounded : (bytes : List ℕ) → any_above 7 bytes ≡ false → Bounded (priorities (fresh bytes))
fresh_bounded bytes e zero = omega arith
fresh_bounded bytes e (suc p) = get_d_low bytes p e

pub fresh_range : (n : Shape) (bytes : List ℕ) → Given n bytes → (f : Field) → fresh bytes f < room n f
fresh_range n bytes h clock = omega arith
fresh_range n bytes h running = omega arith
fresh_range n bytes h (priority p) = let k = fresh_bounded bytes h.low p in each_low n.processes p 8 (fresh bytes (priority p)) (omega arith) (stray p)
  where
    stray : (p : ℕ) → inside n.processes p ≡ false → fresh bytes (priority p) ≡ 0
    stray zero e = refl
    stray (suc p) e = get_or-eq_default bytes 0 (go (leb_case (suc p) n.processes))
      where
        go : LeCase (suc p) n.processes → length bytes ≤ p
        go (holds d z) = absurd (true≢false (sym (bounds_inside n.processes (suc p) (omega arith) d) ∙ e))
        go (fails d z) = let l = h.long in omega arith
fresh_range n bytes h (armed p) = each_low n.processes p 2 0 (omega arith) (λ e. refl)
fresh_range n bytes h (timer p) = each_low n.processes p 65536 0 (omega arith) (λ e. refl)
fresh_range n bytes h (failed p) = each_low n.processes p 2 0 (omega arith) (λ e. refl)
fresh_range n bytes h (abort p) = each_low n.processes p 2 0 (omega arith) (λ e. refl)
fresh_range n bytes h (holder l) = each_low n.locks l (suc n.processes) 0 (omega arith) (λ e. refl)
fresh_range n bytes h (wakeup c) = each_low n.conditions c 2 0 (omega arith) (λ e. refl)
fresh_range n bytes h (abortable c) = each_low n.conditions c 2 0 (omega arith) (λ e. refl)

fresh_good : (n : Shape) (bytes : List ℕ) → Given n bytes → Good n (fresh bytes) (λ p. ready)
fresh_good n bytes h = record {
  range = fresh_range n bytes h;
  real = λ p i. refl;
  fits = λ p i. refl;
  timers = λ p e. refl;
  holders = λ l e. refl;
  wakeups = λ c e p i. refl;
}

pub start_valid : (n : Shape) (bytes : List ℕ) → start_code n bytes ≡ 0 → Valid n (start model n bytes).0
start_valid n bytes ok =
    let h = given n bytes ok in
    let pr = priorities (fresh bytes) in
    finish_valid n (fresh bytes) (moves model pr (λ q. []) (to_ready (up_to n.processes))) (λ p. ready) 0 0 0 h.counts (fresh_good n bytes h)
    (stands_start pr n.processes) (falling_all pr (to_ready (up_to n.processes)) (λ q. []) (λ q. tt))

-- ---- answers are small

pub record Small (n : Shape) (a : Answer) : Type 0 where
  pub code : a.code ≤ 10
  pub running : a.running ≤ n.processes
  pub retry : a.retry ≤ 1
  pub mark : a.mark ≤ 2
  pub moved : a.moved ≤ n.processes
  pub ahead : a.ahead ≤ n.processes

retry_small : (n : Shape) (g : Fields) (xs : List ℕ) → ((f : Field) → g f < room n f) → retry xs g ≤ 1
retry_small n g [] h = omega arith
retry_small n g (x ∷ xs) h = let k = each_most n.processes x 2 (g (failed x)) (h (failed x)) (omega arith) in omega arith

finish_small : (n : Shape) (g : Fields) (qs : Queue → List ℕ) (k a b : ℕ) → Valid n (finish model g qs k a b).0 → ((f : Field) → g f < room n f) → k ≤ 2 → a ≤ n.processes → b ≤ n.processes → Small n (finish model g qs k a b).1
finish_small n g qs k a b v h m d e = record {
  code = omega arith;
  running = let w = v.placed.range running in let r = dispatch_running (qs ready) g in omega arith;
  retry = retry_small n g (qs ready) h;
  mark = m;
  moved = d;
  ahead = e;
}

obey_small : (n : Shape) (s : State model) (v : Valid n s) (e : Effect) → Valid n (obey model s e).0 → Accepted Marked e → Accepted (Fine n v.placed.place) e → Small n (obey model s e).1
obey_small n s v (refuse k) w h r = let b = of_refuse h in record { code = b.1; running = omega arith; retry = omega arith; mark = omega arith; moved = omega arith; ahead = omega arith }
obey_small n s v (accept g ms k) w (accepted h) (accepted r) =
    let qs = moves model (priorities g) s.queues ms in
    finish_small n g qs k (arrivals (s.queues ready) ms) (ahead qs ms) w r.good.range (so (leb_case k 2) h) (r.few (s.queues ready))
    (ahead_few qs ms (λ q. queue_length n.processes qs w.placed.place w.placed.once q))

pub step_small : (n : Shape) (s : State model) (c : Call) → Valid n s → Small n (step model n s c).1
unfolding step
step_small n s c v = obey_small n s v (decide n s.fields s.queues c) (step_valid n s c v) (decide_marks n s.fields s.queues c) (decide_good n s.fields s.queues v c)

pub start_small : (n : Shape) (bytes : List ℕ) → start_code n bytes ≡ 0 → Small n (start model n bytes).1
start_small n bytes ok =
    finish_small n (fresh bytes) (moves model (priorities (fresh bytes)) (λ q. []) (to_ready (up_to n.processes))) 0 0 0 (start_valid n bytes ok) (fresh_range n bytes (given n bytes ok)) (omega arith) (omega arith) (omega arith)
