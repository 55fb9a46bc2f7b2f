-- What a call leaves of a process that waits: Tick takes one off its ticks left, and any other call leaves them as they are, and it where it
-- stands, or wakes it. A Wait of t ticks leaves t. Each call is walked once. Assumes nothing.
use Prim.Native.Nat.{ℕ, ◌+◌, ◌%◌, ◌≤◌, ◌<◌}
use native.Mathlib.Omega.{arith}
use mathlib.Core.Path.{◌≡◌, refl, sym, ap, ◌∙◌}
use mathlib.Core.Logic.{◌≢◌}
use mathlib.Core.Bool.{Bool, true, false, ◌&&◌, ◌||◌, cond, and-false, true≢false, false≢true}
use mathlib.Core.List.{List, [], ◌∷◌, ◌++◌}
use lib.Dec.{eqb}
use Rattle.model.specs.declared.Shape.{Shape}
use Rattle.model.specs.declared.Ticks.{Ticks}
use Rattle.model.specs.declared.Call.{Call}
use Rattle.model.specs.declared.Call.TheVariants.{Enter, Exit, Wait, Notify, Broadcast, Naked, Requeue, SetPriority, Tick, Abort, SetAbortable, Reenter}
use Rattle.model.specs.Queue.{Queue, Note, inside, bit, same, member, first_only, to_ready, is_condition}
use Rattle.model.specs.Queue.Queue.{ready, park, lock, condition}
use Rattle.model.specs.Field.{Fields, put, some, priorities}
use Rattle.model.specs.Field.Field.{clock, running, armed, timer, abort, holder}
use Rattle.model.specs.Rules.{Effect, decide, nakedly, released, calm, called, alarm, arm, ready_or_park}
use Rattle.model.specs.Rules.Effect.{refuse, accept}
use Rattle.model.specs.Machine.{State, model, moves, dispatch, obey, step, waiting}
use Rattle.model.specs.Valid.{Valid}
use Rattle.model.specs.Timers.{is_tick, distance, ticks_to, left}
use Rattle.model.proofs.Tests.{eqb_yes, eqb_no, put_here, put_away, or_split, not_false, denied}
use Rattle.model.proofs.Lists.{first_only_member}
use Rattle.model.proofs.Fields.{calm_away, armed_cleared, timer_cleared, calm_other, dispatch_away}
use Rattle.model.proofs.Accepted.{Accepted, accepted, when_by, choose_by, nakedly_by, enters_by}
use Rattle.model.proofs.Places.{sent, relocate, relocate_append, Stands, stands_moves, member_is, stands_at, at_place, waiting_is}
use Rattle.model.proofs.Kept.{Fine, runner, decide_good}
use Rattle.model.proofs.Rules.{alarm_at}
use Rattle.model.proofs.Ticking.{relocate_ready, tick_left, tick_stays}

-- ---- moves that do not name p

abbrev names : ℕ → List Note → Bool
names p [] = false
names p (m ∷ ms) = eqb m.0 p || names p ms

names_ready : (p : ℕ) (ps : List ℕ) → names p (to_ready ps) ≡ member p ps
names_ready p [] = refl
names_ready p (x ∷ ps) = rw (names_ready p ps)

names_append : (p : ℕ) (ms ns : List Note) → names p ms ≡ false → names p ns ≡ false → names p (ms ++ ns) ≡ false
names_append p [] ns a b = b
names_append p (m ∷ ms) ns a b = let k = or_split (eqb m.0 p) (names p ms) a in rw k.0 (names_append p ms ns k.1 b)

-- it stays where it is
unnamed_stays : (p : ℕ) (ms : List Note) (place : ℕ → Queue) → names p ms ≡ false → relocate place ms p ≡ place p
unnamed_stays p [] place e = refl
unnamed_stays p (m ∷ ms) place e = let k = or_split (eqb m.0 p) (names p ms) e in unnamed_stays p ms (sent place m) k.1 ∙ rw k.0

-- ---- what a call does to a process that stands in a condition

-- it leaves the process and its timer alone, or wakes it
data Treats (s : Fields) (p : ℕ) (g : Fields) (ms : List Note) : Type 0 where
  spares : g clock ≡ s clock → g (armed p) ≡ s (armed p) → g (timer p) ≡ s (timer p) → names p ms ≡ false → Treats s p g ms
  wakes : (ps : List ℕ) → ms ≡ to_ready ps → member p ps ≡ true → Treats s p g ms

-- some wake, where nothing else was done to its timer
waking_from : (s f : Fields) (p : ℕ) (ps : List ℕ) → f clock ≡ s clock → f (armed p) ≡ s (armed p) → f (timer p) ≡ s (timer p) → Treats s p (calm ps f) (to_ready ps)
waking_from s f p ps ec ea et = go (member p ps) refl
  where
    go : (b : Bool) → member p ps ≡ b → Treats s p (calm ps f) (to_ready ps)
    go true m = wakes ps refl m
    go false m = spares (calm_away clock (λ x t. refl) ps f ∙ ec) (calm_other armed_cleared p ps f m ∙ ea) (calm_other timer_cleared p ps f m ∙ et) (names_ready p ps ∙ m)

waking : (s : Fields) (p : ℕ) (ps : List ℕ) → Treats s p (calm ps s) (to_ready ps)
waking s p ps = waking_from s s p ps refl refl refl

module _ (n : Shape) (s : Fields) (qs : Queue → List ℕ) (p : ℕ) (runs : eqb (s running) 0 ≡ false → member (s running) (qs ready) ≡ true)
    (out : (q : Queue) → is_condition q ≡ false → member p (qs q) ≡ false) where
  -- who runs is another
  other : eqb (s running) 0 ≡ false → s running ≢ p
  other r e = true≢false (sym (runs r) ∙ rw e (out ready refl))

  one : (x : ℕ) (q : Queue) → x ≢ p → names p ((x, q) ∷ []) ≡ false
  one x q h = rw (eqb_no x p h)

  freed : (l : ℕ) → names p (released qs l) ≡ false
  freed l =
      names_ready p (first_only (qs (lock l)))
      ∙ denied (member p (first_only (qs (lock l)))) (λ m. true≢false (sym (first_only_member p (qs (lock l)) m) ∙ out (lock l) refl))

  low_out : (a : ℕ) → member p (qs (ready_or_park a)) ≡ false
  low_out a = go (eqb a 0)
    where
      go : (b : Bool) → member p (qs (cond b ready (park a))) ≡ false
      go true = out ready refl
      go false = out (park a) refl

  treats : (c : Call) → is_tick c ≡ false → Accepted (λ g ms k. Treats s p g ms) (decide n s qs c)
  unfolding decide nakedly
  treats (Enter l) e = when_by _ refl (λ r. when_by _ refl (λ _. when_by _ refl (λ _. enters_by l s
      (λ _. spares refl refl refl refl) (λ _. spares refl refl refl (one (s running) (lock l) (other r))))))
  treats (Exit l) e = when_by _ refl (λ _. when_by _ refl (λ _. when_by _ refl (λ _. accepted (spares refl refl refl (freed l)))))
  treats (Wait l c t) e = when_by _ refl (λ r. when_by _ refl (λ _. when_by _ refl (λ _. choose_by
      (λ _. accepted (spares refl refl refl (freed l))) (λ _. choose_by
      (λ _. accepted (spares refl refl refl (freed l)))
      (λ _. accepted (spares refl (put_away (armed (s running)) (bit (some t.0)) (put (holder l) 0 s) (armed p) (λ d. other r (cc)))
      (put_away (timer (s running)) (alarm (s clock) t.0) (put (armed (s running)) (bit (some t.0)) (put (holder l) 0 s)) (timer p) (λ d. other r (cc)))
      (names_append p (released qs l) ((s running, condition c) ∷ []) (freed l) (one (s running) (condition c) (other r)))))))))
  treats (Notify c) e = when_by _ refl (λ _. when_by _ refl (λ _. accepted (waking s p (first_only (qs (condition c))))))
  treats (Broadcast c) e = when_by _ refl (λ _. when_by _ refl (λ _. accepted (waking s p (qs (condition c)))))
  treats (Naked c) e = when_by _ refl (λ _. nakedly_by c (qs (condition c)) s (λ _. accepted (spares refl refl refl refl)) (λ x ys _. accepted (waking s p (x ∷ []))))
  treats (Requeue a b x) e = when_by _ refl (λ _. when_by _ refl (λ o.
      accepted (spares refl refl refl (one x.0 (ready_or_park b) (λ d. true≢false (sym (not_false (member x.0 (qs (ready_or_park a))) o) ∙ rw d (low_out a)))))))
  treats (SetPriority w) e = when_by _ refl (λ r. when_by _ refl (λ _. accepted (spares refl refl refl (one (s running) ready (other r)))))
  treats Tick e = absurd (true≢false e)
  treats (Abort x) e = when_by _ refl (λ _. accepted (waking_from s (put (abort x.0) 1 s) p (called n s qs x.0) refl refl refl))
  treats (SetAbortable c v) e = when_by _ refl (λ _. accepted (spares refl refl refl refl))
  treats (Reenter l c) e = when_by _ refl (λ r. when_by _ refl (λ _. when_by _ refl (λ _. choose_by
      (λ _. accepted (spares refl refl refl refl))
      (λ _. enters_by l s (λ _. spares refl refl refl refl) (λ _. spares refl refl refl (one (s running) (lock l) (other r)))))))

-- ---- a call that does not wake it

-- what it leaves of p: so many ticks less, and p where it stood
pub record Lets (n : Shape) (s s' : State model) (p k : ℕ) : Type 0 where
  pub lasts : left n s' p + k ≡ left n s p
  pub stands : (q : Queue) → member p (s'.queues q) ≡ member p (s.queues q)

tick_alone : (c : Call) → is_tick c ≡ true → c ≡ Tick
tick_alone (Enter l) e = absurd (false≢true e)
tick_alone (Exit l) e = absurd (false≢true e)
tick_alone (Wait l c t) e = absurd (false≢true e)
tick_alone (Notify c) e = absurd (false≢true e)
tick_alone (Broadcast c) e = absurd (false≢true e)
tick_alone (Naked c) e = absurd (false≢true e)
tick_alone (Requeue a b p) e = absurd (false≢true e)
tick_alone (SetPriority v) e = absurd (false≢true e)
tick_alone Tick e = refl
tick_alone (Abort p) e = absurd (false≢true e)
tick_alone (SetAbortable c v) e = absurd (false≢true e)
tick_alone (Reenter l c) e = absurd (false≢true e)

module _ (n : Shape) (s : State model) (v : Valid n s) (p : ℕ) where
  abbrev place : ℕ → Queue
  place = v.placed.place

  -- who has ticks left waits
  pub awaits : left n s p ≢ 0 → waiting n s.queues p ≡ true
  awaits = go (waiting n s.queues p)
    where
      go : (b : Bool) → cond (b && some (s.fields (armed p))) (ticks_to (s.fields clock) (s.fields (timer p))) 0 ≢ 0 → b ≡ true
      go true o = refl
      go false o = absurd (o refl)

  -- in a condition, and in no other queue
  nowhere : waiting n s.queues p ≡ true → (q : Queue) → is_condition q ≡ false → member p (s.queues q) ≡ false
  nowhere w q e = denied (member p (s.queues q))
      (λ m. true≢false (sym w ∙ waiting_is n s.queues place v.placed.once p (v.placed.real p) ∙ rw ((stands_at n.processes s.queues place v.placed.once p q m).1, e, and-false)))

  spared : (c : Call) → is_tick c ≡ false → left n s p ≢ 0 → waiting n (step model n s c).0.queues p ≡ true → Lets n s (step model n s c).0 p 0
  unfolding step
  spared c t o = go (decide n s.fields s.queues c)
      (treats n s.fields s.queues p (runner n s.fields s.queues v) (nowhere (awaits o)) c t) (decide_good n s.fields s.queues v c)
    where
      go : (e : Effect) → Accepted (λ g ms k. Treats s.fields p g ms) e → Accepted (Fine n place) e → waiting n (obey model s e).0.queues p ≡ true → Lets n s (obey model s e).0 p 0
      go (refuse k) h f w = record { lasts = omega arith; stands = λ q. refl }
      go (accept g ms k) (accepted h) (accepted f) w = each h
        where
          qs : Queue → List ℕ
          qs = moves model (priorities g) s.queues ms

          there : Stands n.processes qs (relocate place ms)
          there = stands_moves n.processes (priorities g) ms s.queues place v.placed.once f.movers

          each : Treats s.fields p g ms → Lets n s (obey model s (accept g ms k)).0 p 0
          each (wakes ps e m) =
              absurd (true≢false (sym w ∙ waiting_is n qs (relocate place ms) there p (f.good.real p)
              ∙ ap {A = List Note} (λ l. inside n.processes p && is_condition (relocate place l p)) e ∙ rw (relocate_ready ps place p, m, and-false)))
          each (spares ec ea et u) = record {
            lasts = (let k = same_left in omega arith);
            stands = λ q.
                member_is n.processes qs (relocate place ms) there p q ∙ ap {A = Queue} (λ r. inside n.processes p && same r q) (unnamed_stays p ms place u)
                ∙ sym (member_is n.processes s.queues place v.placed.once p q);
          }
            where
              same_left : left n (obey model s (accept g ms k)).0 p ≡ left n s p
              same_left = λ i.
                  cond ((w ∙ sym (awaits o)) i && some ((dispatch_away (armed p) (λ x z. refl) (λ x z. refl) (qs ready) g ∙ ea) i))
                  (ticks_to ((dispatch_away clock (λ x z. refl) (λ x z. refl) (qs ready) g ∙ ec) i) ((dispatch_away (timer p) (λ x z. refl) (λ x z. refl) (qs ready) g ∙ et) i)) 0

  -- Tick takes one off, any other call nothing
  pub call_lets : (c : Call) → (is_tick c ≡ false → waiting n (step model n s c).0.queues p ≡ true) → bit (is_tick c) < left n s p → Lets n s (step model n s c).0 p (bit (is_tick c))
  call_lets c h more = go (is_tick c) refl
    where
      go : (b : Bool) → is_tick c ≡ b → Lets n s (step model n s c).0 p (bit (is_tick c))
      go false e = rw e (spared c e (let k : bit false < left n s p = rw e at more in omega arith) (h e))
      go true e =
          let k : 1 < left n s p = rw e at more in
          let d = tick_left n s v p in
          rw (tick_alone c e) (record { lasts = omega arith; stands = λ q. tick_stays n s v p q (omega arith) })

-- ---- a Wait with mark 1

-- the clock plus t is t ticks away
alarm_ticks : (now t : ℕ) → now < 65536 → 1 ≤ t → t ≤ 65535 → ticks_to now ((now + t) % 65536) ≡ t
alarm_ticks now t a b c = go (distance now ((now + t) % 65536)) (omega arith)
  where
    go : (d : ℕ) → d ≡ t → cond (eqb d 0) 65536 d ≡ t
    go d e = rw (eqb_no d 0 (λ z. let w : ⊥ = omega arith in w)) e

module _ (n : Shape) (s : State model) (v : Valid n s) (l c : ℕ) (t : Ticks) where
  -- what an accepted one with mark 1 does
  Sleeps : Fields → List Note → ℕ → Type 0
  Sleeps g ms k =
      k ≡ 1 → (g ≡ arm (s.fields running) t.0 (put (holder l) 0 s.fields)) × (ms ≡ released s.queues l ++ ((s.fields running, condition c) ∷ []))
      × (inside n.processes (s.fields running) ≡ true)

  sleeps : Accepted Sleeps (decide n s.fields s.queues (Wait l c t))
  unfolding decide Sleeps
  sleeps = when_by _ refl (λ r. when_by _ refl (λ _. when_by _ refl (λ _. choose_by
      (λ _. accepted (λ z. let w : ⊥ = omega arith in absurd w)) (λ _. choose_by
      (λ _. accepted (λ z. let w : ⊥ = omega arith in absurd w))
      (λ _. accepted (λ z. (refl, refl, (stands_at n.processes s.queues v.placed.place v.placed.once (s.fields running) ready (runner n s.fields s.queues v r)).0)))))))

  -- it leaves its caller in the condition, with t ticks left
  pub wait_left : (step model n s (Wait l c t)).1.mark ≡ 1 → 1 ≤ t.0 → t.0 ≤ 65535
      → (left n (step model n s (Wait l c t)).0 (s.fields running) ≡ t.0) × (member (s.fields running) ((step model n s (Wait l c t)).0.queues (condition c)) ≡ true)
  unfolding step Sleeps
  wait_left = go (decide n s.fields s.queues (Wait l c t)) sleeps (decide_good n s.fields s.queues v (Wait l c t))
    where
      r : ℕ
      r = s.fields running

      go : (e : Effect) → Accepted Sleeps e → Accepted (Fine n v.placed.place) e → (obey model s e).1.mark ≡ 1 → 1 ≤ t.0 → t.0 ≤ 65535
          → (left n (obey model s e).0 r ≡ t.0) × (member r ((obey model s e).0.queues (condition c)) ≡ true)
      go (refuse k) h f m a b = let w : ⊥ = omega arith in absurd w
      go (accept g ms k) (accepted h) (accepted f) m a b = (lasts, at_place n.processes qs (relocate v.placed.place ms) there r (condition c) (h m).2 here)
        where
          qs : Queue → List ℕ
          qs = moves model (priorities g) s.queues ms

          there : Stands n.processes qs (relocate v.placed.place ms)
          there = stands_moves n.processes (priorities g) ms s.queues v.placed.place v.placed.once f.movers

          here : relocate v.placed.place ms r ≡ condition c
          here =
              ap {A = List Note} (λ l. relocate v.placed.place l r) (h m).1
              ∙ ap {A = ℕ → Queue} (λ f. f r) (relocate_append (released s.queues l) ((r, condition c) ∷ []) v.placed.place) ∙ rw (eqb_yes r r refl)

          waits : waiting n qs r ≡ true
          waits = waiting_is n qs (relocate v.placed.place ms) there r (f.good.real r) ∙ rw ((h m).2, here)

          some_ticks : t.0 ≢ 0
          some_ticks e = omega arith

          bell : dispatch (qs ready) g (armed r) ≡ 1
          bell =
              dispatch_away (armed r) (λ x z. refl) (λ x z. refl) (qs ready) g ∙ ap {A = Fields} (λ f. f (armed r)) (h m).0
              ∙ put_here (armed r) (bit (some t.0)) (put (holder l) 0 s.fields) ∙ rw (eqb_no t.0 0 some_ticks)

          now : dispatch (qs ready) g clock ≡ s.fields clock
          now = dispatch_away clock (λ x z. refl) (λ x z. refl) (qs ready) g ∙ ap {A = Fields} (λ f. f clock) (h m).0

          time : dispatch (qs ready) g (timer r) ≡ (s.fields clock + t.0) % 65536
          time =
              dispatch_away (timer r) (λ x z. refl) (λ x z. refl) (qs ready) g ∙ ap {A = Fields} (λ f. f (timer r)) (h m).0
              ∙ put_here (timer r) (alarm (s.fields clock) t.0) (put (armed r) (bit (some t.0)) (put (holder l) 0 s.fields)) ∙ alarm_at (s.fields clock) t.0 some_ticks

          lasts : left n (obey model s (accept g ms k)).0 r ≡ t.0
          lasts = (λ i. cond (waits i && some (bell i)) (ticks_to (now i) (time i)) 0) ∙ alarm_ticks (s.fields clock) t.0 (v.placed.range clock) a b
