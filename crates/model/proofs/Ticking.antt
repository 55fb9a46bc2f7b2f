-- While only Tick runs: one Tick takes one off every process's ticks left, wakes exactly those who have one left, and moves nobody else; so who
-- has d left stands where it stood until the d-th Tick and in ready after it, by induction on the Ticks. Assumes nothing.
use Prim.Native.Nat.{ℕ, zero, suc, ◌+◌, ◌-◌, ◌%◌, ◌≤◌, ◌<◌}
use native.Mathlib.Omega.{arith}
use mathlib.Core.Path.{◌≡◌, refl, sym, ap, ◌∙◌, subst}
use mathlib.Core.Logic.{◌≢◌}
use mathlib.Core.Bool.{Bool, true, false, ◌&&◌, ◌||◌, cond, true≢false, false≢true}
use mathlib.Core.List.{List, [], ◌∷◌, ◌++◌, map}
use lib.Dec.{eqb}
use Rattle.model.specs.declared.Shape.{Shape}
use Rattle.model.specs.declared.Call.TheVariants.{Tick}
use Rattle.model.specs.Queue.{Queue, inside, up_to, any_of, same, member, filter, to_ready, All}
use Rattle.model.specs.Queue.Queue.{ready, condition}
use Rattle.model.specs.Field.{Fields, put, some, priorities}
use Rattle.model.specs.Field.Field.{clock, armed, timer}
use Rattle.model.specs.Rules.{decide, calm, due}
use Rattle.model.specs.Machine.{State, model, moves, step, after, waiting}
use Rattle.model.specs.Valid.{Valid}
use Rattle.model.specs.Timers.{ticks, distance, ticks_to, left, Entry, with_left, due_within, first_entry, nearest}
use Rattle.model.proofs.Tests.{holds, fails, so, EqCase, eqb_case, put_here, denied, inside_bounds}
use Rattle.model.proofs.Lists.{member_here, member_there, nobody, filter_member, member_filter, up_to_member, member_up_to, all_append}
use Rattle.model.proofs.Fields.{calm_away, armed_cleared, timer_cleared, calm_other, calm_clears, dispatch_away}
use Rattle.model.proofs.Places.{sent, relocate, Stands, ready_movers, stands_moves, member_is, stands_at, at_place}
use Rattle.model.proofs.Good.{each_most}
use Rattle.model.proofs.Kept.{step_valid}
use Rattle.model.proofs.Rules.{due_rung, rung_due}

-- ---- ticks from the clock to a time

-- d ticks lead from now to a time: none where it is not armed, else 1 to a full round
data Lead (now bell time d : ℕ) : Type 0 where
  off : bell ≡ 0 → d ≡ 0 → Lead now bell time d
  on : bell ≢ 0 → 1 ≤ d → d ≤ 65536 → (now + d) % 65536 ≡ time → Lead now bell time d

-- the ticks to a time lead to it
ticks_lead : (now bell time : ℕ) → now < 65536 → time < 65536 → bell ≢ 0 → Lead now bell time (ticks_to now time)
ticks_lead now bell time a b o = go (eqb_case (distance now time) 0)
  where
    go : EqCase (distance now time) 0 → Lead now bell time (ticks_to now time)
    go (holds d z) = rw z (on o (omega arith) (omega arith) (omega arith))
    go (fails d z) = rw z (on o (omega arith) (omega arith) (omega arith))

module _ {now bell time d : ℕ} where
  -- who is not armed has none
  lead_off : Lead now bell time d → bell ≡ 0 → d ≡ 0
  lead_off (off a b) z = b
  lead_off (on o a b e) z = absurd (o z)

  -- the time is the next one exactly where one tick leads to it
  lead_one : Lead now bell time d → bell ≢ 0 → time ≡ (now + 1) % 65536 → d ≡ 1
  lead_one (off a b) o t = absurd (o a)
  lead_one (on x a b e) o t = omega arith

  one_lead : Lead now bell time d → d ≡ 1 → (bell ≢ 0) × (time ≡ (now + 1) % 65536)
  one_lead (off a b) k = let w : ⊥ = omega arith in absurd w
  one_lead (on o a b e) k = (o, omega arith)

  -- one tick later, where the time has not come
  lead_next : {next bell' time' d' : ℕ} → next ≡ (now + 1) % 65536 → bell' ≡ bell → time' ≡ time → d ≢ 1 → Lead now bell time d → Lead next bell' time' d' → d' ≡ d - 1
  lead_next n l t k (off a b) (off x y) = omega arith
  lead_next n l t k (off a b) (on o x y e) = absurd (o (l ∙ a))
  lead_next n l t k (on o a b e) (off x y) = absurd (o (sym l ∙ x))
  lead_next n l t k (on o a b e) (on q x y f) = omega arith

-- ---- what one Tick leaves

module _ (n : Shape) (s : State model) where
  abbrev ticked : State model
  ticked = (step model n s Tick).0

  -- the clock's next time, those who wake, and the fields and queues before dispatch
  abbrev coming : ℕ
  coming = (s.fields clock + 1) % 65536

  abbrev woken : List ℕ
  woken = due n s.fields coming

  abbrev calmed : Fields
  calmed = calm woken (put clock coming s.fields)

  abbrev moved : Queue → List ℕ
  moved = moves model (priorities calmed) s.queues (to_ready woken)

  -- dispatch changes neither the clock nor an armed or a timer, and no queue
  tick_clock : ticked.fields clock ≡ coming
  unfolding step decide
  tick_clock = dispatch_away clock (λ x t. refl) (λ x t. refl) (moved ready) calmed ∙ calm_away clock (λ x t. refl) woken (put clock coming s.fields) ∙ put_here clock coming s.fields

  tick_armed : (p : ℕ) → ticked.fields (armed p) ≡ calmed (armed p)
  unfolding step decide
  tick_armed p = dispatch_away (armed p) (λ x t. refl) (λ x t. refl) (moved ready) calmed

  tick_timer : (p : ℕ) → ticked.fields (timer p) ≡ calmed (timer p)
  unfolding step decide
  tick_timer p = dispatch_away (timer p) (λ x t. refl) (λ x t. refl) (moved ready) calmed

  tick_queues : ticked.queues ≡ moved
  unfolding step decide
  tick_queues = refl

  -- where nobody wakes every queue stays
  tick_still : woken ≡ [] → (q : Queue) → ticked.queues q ≡ s.queues q
  tick_still e q = ap {A = Queue → List ℕ} (λ g. g q) (tick_queues ∙ ap {A = List ℕ} (λ ps. moves model (priorities calmed) s.queues (to_ready ps)) e)

-- those who go to ready are placed there, and the others stay
pub relocate_ready : (ps : List ℕ) (place : ℕ → Queue) (p : ℕ) → relocate place (to_ready ps) p ≡ cond (member p ps) ready (place p)
relocate_ready [] place p = refl
relocate_ready (x ∷ ps) place p = relocate_ready ps (sent place (x, ready)) p ∙ go (eqb x p) (member p ps)
  where
    go : (a b : Bool) → cond b ready (cond a ready (place p)) ≡ cond (a || b) ready (place p)
    go true true = refl
    go true false = refl
    go false true = refl
    go false false = refl

-- ---- a valid state

-- the last of 1 to k that passes a test, 0 if none does
abbrev seek : ℕ → (ℕ → Bool) → ℕ
seek zero t = 0
seek (suc k) t = cond (t (suc k)) (suc k) (seek k t)

-- it passes, if any does
seek_found : (k : ℕ) (t : ℕ → Bool) → any_of k t ≡ true → t (seek k t) ≡ true
seek_found zero t e = absurd (false≢true e)
seek_found (suc k) t e = go (t (suc k)) refl (seek_found k t) e
  where
    go : (b : Bool) → t (suc k) ≡ b → (any_of k t ≡ true → t (seek k t) ≡ true) → b || any_of k t ≡ true → t (cond b (suc k) (seek k t)) ≡ true
    go true h ih z = h
    go false h ih z = ih z

-- the condition in which p stands, where it stands in one
abbrev pub seat : Shape → State model → ℕ → ℕ
seat n s p = seek n.conditions (λ c. member p (s.queues (condition c)))

-- who has ticks left stands in its condition
pub left_waits : (n : Shape) (s : State model) (p : ℕ) → left n s p ≢ 0 → member p (s.queues (condition (seat n s p))) ≡ true
left_waits n s p = go (waiting n s.queues p) refl
  where
    go : (b : Bool) → waiting n s.queues p ≡ b → cond (b && some (s.fields (armed p))) (ticks_to (s.fields clock) (s.fields (timer p))) 0 ≢ 0
        → member p (s.queues (condition (seat n s p))) ≡ true
    go true e o = seek_found n.conditions (λ c. member p (s.queues (condition c))) e
    go false e o = absurd (o refl)

-- nobody has more than a full round left
pub left_most : (n : Shape) (s : State model) (p : ℕ) → left n s p ≤ 65536
left_most n s p = go (waiting n s.queues p && some (s.fields (armed p))) (distance (s.fields clock) (s.fields (timer p))) (omega arith)
  where
    go : (w : Bool) (d : ℕ) → d < 65536 → cond w (cond (eqb d 0) 65536 d) 0 ≤ 65536
    go true d h = round (eqb d 0)
      where
        round : (b : Bool) → cond b 65536 d ≤ 65536
        round true = omega arith
        round false = omega arith
    go false d h = omega arith

module _ (n : Shape) (s : State model) (v : Valid n s) where
  -- who has ticks left is a process
  left_inside : (p : ℕ) → left n s p ≢ 0 → inside n.processes p ≡ true
  left_inside p o = (stands_at n.processes s.queues v.placed.place v.placed.once p (condition (seat n s p)) (left_waits n s p o)).0

  -- whoever is armed waits, so armed alone says that there are ticks left
  pub left_armed : (p : ℕ) → left n s p ≡ cond (some (s.fields (armed p))) (ticks_to (s.fields clock) (s.fields (timer p))) 0
  left_armed p = go (waiting n s.queues p) refl
    where
      go : (b : Bool) → waiting n s.queues p ≡ b
          → cond (b && some (s.fields (armed p))) (ticks_to (s.fields clock) (s.fields (timer p))) 0 ≡ cond (some (s.fields (armed p))) (ticks_to (s.fields clock) (s.fields (timer p))) 0
      go true e = refl
      go false e = rw (v.arms p e)

  -- they lead from the clock to the timer
  lead : (p : ℕ) → Lead (s.fields clock) (s.fields (armed p)) (s.fields (timer p)) (left n s p)
  lead p = go (eqb_case (s.fields (armed p)) 0)
    where
      go : EqCase (s.fields (armed p)) 0 → Lead (s.fields clock) (s.fields (armed p)) (s.fields (timer p)) (left n s p)
      go (holds d z) = off d (left_armed p ∙ rw d)
      go (fails d z) =
          subst (λ (x : ℕ). Lead (s.fields clock) (s.fields (armed p)) (s.fields (timer p)) x) (sym (left_armed p ∙ rw z))
          (ticks_lead (s.fields clock) (s.fields (armed p)) (s.fields (timer p)) (v.placed.range clock) (each_most n.processes p 65536 (s.fields (timer p)) (v.placed.range (timer p)) (omega arith)) d)

  -- due are exactly those who have one tick left
  due_left : (p : ℕ) → member p (woken n s) ≡ true → left n s p ≡ 1
  due_left p m = let r = due_rung n s.fields (coming n s) p m in lead_one (lead p) r.0 r.1

  left_due : (p : ℕ) → left n s p ≡ 1 → member p (woken n s) ≡ true
  left_due p e = let r = one_lead (lead p) e in rung_due n s.fields (coming n s) p (left_inside p (omega arith)) r.0 r.1

  not_due : (p : ℕ) → left n s p ≢ 1 → member p (woken n s) ≡ false
  not_due p o = denied (member p (woken n s)) (λ m. o (due_left p m))

-- what one Tick leaves of it
module _ (n : Shape) (s : State model) (v : Valid n s) where
  -- one off the ticks left
  pub tick_left : (p : ℕ) → left n (ticked n s) p ≡ left n s p - 1
  tick_left p = go (eqb_case (left n s p) 1)
    where
      then : Lead ((ticked n s).fields clock) ((ticked n s).fields (armed p)) ((ticked n s).fields (timer p)) (left n (ticked n s) p)
      then = lead n (ticked n s) (step_valid n s Tick v) p

      go : EqCase (left n s p) 1 → left n (ticked n s) p ≡ left n s p - 1
      go (holds d z) =
          let e : left n (ticked n s) p ≡ 0 = lead_off then (tick_armed n s p ∙ calm_clears armed_cleared p (woken n s) (put clock (coming n s) s.fields) (left_due n s v p d)) in
          omega arith
      go (fails d z) =
          lead_next (tick_clock n s) (tick_armed n s p ∙ calm_other armed_cleared p (woken n s) (put clock (coming n s) s.fields) (not_due n s v p d))
          (tick_timer n s p ∙ calm_other timer_cleared p (woken n s) (put clock (coming n s) s.fields) (not_due n s v p d)) d (lead n s v p) then

  -- those who wake are processes, and stand in ready afterwards, the others where they stood
  woken_inside : (p : ℕ) → member p (woken n s) ≡ true → inside n.processes p ≡ true
  woken_inside p m = up_to_member n.processes p (filter_member _ p (up_to n.processes) m).0

  stands : Stands n.processes (moved n s) (relocate v.placed.place (to_ready (woken n s)))
  stands = stands_moves n.processes (priorities (calmed n s)) (to_ready (woken n s)) s.queues v.placed.place v.placed.once (ready_movers n.processes (woken n s) woken_inside)

  -- who has one tick left comes into ready
  pub tick_wakes : (p : ℕ) → left n s p ≡ 1 → member p ((ticked n s).queues ready) ≡ true
  tick_wakes p e =
      ap {A = Queue → List ℕ} (λ g. member p (g ready)) (tick_queues n s)
      ∙ at_place n.processes (moved n s) (relocate v.placed.place (to_ready (woken n s))) stands p ready (woken_inside p (left_due n s v p e))
      (relocate_ready (woken n s) v.placed.place p ∙ rw (left_due n s v p e))

  -- anyone else stands where it stood
  pub tick_stays : (p : ℕ) (q : Queue) → left n s p ≢ 1 → member p ((ticked n s).queues q) ≡ member p (s.queues q)
  tick_stays p q o =
      ap {A = Queue → List ℕ} (λ g. member p (g q)) (tick_queues n s)
      ∙ member_is n.processes (moved n s) (relocate v.placed.place (to_ready (woken n s))) stands p q
      ∙ ap {A = Queue} (λ r. inside n.processes p && same r q) still
      ∙ sym (member_is n.processes s.queues v.placed.place v.placed.once p q)
    where
      still : relocate v.placed.place (to_ready (woken n s)) p ≡ v.placed.place p
      still = relocate_ready (woken n s) v.placed.place p ∙ rw (not_due n s v p o)

-- ---- many Ticks

-- who has more than k ticks left stands after k Ticks where it stood
pub ticks_stay : (n : Shape) (p : ℕ) (q : Queue) (k : ℕ) (s : State model) → Valid n s → k < left n s p → member p ((after model n s (ticks k)).queues q) ≡ member p (s.queues q)
ticks_stay n p q zero s v h = refl
ticks_stay n p q (suc k) s v h =
    let e = tick_left n s v p in
    ticks_stay n p q k (ticked n s) (step_valid n s Tick v) (omega arith) ∙ tick_stays n s v p q (omega arith)

-- who has d left, of which there are some, stands in ready after d Ticks
pub ticks_wake : (n : Shape) (p d : ℕ) (s : State model) → Valid n s → left n s p ≡ d → d ≢ 0 → member p ((after model n s (ticks d)).queues ready) ≡ true
ticks_wake n p zero s v e o = absurd (o refl)
ticks_wake n p (suc zero) s v e o = tick_wakes n s v p e
ticks_wake n p (suc (suc d)) s v e o = let k = tick_left n s v p in ticks_wake n p (suc d) (ticked n s) (step_valid n s Tick v) (omega arith) (omega arith)

-- where everyone who has ticks left has more than k, k Ticks leave every queue as it was
pub ticks_still : (n : Shape) (k : ℕ) (s : State model) → Valid n s → ((p : ℕ) → left n s p ≢ 0 → k < left n s p) → (q : Queue) → (after model n s (ticks k)).queues q ≡ s.queues q
ticks_still n zero s v h q = refl
ticks_still n (suc k) s v h q =
    ticks_still n k (ticked n s) (step_valid n s Tick v) later q ∙ tick_still n s (nobody (woken n s) (λ p. not_due n s v p (early p))) q
  where
    early : (p : ℕ) → left n s p ≢ 1
    early p e = let b = h p (omega arith) in omega arith

    later : (p : ℕ) → left n (ticked n s) p ≢ 0 → k < left n (ticked n s) p
    later p o = let e = tick_left n s v p in let b = h p (omega arith) in omega arith

-- ---- who is due within so many ticks

-- an entry tells a process and its ticks left, of which there are some
abbrev pub Exact : Shape → State model → Entry → Type 0
Exact n s e = (inside n.processes e.0 ≡ true) × (left n s e.0 ≡ e.1) × (e.1 ≢ 0)

-- what holds of each process with d holds of each entry
all_entries : (T : Entry → Type 0) (d : ℕ) (ps : List ℕ) → ((p : ℕ) → member p ps ≡ true → T (p, d)) → All T (map (λ p. (p, d)) ps)
all_entries T d [] h = tt
all_entries T d (p ∷ ps) h = (h p (member_here p ps), all_entries T d ps (λ x m. h x (member_there x p ps m)))

-- each of those with d ticks left does
with_exact : (n : Shape) (s : State model) (d : ℕ) → d ≢ 0 → All (Exact n s) (with_left n s d)
with_exact n s d o = all_entries (Exact n s) d (filter (λ p. eqb (left n s p) d) (up_to n.processes))
    (λ p m. let k = filter_member (λ p. eqb (left n s p) d) p (up_to n.processes) m in (up_to_member n.processes p k.0, so (eqb_case (left n s p) d) k.1, o))

-- so does each of those who are due within k ticks
pub due_exact : (n : Shape) (s : State model) (k : ℕ) → All (Exact n s) (due_within n s k)
unfolding due_within
due_exact n s zero = tt
due_exact n s (suc k) = all_append (Exact n s) (due_within n s k) (with_left n s (suc k)) (due_exact n s k) (with_exact n s (suc k) (omega arith))

-- ---- the nearest

-- nobody before the first, and nobody within k ticks where there is none
data Ahead (n : Shape) (s : State model) (k : ℕ) : List Entry → Type 0 where
  none : ((p : ℕ) → left n s p ≢ 0 → k < left n s p) → Ahead n s k []
  someone : {e : Entry} {es : List Entry} → ((p : ℕ) → left n s p ≢ 0 → e.1 ≤ left n s p) → Ahead n s k (e ∷ es)

-- so it is with those who are due within k ticks: the first of them has the fewest left, and nobody is left out
due_ahead : (n : Shape) (s : State model) → Valid n s → (k : ℕ) → Ahead n s k (due_within n s k)
unfolding due_within
due_ahead n s v zero = none (λ p o. omega arith)
due_ahead n s v (suc k) = more (due_within n s k) (due_ahead n s v k)
  where
    test : ℕ → Bool
    test p = eqb (left n s p) (suc k)

    fresh : ((p : ℕ) → left n s p ≢ 0 → k < left n s p) → (ps : List ℕ) → filter test (up_to n.processes) ≡ ps → Ahead n s (suc k) (map (λ p. (p, suc k)) ps)
    fresh h (x ∷ ps) e = someone {e = (x, suc k)} (λ p o. let b = h p o in omega arith)
    fresh h [] e = none (λ p o. later p o (eqb_case (left n s p) (suc k)))
      where
        later : (p : ℕ) → left n s p ≢ 0 → EqCase (left n s p) (suc k) → suc k < left n s p
        later p o (fails d z) = let b = h p o in omega arith
        later p o (holds d z) = absurd (true≢false (sym (member_filter test p (up_to n.processes) (member_up_to n.processes p (left_inside n s v p o)) z) ∙ ap (member p) e))

    more : (es : List Entry) → Ahead n s k es → Ahead n s (suc k) (es ++ with_left n s (suc k))
    more l (someone h) = someone h
    more l (none h) = fresh h (filter test (up_to n.processes)) refl

-- e is the nearest: its process has its ticks left, nobody has fewer, and there is none only where nobody has any
pub record IsNearest (n : Shape) (s : State model) (e : Entry) : Type 0 where
  pub own : e.0 ≢ 0 → Exact n s e
  pub first : (p : ℕ) → left n s p ≢ 0 → e.1 ≤ left n s p
  pub none : e.0 ≡ 0 → (p : ℕ) → left n s p ≡ 0

-- the nearest is: the first of those due within a full round
pub nearest_is : (n : Shape) (s : State model) → Valid n s → IsNearest n s (nearest n s)
nearest_is n s v = go (due_within n s 65536) (due_ahead n s v 65536) (due_exact n s 65536)
  where
    -- nobody has more than a full round left, so nobody has any
    all_none : (p : ℕ) → (left n s p ≢ 0 → 65536 < left n s p) → EqCase (left n s p) 0 → left n s p ≡ 0
    all_none p h (holds d z) = d
    all_none p h (fails d z) = let a = left_most n s p in let b = h d in let w : ⊥ = omega arith in absurd w

    go : (es : List Entry) → Ahead n s 65536 es → All (Exact n s) es → IsNearest n s (first_entry es)
    go l (none h) a = record { own = λ o. absurd (o refl); first = λ p o. omega arith; none = λ z p. all_none p (h p) (eqb_case (left n s p) 0) }
    go l (someone {e} h) a = record {
      own = λ o. a.0;
      first = h;
      none = λ z. let b = inside_bounds n.processes e.0 a.0.0 in let w : ⊥ = omega arith in absurd w;
    }
