-- Tick: those whose timer rings leave their conditions, and then wake in process order. Who rings waits, so each condition is without them when
-- it is swept, no other queue has one of them, and they are those of the rule. Assumes nothing.
use Rattle.std.proofs.Common.{◌≡◌, ℕ, zero, suc, ◌+◌, ◌-◌, ◌%◌, ◌<◌, ◌≤◌, Bool, true, false, not, ◌||◌, ◌≢◌, List, [], ◌∷◌, length, get_or, sym, refl, ap, ◌∙◌, subst, true≢false, add-one, arith}
use Rattle.std.specs.List.{list_any}
use native.Mathlib.Decide.{ℕ_discrete}
use borrow.Rule.Slice.PartMut.{mid_of}
use Rattle.model.specs.declared.Shape.{Shape}
use Rattle.model.specs.declared.Answer.{Answer}
use Rattle.model.specs.declared.Call.TheVariants.{Tick}
use Rattle.model.specs.Queue.{Queue, inside, exists, up_to, is_condition, member, count, filter}
use Rattle.model.specs.Queue.Queue.{ready, park, lock, condition}
use Rattle.model.specs.Field.{Fields, put}
use Rattle.model.specs.Field.Field.{clock}
use Rattle.model.specs.Rules.{calm, rings, due, decide}
use Rattle.model.specs.Machine.{State, model, finish}
use Rattle.model.specs.Valid.{Valid}
use Rattle.model.proofs.Tests.{holds, fails, SameCase, same_case, inside_bounds, bounds_inside, denied, not_true}
use Rattle.model.proofs.Lists.{member_here, member_there, filter_member, member_filter, up_to_member, member_up_to}
use Rattle.model.proofs.Loops.{due_moved}
use Rattle.model.proofs.Many.{without, filter_all, filter_agree, filter_once, up_to_once}
use Rattle.links.specs.Link as link
use Rattle.area.specs.Layout.{conditions_at, records_at, at}
use Rattle.area.specs.Layout.Slot.{Tail}
use Rattle.area.specs.State.{laid}
use Rattle.area.specs.Holds.{Holds, Becomes, with, Gives}
use Rattle.area.specs.Loose.{Loose}
use Rattle.crowds.specs.Crowds.{swept, staying, Crowd, Woken, ringing}
use Rattle.area.specs.Calls.{Does, woken}
use Rattle.area.proofs.Rings.{member_inside, queue_none}
use Rattle.area.proofs.Records.{rings_said}
use Rattle.moves.proofs.Relinks.{lent}
use Rattle.moves.proofs.Loose.{waits_in}
use Rattle.outcomes.proofs.Outcomes.{accepts_ready}
use Rattle.crowds.proofs.Leaving.{loose_empty}
use Rattle.broadcasts.proofs.Crowding.{woken_becomes}

-- ---- the conditions, swept one after the other

module _ (f : Fields) (time : ℕ) (qs : Queue → List ℕ) where
  -- who stays where it is
  abbrev stays : ℕ → Bool
  stays x = not (rings f time x)

  filter_twice : (xs : List ℕ) → filter stays (filter stays xs) ≡ filter stays xs
  filter_twice xs = filter_all stays (filter stays xs) (λ x m. (filter_member stays x xs m).1)

  -- a queue that is swept once more
  staying_filter : (k : ℕ) (q : Queue) → filter stays (staying f time k qs q) ≡ filter stays (qs q)
  staying_filter zero q = refl
  staying_filter (suc k) q = go (same_case (condition (suc k)) q) (λ o. staying_filter k o)
    where
      go : SameCase (condition (suc k)) q → ((o : Queue) → filter stays (staying f time k qs o) ≡ filter stays (qs o)) → filter stays (staying f time (suc k) qs q) ≡ filter stays (qs q)
      go (holds e z) ih = rw z (filter_twice (staying f time k qs (condition (suc k))) ∙ ih (condition (suc k)) ∙ ap {A = Queue} (λ o. filter stays (qs o)) e)
      go (fails e z) ih = rw z (ih q)

  -- a queue that nobody leaves
  staying_same : (k : ℕ) (q : Queue) → filter stays (qs q) ≡ qs q → staying f time k qs q ≡ qs q
  staying_same zero q h = refl
  staying_same (suc k) q h = go (same_case (condition (suc k)) q) (staying_same k q h)
    where
      go : SameCase (condition (suc k)) q → staying f time k qs q ≡ qs q → staying f time (suc k) qs q ≡ qs q
      go (holds e z) ih = rw z (staying_filter k (condition (suc k)) ∙ ap {A = Queue} (λ o. filter stays (qs o)) e ∙ h)
      go (fails e z) ih = rw z ih

  -- a condition that has been swept
  staying_swept : (k c : ℕ) → inside k c ≡ true → staying f time k qs (condition c) ≡ filter stays (qs (condition c))
  staying_swept zero c i = let b = inside_bounds 0 c i in let z : ⊥ = omega arith in absurd z
  staying_swept (suc k) c i = go (same_case (condition (suc k)) (condition c)) (λ h. staying_swept k c h)
    where
      go : SameCase (condition (suc k)) (condition c) → (inside k c ≡ true → staying f time k qs (condition c) ≡ filter stays (qs (condition c))) → staying f time (suc k) qs (condition c) ≡ filter stays (qs (condition c))
      go (holds e z) ih = rw z (staying_filter k (condition (suc k)) ∙ ap {A = Queue} (λ o. filter stays (qs o)) e)
      go (fails e z) ih =
          let b = inside_bounds (suc k) c i in
          let d : c ≢ suc k = λ y. e (ap condition (sym y)) in
          rw z (ih (bounds_inside k c b.0 (omega arith)))

-- one condition more, and all of them
pub sweep_next : {n : Shape} {old new : List ℕ} {f : Fields} (qs : Queue → List ℕ) (time k : ℕ) → Loose n old new f (swept f time (staying f time k qs) (condition (k + 1))) → Loose n old new f (staying f time (k + 1) qs)
sweep_next qs time k L = rw (add-one k) (rw (add-one k) at L)

pub sweep_end : {n : Shape} {old new : List ℕ} {f : Fields} (qs : Queue → List ℕ) (time : ℕ) {k m : ℕ} → k ≡ m → Loose n old new f (staying f time k qs) → Loose n old new f (staying f time m qs)
sweep_end {n} {old} {new} {f} qs time e L = subst (λ i. Loose n old new f (staying f time i qs)) e L

-- the condition whose word stands at i
pub condition_here : (n : Shape) (i : ℕ) → conditions_at n ≤ i → i < records_at n → (exists n (condition (i - conditions_at n + 1)) ≡ true) × (i ≡ at n (Tail (condition (i - conditions_at n + 1))))
condition_here n i a b = (bounds_inside n.conditions (i - conditions_at n + 1) (omega arith) (omega arith), omega arith)

-- ---- conditions that nobody waits on

-- one word more that is below 8
pub low_next : (ws : List ℕ) (from i : ℕ) → ((k : ℕ) → from ≤ k → k < i → get_or ws k 0 < 8) → get_or ws i 0 < 8 → (k : ℕ) → from ≤ k → k < i + 1 → get_or ws k 0 < 8
low_next ws from i low here k a b = elim (ℕ_discrete k i) [ yes e ↦ rw e here | no e ↦ low k a (omega arith) ]

-- conditions 1 to k are swept, and the words of those behind, to where j stands, are below 8: they count as swept too
pub sweep_skips : {n : Shape} {old new : List ℕ} {f : Fields} (qs : Queue → List ℕ) (time k from j : ℕ) → from ≡ conditions_at n + k → from ≤ j → j ≤ records_at n → ((i : ℕ) → from ≤ i → i < j → get_or new i 0 < 8)
    → Loose n old new f (staying f time k qs) → Loose n old new f (staying f time (j - conditions_at n) qs)
sweep_skips {n} {old} {new} {f} qs time k from j e a b low L = go (j - conditions_at n) (omega arith) (omega arith)
  where
    go : (m : ℕ) → k ≤ m → m ≤ j - conditions_at n → Loose n old new f (staying f time m qs)
    go zero h o = let e : k ≡ 0 = omega arith in sweep_end qs time e L
    go (suc m) h o = elim (ℕ_discrete k (suc m)) [
      | yes d ↦ sweep_end qs time d L
      | no d ↦ loose_empty (go m (omega arith) (omega arith)) (condition (suc m)) (bounds_inside n.conditions (suc m) (omega arith) (omega arith)) refl time (low (at n (Tail (condition (suc m)))) (omega arith) (omega arith))
    ]

-- ---- those who ring

module _ {n : Shape} {s : State model} (v : Valid n s) (time : ℕ) where
  -- nobody rings who waits in no condition
  still : (q : Queue) (x : ℕ) → is_condition q ≡ false → member x (s.queues q) ≡ true → rings s.fields time x ≡ false
  still q x c m = rw (v.arms x (waits_in n s v.placed q x m ∙ c))

  -- so no other queue is left by anybody
  calm_queue : (q : Queue) → is_condition q ≡ false → staying s.fields time n.conditions s.queues q ≡ filter (λ x. not (rings s.fields time x)) (s.queues q)
  calm_queue q c =
      let h = filter_all (λ x. not (rings s.fields time x)) (s.queues q) (λ x m. rw (still q x c m)) in
      staying_same s.fields time s.queues n.conditions q h ∙ sym h

  -- and each is left by those who ring
  pub stays_all : (q : Queue) → staying s.fields time n.conditions s.queues q ≡ filter (λ x. not (rings s.fields time x)) (s.queues q)
  stays_all ready = calm_queue ready refl
  stays_all (park k) = calm_queue (park k) refl
  stays_all (lock l) = calm_queue (lock l) refl
  stays_all (condition c) = go (inside n.conditions c) refl
    where
      go : (b : Bool) → inside n.conditions c ≡ b → staying s.fields time n.conditions s.queues (condition c) ≡ filter (λ x. not (rings s.fields time x)) (s.queues (condition c))
      go true i = staying_swept s.fields time s.queues n.conditions c i
      go false i =
          let e : s.queues (condition c) ≡ [] = queue_none n s v.placed (condition c) i in
          let h : filter (λ x. not (rings s.fields time x)) (s.queues (condition c)) ≡ s.queues (condition c) = rw e in
          staying_same s.fields time s.queues n.conditions (condition c) h ∙ sym h

-- whether one of the processes rings
rings_is : (f : Fields) (time P x : ℕ) → inside P x ≡ true → member x (ringing f time P) ≡ rings f time x
rings_is f time P x i = go (rings f time x) refl
  where
    go : (b : Bool) → rings f time x ≡ b → member x (ringing f time P) ≡ b
    go true e = member_filter (rings f time) x (up_to P) (member_up_to P x i) e
    go false e = denied (member x (ringing f time P)) (λ m. true≢false (sym (filter_member (rings f time) x (up_to P) m).1 ∙ e))

module _ {n : Shape} {old mid : List ℕ} {s : State model} (H : Holds n old s) (v : Valid n s) (time : ℕ)
    (L : Loose n old mid s.fields (staying s.fields time n.conditions s.queues)) where
  abbrev ps : List ℕ
  ps = ringing s.fields time n.processes

  pub ringer : (p : ℕ) → member p ps ≡ true → inside n.processes p ≡ true
  ringer p m = up_to_member n.processes p (filter_member (rings s.fields time) p (up_to n.processes) m).0

  pub ringer_once : (p : ℕ) → member p ps ≡ true → rings s.fields time p ≡ true
  ringer_once p m = (filter_member (rings s.fields time) p (up_to n.processes) m).1

  pub ringer_out : (p : ℕ) (q : Queue) → member p ps ≡ true → member p (staying s.fields time n.conditions s.queues q) ≡ false
  ringer_out p q m =
      rw (stays_all v time q)
      (denied (member p (filter (λ x. not (rings s.fields time x)) (s.queues q)))
      (λ k. true≢false (sym (ringer_once p m) ∙ not_true (rings s.fields time p) (filter_member (λ x. not (rings s.fields time x)) p (s.queues q) k).1)))

  pub ringers_distinct : (p : ℕ) → count p ps ≤ 1
  ringers_distinct p = omega (arith, filter_once (rings s.fields time) p (up_to n.processes), up_to_once n.processes p)

  abbrev pub ringers_wake : Crowd n mid ps
  ringers_wake = record {
    old = old;
    fields = s.fields;
    queues = staying s.fields time n.conditions s.queues;
    loose = L;
    once = ringers_distinct;
    process = ringer;
    out = ringer_out;
  }

  pub ringers_woken : {new : List ℕ} → Woken n mid ps ringers_wake new → Becomes n old new (woken ps s)
  ringers_woken =
      woken_becomes H ps (staying s.fields time n.conditions s.queues) ringers_distinct ringer
      (λ p m. rw (← stays_ready) (ringer_out p ready m)) stays_ready (λ q o. stays_all v time q ∙ left q)
    where
      left : (q : Queue) → filter (λ x. not (rings s.fields time x)) (s.queues q) ≡ without ps (s.queues q)
      left q = filter_agree (λ x. not (rings s.fields time x)) (λ x. not (member x ps)) (s.queues q)
          (λ x m. ap not (sym (rings_is s.fields time n.processes x (member_inside n s H.placed x q m))))

      stays_ready : staying s.fields time n.conditions s.queues ready ≡ s.queues ready
      stays_ready = stays_all v time ready ∙ filter_all (λ x. not (rings s.fields time x)) (s.queues ready) (λ x m. rw (still v time ready x refl m))

-- ---- whether somebody rings

-- none of some passes a test where none passes one that says the same of them
pub none_pass : (t u : ℕ → Bool) (xs : List ℕ) → ((x : ℕ) → member x xs ≡ true → u x ≡ t x) → list_any u xs ≡ false → filter t xs ≡ []
none_pass t u [] a e = refl
none_pass t u (x ∷ xs) a e = go (u x) (sym (a x (member_here x xs))) e (none_pass t u xs (λ y m. a y (member_there y x xs m)))
  where
    go : (b : Bool) → t x ≡ b → b || list_any u xs ≡ false → (list_any u xs ≡ false → filter t xs ≡ []) → filter t (x ∷ xs) ≡ []
    go true k z ih = absurd (true≢false z)
    go false k z ih = rw k (ih z)

-- a process rings in the records as they are lent as it does in the state
module _ {n : Shape} {ws : List ℕ} {s : State model} (H : Holds n ws s) {a : ℕ} (p : ℕ) (at_records : a ≡ records_at n) (i : inside n.processes p ≡ true) where
  pub held_rings : (time : ℕ) → link.rings (mid_of a (length ws - a) ws) time p ≡ rings s.fields time p
  held_rings time = ap (λ (r : List ℕ). link.rings r time p) (lent n ws at_records) ∙ rings_said n ws (laid n s) H.image p i time

-- ---- the call

pub ticks : {n : Shape} {old mid new : List ℕ} {s : State model} {before now m : ℕ} {a : Answer} → Holds n old s → Valid n s → before ≡ s.fields clock → now ≡ (before + 1) % 65536
    → m ≡ length (due n s.fields now) → Becomes n old mid (woken (due n s.fields now) (with clock now s))
    → Gives n mid new a (finish model (calm (due n s.fields now) (put clock now s.fields)) (woken (due n s.fields now) (with clock now s)).queues 0 m 0) → Does Tick n old new s a
unfolding decide
ticks {n} {s = s} {now = now} {m} H v was is e b g =
    accepts_ready H Tick (calm (due n s.fields now) (put clock now s.fields)) (due n s.fields now) 0 m (rw (is, was)) (e ∙ sym (due_moved n s v now)) b g
