-- What a call does to a process that queues at a lock: a leaving lets the first of the queue go, a newcomer of higher priority comes ahead, and
-- no other call changes who is ahead. Each call is walked once. Assumes nothing.
use Prim.Native.Nat.{ℕ, suc, ◌+◌, ◌≤◌, ◌<◌}
use native.Mathlib.Omega.{arith}
use mathlib.Core.Path.{◌≡◌, refl, sym, ap, ◌∙◌, subst}
use mathlib.Core.Logic.{◌≢◌}
use mathlib.Core.Bool.{Bool, true, false, ◌&&◌, ◌||◌, cond, and-false, or-true, true≢false, false≢true}
use mathlib.Core.List.{List, [], ◌∷◌, ◌++◌, append-nil}
use lib.Dec.{eqb}
use lib.ListN.{length}
use Rattle.model.specs.declared.Shape.{Shape}
use Rattle.model.specs.declared.Call.{Call}
use Rattle.model.specs.declared.Call.TheVariants.{Enter, Exit, Wait, Notify, Broadcast, Naked, Requeue, SetPriority, Tick, Abort, SetAbortable, Reenter}
use Rattle.model.specs.declared.Answer.{Answer}
use Rattle.model.specs.Queue.{Queue, Note, inside, bit, same, member, count, first_only, ahead_of, remove, insert, move, to_ready, All, Falling}
use Rattle.model.specs.Queue.Queue.{ready, park, lock, condition}
use Rattle.model.specs.Field.{Fields, priorities}
use Rattle.model.specs.Field.Field.{running, armed}
use Rattle.model.specs.Rules.{Effect, decide, nakedly, released, called, abortably, due, ready_or_park}
use Rattle.model.specs.Rules.Effect.{refuse, accept}
use Rattle.model.specs.Machine.{State, model, moves, obey, step, waiting}
use Rattle.model.specs.History.{is_join, is_leaving, passes}
use Rattle.model.specs.Valid.{Valid}
use Rattle.model.proofs.Tests.{holds, fails, stops, EqCase, eqb_case, eqb_yes, eqb_no, LeCase, leb_case, same_case, same_yes, or_split, not_false, denied, granted, bit_small}
use Rattle.model.proofs.Lists.{remove_absent, absent_count, member_here, first_only_member, insert_keeps, insert_there, all_map, all_append, members_all}
use Rattle.model.proofs.Accepted.{Accepted, accepted, when_by, choose_by, nakedly_by, enters_by, of_refuse}
use Rattle.model.proofs.Places.{sent, relocate, Stands, stands_moves, stands_at, at_place, waiting_is, not_abortably}
use Rattle.model.proofs.Locks.{accepting}
use Rattle.model.proofs.Kept.{Fine, runner, decide_good}
use Rattle.model.proofs.Rules.{due_rung}

-- ---- who is ahead, in a list

-- a newcomer of higher priority comes ahead of p
ahead_more : (pr : ℕ → ℕ) (p x : ℕ) (xs : List ℕ) → eqb x p ≡ false → pr p < pr x → member p xs ≡ true → length (ahead_of p (insert pr x xs)) ≡ suc (length (ahead_of p xs))
ahead_more pr p x [] e h m = absurd (false≢true m)
ahead_more pr p x (y ∷ ys) e h m = go (leb_case (pr x) (pr y)) (eqb_case y p) (ahead_more pr p x ys e h)
  where
    go : LeCase (pr x) (pr y) → EqCase y p → (member p ys ≡ true → length (ahead_of p (insert pr x ys)) ≡ suc (length (ahead_of p ys)))
        → length (ahead_of p (insert pr x (y ∷ ys))) ≡ suc (length (ahead_of p (y ∷ ys)))
    go (holds d z) (holds o w) ih = let k : pr y ≡ pr p = ap pr o in let f : ⊥ = omega arith in absurd f
    go (holds d z) (fails o w) ih = rw (z, w) (ap suc (ih (rw w at m)))
    go (fails d z) o ih = rw (z, e)

-- one that is not higher goes behind it
ahead_same : (pr : ℕ → ℕ) (p x : ℕ) (xs : List ℕ) → Falling pr xs → pr x ≤ pr p → member p xs ≡ true → ahead_of p (insert pr x xs) ≡ ahead_of p xs
ahead_same pr p x [] f h m = absurd (false≢true m)
ahead_same pr p x (y ∷ ys) f h m = go (leb_case (pr x) (pr y)) (eqb_case y p) (ahead_same pr p x ys f.1 h)
  where
    go : LeCase (pr x) (pr y) → EqCase y p → (member p ys ≡ true → ahead_of p (insert pr x ys) ≡ ahead_of p ys) → ahead_of p (insert pr x (y ∷ ys)) ≡ ahead_of p (y ∷ ys)
    go (holds d z) (holds o w) ih = rw (z, w)
    go (holds d z) (fails o w) ih = rw (z, w) (ap (λ (l : List ℕ). y ∷ l) (ih (rw w at m)))
    go (fails d z) (holds o w) ih = let k : pr y ≡ pr p = ap pr o in let g : ⊥ = omega arith in absurd g
    go (fails d z) (fails o w) ih = let b : pr p ≤ pr y = members_all (λ u. pr u ≤ pr y) ys f.0 p (rw w at m) in let g : ⊥ = omega arith in absurd g

-- ---- moves that neither take one of these out of lock l nor bring anybody there

abbrev Elsewhere : ℕ → List ℕ → List Note → Type 0
Elsewhere l xs ms = All (λ m. (member m.0 xs ≡ false) × (same m.1 (lock l) ≡ false)) ms

elsewhere_ready : (l : ℕ) (xs ps : List ℕ) → ((x : ℕ) → member x ps ≡ true → member x xs ≡ false) → Elsewhere l xs (to_ready ps)
elsewhere_ready l xs [] h = tt
elsewhere_ready l xs (x ∷ ps) h = ((h x (member_here x ps), refl), elsewhere_ready l xs ps (λ y m. h y (rw (m, or-true))))

-- who stands there stays there
elsewhere_place : (l p : ℕ) (xs : List ℕ) (ms : List Note) (place : ℕ → Queue) → member p xs ≡ true → Elsewhere l xs ms → relocate place ms p ≡ place p
elsewhere_place l p xs [] place m a = refl
elsewhere_place l p xs (d ∷ ms) place m a =
    elsewhere_place l p xs ms (sent place d) m a.1 ∙ rw (eqb_no d.0 p (λ e. true≢false (sym m ∙ ap (λ (x : ℕ). member x xs) (sym e) ∙ a.0.0)))

-- and its queue is as it was
elsewhere_stays : (pr : ℕ → ℕ) (l : ℕ) (ms : List Note) (qs : Queue → List ℕ) → Elsewhere l (qs (lock l)) ms → moves model pr qs ms (lock l) ≡ qs (lock l)
elsewhere_stays pr l [] qs a = refl
elsewhere_stays pr l (m ∷ ms) qs a = elsewhere_stays pr l ms (move pr qs m.0 m.1) (subst (λ (xs : List ℕ). Elsewhere l xs ms) (sym one) a.1) ∙ one
  where
    one : move pr qs m.0 m.1 (lock l) ≡ qs (lock l)
    one = rw a.0.1 (remove_absent m.0 (qs (lock l)) (absent_count m.0 (qs (lock l)) a.0.0))

-- ---- what an accepted call does to lock l's queue

-- with mark k it is a leaving of lock l or not, and a join or not
abbrev Counts : ℕ → Call → ℕ → Bool → Bool → Type 0
Counts l c k left joined = (a : Answer) → (is_leaving l c (accepting k a) ≡ left) × (is_join l c (accepting k a) ≡ joined)

data Serves (s : Fields) (qs : Queue → List ℕ) (l : ℕ) (c : Call) (g : Fields) (ms : List Note) (k : ℕ) : Type 0 where
  -- nobody comes, and nobody goes
  spares : Counts l c k false false → Elsewhere l (qs (lock l)) ms → Serves s qs l c g ms k
  -- the lock is left, and its first goes to ready
  frees : (rest : List Note) → Counts l c k true false → ms ≡ released qs l ++ rest → Elsewhere l (qs (lock l)) rest → Serves s qs l c g ms k
  -- who runs comes
  joins : Counts l c k false true → ms ≡ (s running, lock l) ∷ [] → priorities g ≡ priorities s → member (s running) (qs (lock l)) ≡ false → Serves s qs l c g ms k

module _ (n : Shape) (s : Fields) (qs : Queue → List ℕ) (l : ℕ) (runs : eqb (s running) 0 ≡ false → member (s running) (qs ready) ≡ true)
    (apart : (x : ℕ) (q : Queue) → member x (qs q) ≡ true → same q (lock l) ≡ false → member x (qs (lock l)) ≡ false)
    (asleep : (x : ℕ) → waiting n qs x ≡ true → member x (qs (lock l)) ≡ false) (arms : (x : ℕ) → s (armed x) ≢ 0 → waiting n qs x ≡ true) where
  abbrev Away : List Note → Type 0
  Away = Elsewhere l (qs (lock l))

  -- one moves, from one queue to another
  one : (x : ℕ) (q r : Queue) → member x (qs q) ≡ true → same q (lock l) ≡ false → same r (lock l) ≡ false → Away ((x, r) ∷ [])
  one x q r m e f = ((apart x q m e, f), tt)

  low : (k : ℕ) → same (ready_or_park k) (lock l) ≡ false
  low k = go (eqb k 0)
    where
      go : (b : Bool) → same (cond b ready (park k)) (lock l) ≡ false
      go true = refl
      go false = refl

  -- some wake off a condition
  woken : (c : ℕ) (ps : List ℕ) → ((x : ℕ) → member x ps ≡ true → member x (qs (condition c)) ≡ true) → Away (to_ready ps)
  woken c ps h = elsewhere_ready l (qs (lock l)) ps (λ x m. apart x (condition c) (h x m) refl)

  rung : (now : ℕ) → Away (to_ready (due n s now))
  rung now = elsewhere_ready l (qs (lock l)) (due n s now) (λ x m. asleep x (arms x (due_rung n s now x m).0))

  aborted : (p : ℕ) → Away (to_ready (called n s qs p))
  aborted p = go (abortably n s qs p) refl
    where
      go : (b : Bool) → abortably n s qs p ≡ b → Away (to_ready (cond b (p ∷ []) []))
      go false e = tt
      go true e = ((asleep p (granted (waiting n qs p) (λ w. true≢false (sym e ∙ not_abortably n s qs p w))), refl), tt)

  -- lock j is left, and then come others' moves, or none
  quits : (j k : ℕ) (c : Call) (g : Fields) (rest : List Note) → Counts l c k (eqb j l && true) false → Away rest → Serves s qs l c g (released qs j ++ rest) k
  quits j k c g rest h a = go (eqb_case j l)
    where
      go : EqCase j l → Serves s qs l c g (released qs j ++ rest) k
      go (holds d z) = frees rest (λ b. ((h b).0 ∙ rw z, (h b).1)) (ap (λ (i : ℕ). released qs i ++ rest) d) a
      go (fails d z) = spares (λ b. ((h b).0 ∙ rw z, (h b).1)) (all_append _ (released qs j) rest
          (elsewhere_ready l (qs (lock l)) (first_only (qs (lock j))) (λ x m. apart x (lock j) (first_only_member x (qs (lock j)) m) (stops (same_case (lock j) (lock l)) (λ y. d (cc))))) a)

  exits : (j k : ℕ) (c : Call) (g : Fields) → Counts l c k (eqb j l && true) false → Serves s qs l c g (released qs j) k
  exits j k c g h = subst (λ (ms : List Note). Serves s qs l c g ms k) (append-nil (released qs j)) (quits j k c g [] h tt)

  -- who runs goes into lock j
  queues : (j : ℕ) (c : Call) (g : Fields) → Counts l c 0 false (eqb j l && true) → priorities g ≡ priorities s → eqb (s running) 0 ≡ false → Serves s qs l c g ((s running, lock j) ∷ []) 0
  queues j c g h e r = go (eqb_case j l)
    where
      go : EqCase j l → Serves s qs l c g ((s running, lock j) ∷ []) 0
      go (holds d z) = joins (λ b. ((h b).0, (h b).1 ∙ rw z)) (ap (λ (i : ℕ). (s running, lock i) ∷ []) d) e (apart (s running) ready (runs r) refl)
      go (fails d z) = spares (λ b. ((h b).0, (h b).1 ∙ rw z)) (one (s running) ready (lock j) (runs r) refl (stops (same_case (lock j) (lock l)) (λ y. d (cc))))

  decide_serves : (c : Call) → Accepted (Serves s qs l c) (decide n s qs c)
  unfolding decide nakedly
  decide_serves (Enter j) = when_by _ refl (λ r. when_by _ refl (λ _. when_by _ refl (λ _. enters_by j s
      (λ _. spares (λ a. (refl, and-false (eqb j l))) tt) (λ _. queues j (Enter j) _ (λ a. (refl, refl)) refl r))))
  decide_serves (Exit j) = when_by _ refl (λ _. when_by _ refl (λ _. when_by _ refl (λ _. accepted (exits j 0 (Exit j) _ (λ a. (refl, refl))))))
  decide_serves (Wait j c t) = when_by _ refl (λ r. when_by _ refl (λ _. when_by _ refl (λ _. choose_by
      (λ _. accepted (exits j 0 (Wait j c t) _ (λ a. (refl, refl)))) (λ _. choose_by
      (λ _. accepted (exits j 0 (Wait j c t) _ (λ a. (refl, refl))))
      (λ _. accepted (quits j 1 (Wait j c t) _ ((s running, condition c) ∷ []) (λ a. (refl, refl)) (one (s running) ready (condition c) (runs r) refl refl)))))))
  decide_serves (Notify c) = when_by _ refl (λ _. when_by _ refl (λ _. accepted (spares (λ a. (refl, refl)) (woken c (first_only (qs (condition c))) (λ x m. first_only_member x (qs (condition c)) m)))))
  decide_serves (Broadcast c) = when_by _ refl (λ _. when_by _ refl (λ _. accepted (spares (λ a. (refl, refl)) (woken c (qs (condition c)) (λ x m. m)))))
  decide_serves (Naked c) = when_by _ refl (λ _. nakedly_by c (qs (condition c)) s (λ _. accepted (spares (λ a. (refl, refl)) tt))
      (λ x ys e. accepted (spares (λ a. (refl, refl)) (one x (condition c) ready (rw e (member_here x ys)) refl refl))))
  decide_serves (Requeue a b p) = when_by _ refl (λ _. when_by _ refl (λ o.
      accepted (spares (λ a. (refl, refl)) (one p.0 (ready_or_park a) (ready_or_park b) (not_false (member p.0 (qs (ready_or_park a))) o) (low a) (low b)))))
  decide_serves (SetPriority v) = when_by _ refl (λ r. when_by _ refl (λ _. accepted (spares (λ a. (refl, refl)) (one (s running) ready ready (runs r) refl refl))))
  decide_serves Tick = accepted (spares (λ a. (refl, refl)) (rung _))
  decide_serves (Abort p) = when_by _ refl (λ _. accepted (spares (λ a. (refl, refl)) (aborted p.0)))
  decide_serves (SetAbortable c v) = when_by _ refl (λ _. accepted (spares (λ a. (refl, refl)) tt))
  decide_serves (Reenter j c) = when_by _ refl (λ r. when_by _ refl (λ _. when_by _ refl (λ _. choose_by (λ _. accepted (spares (λ a. (refl, and-false (eqb j l))) tt))
      (λ _. enters_by j s (λ _. spares (λ a. (refl, and-false (eqb j l))) tt) (λ _. queues j (Reenter j c) _ (λ a. (refl, refl)) refl r)))))

-- ---- who queues there

-- p stands in lock l's queue, with k ahead
abbrev pub Behind : State model → ℕ → ℕ → ℕ → Type 0
Behind s p l k = (member p (s.queues (lock l)) ≡ true) × (length (ahead_of p (s.queues (lock l))) ≡ k)

-- what a call that is a leaving or not, and passes p over or not, leaves of that
pub record Turned (s : State model) (p l k : ℕ) (left passed : Bool) : Type 0 where
  -- a leaving lets the first go: p, if nobody is ahead
  pub comes : left ≡ true → k ≡ 0 → member p (s.queues ready) ≡ true
  pub nears : {i : ℕ} → left ≡ true → k ≡ suc i → Behind s p l i
  -- else p stands there yet, and one more is ahead if it was passed over
  pub waits : left ≡ false → Behind s p l (k + bit passed)

module _ (n : Shape) (s : State model) (v : Valid n s) (l : ℕ) (c : Call) where
  abbrev place : ℕ → Queue
  place = v.placed.place

  at : (x : ℕ) (q : Queue) → member x (s.queues q) ≡ true → (inside n.processes x ≡ true) × (place x ≡ q)
  at x q m = stands_at n.processes s.queues place v.placed.once x q m

  serves : Accepted (Serves s.fields s.queues l c) (decide n s.fields s.queues c)
  serves = decide_serves n s.fields s.queues l (runner n s.fields s.queues v)
      (λ x q m e. denied (member x (s.queues (lock l))) (λ y. true≢false (sym (same_yes q (lock l) (sym (at x q m).1 ∙ (at x (lock l) y).1)) ∙ e)))
      (λ x w. denied (member x (s.queues (lock l))) (λ y. true≢false (sym w ∙ waiting_is n s.queues place v.placed.once x (v.placed.real x) ∙ rw ((at x (lock l) y).1, and-false))))
      (λ x o. granted (waiting n s.queues x) (λ w. o (v.arms x w)))
      c

  -- a lock's queue when its first has gone
  freed : (pr : ℕ → ℕ) (x : ℕ) (xs : List ℕ) (rest : List Note) → s.queues (lock l) ≡ x ∷ xs → Elsewhere l (s.queues (lock l)) rest → moves model pr s.queues ((x, ready) ∷ rest) (lock l) ≡ xs
  freed pr x xs rest e a = elsewhere_stays pr l rest (move pr s.queues x ready) (subst (λ (ys : List ℕ). Elsewhere l ys rest) (sym gone) fewer) ∙ gone
    where
      once : count x xs ≡ 0
      once = let k : bit (eqb x x) + count x xs ≡ bit (inside n.processes x && same (place x) (lock l)) = rw e at (v.placed.once x (lock l)) in
          let z = bit_small (inside n.processes x && same (place x) (lock l)) in let y : bit (eqb x x) ≡ 1 = rw (eqb_yes x x refl) in omega arith

      gone : move pr s.queues x ready (lock l) ≡ xs
      gone = ap (remove x) e ∙ rw (eqb_yes x x refl) (remove_absent x xs once)

      fewer : Elsewhere l xs rest
      fewer = all_map _ _ rest (λ m k. let d : eqb x m.0 || member m.0 xs ≡ false = rw e at k.0 in ((or_split (eqb x m.0) (member m.0 xs) d).1, k.1)) a

  -- a lock's queue when x has come
  come : (pr : ℕ → ℕ) (x : ℕ) → member x (s.queues (lock l)) ≡ false → moves model pr s.queues ((x, lock l) ∷ []) (lock l) ≡ insert pr x (s.queues (lock l))
  come pr x m = rw (same_yes (lock l) (lock l) refl, remove_absent x (s.queues (lock l)) (absent_count x (s.queues (lock l)) m))

  -- who joins stands there, behind as many as it is told
  pub join_behind : is_join l c (step model n s c).1 ≡ true → Behind (step model n s c).0 (s.fields running) l (step model n s c).1.ahead
  unfolding step
  join_behind = go (decide n s.fields s.queues c) serves
    where
      go : (e : Effect) → Accepted (Serves s.fields s.queues l c) e → is_join l c (obey model s e).1 ≡ true → Behind (obey model s e).0 (s.fields running) l (obey model s e).1.ahead
      go (refuse j) h i = let w = of_refuse h in let z : eqb j 0 ≡ false = eqb_no j 0 (omega arith) in let y : false ≡ true = rw (z, and-false) at i in absurd (false≢true y)
      go (accept g ms j) (accepted h) i = each h
        where
          each : Serves s.fields s.queues l c g ms j → Behind (obey model s (accept g ms j)).0 (s.fields running) l (obey model s (accept g ms j)).1.ahead
          each (spares k a) = absurd (true≢false (sym i ∙ (k (obey model s (accept g ms j)).1).1))
          each (frees rest k e a) = absurd (true≢false (sym i ∙ (k (obey model s (accept g ms j)).1).1))
          each (joins k e o m) = rw e (rw (come (priorities g) (s.fields running) m) (insert_there (priorities g) (s.fields running) (s.queues (lock l))), refl)

  -- a call and p, who has k ahead
  pub call_turns : (p k : ℕ) → Behind s p l k → Turned (step model n s c).0 p l k (is_leaving l c (step model n s c).1) (passes s.fields p l c (step model n s c).1)
  unfolding step
  call_turns p k b = go (decide n s.fields s.queues c) serves (decide_good n s.fields s.queues v c)
    where
      -- it is no leaving
      yet : {t : State model} {left passed : Bool} → left ≡ false → Behind t p l (k + bit passed) → Turned t p l k left passed
      yet e h = record { comes = λ d _. absurd (true≢false (sym d ∙ e)); nears = λ d _. absurd (true≢false (sym d ∙ e)); waits = λ _. h }

      -- nobody comes or goes
      stay : {t : State model} {left passed : Bool} → left ≡ false → passed ≡ false → t.queues (lock l) ≡ s.queues (lock l) → Turned t p l k left passed
      stay e f q = yet e (ap (member p) q ∙ b.0, ap (λ (xs : List ℕ). length (ahead_of p xs)) q ∙ b.1 ∙ rw f (omega arith))

      go : (e : Effect) → Accepted (Serves s.fields s.queues l c) e → Accepted (Fine n place) e
          → Turned (obey model s e).0 p l k (is_leaving l c (obey model s e).1) (passes s.fields p l c (obey model s e).1)
      go (refuse j) h f = let w = of_refuse h in let z : eqb j 0 ≡ false = eqb_no j 0 (omega arith) in stay (rw (z, and-false)) (rw (z, and-false)) refl
      go (accept g ms j) (accepted h) (accepted f) = each h
        where
          a : Answer
          a = (obey model s (accept g ms j)).1

          qs : Queue → List ℕ
          qs = moves model (priorities g) s.queues ms

          there : Stands n.processes qs (relocate place ms)
          there = stands_moves n.processes (priorities g) ms s.queues place v.placed.once f.movers

          each : Serves s.fields s.queues l c g ms j → Turned (obey model s (accept g ms j)).0 p l k (is_leaving l c a) (passes s.fields p l c a)
          each (spares i w) = stay (i a).0 (rw (i a).1) (elsewhere_stays (priorities g) l ms s.queues w)
          each (frees rest i e w) = first (s.queues (lock l)) refl
            where
              first : (xs : List ℕ) → s.queues (lock l) ≡ xs → Turned (obey model s (accept g ms j)).0 p l k (is_leaving l c a) (passes s.fields p l c a)
              first [] d = let m : false ≡ true = rw d at b.0 in absurd (false≢true m)
              first (x ∷ xs) d = which (eqb_case x p)
                where
                  told : ms ≡ (x, ready) ∷ rest
                  told = e ∙ ap (λ (ys : List ℕ). to_ready (first_only ys) ++ rest) d

                  queue : qs (lock l) ≡ xs
                  queue = ap (λ (ns : List Note). moves model (priorities g) s.queues ns (lock l)) told ∙ freed (priorities g) x xs rest d w

                  which : EqCase x p → Turned (obey model s (accept g ms j)).0 p l k (is_leaving l c a) (passes s.fields p l c a)
                  which (holds y z) = record {
                    comes = λ _ _. at_place n.processes qs (relocate place ms) there p ready (at p (lock l) b.0).0
                        (ap (λ (ns : List Note). relocate place ns p) told ∙ elsewhere_place l p (s.queues (lock l)) rest (sent place (x, ready)) b.0 w ∙ rw z);
                    nears = λ _ h. let o : 0 ≡ k = rw (d, z) at b.1 in let u : ⊥ = omega arith in absurd u;
                    waits = λ q. absurd (true≢false (sym (i a).0 ∙ q));
                  }
                  which (fails y z) =
                      let o : suc (length (ahead_of p xs)) ≡ k = rw (d, z) at b.1 in
                      record {
                        comes = λ _ q. let u : ⊥ = omega arith in absurd u;
                        nears = λ _ q. (ap (member p) queue ∙ (rw (d, z) at b.0), ap (λ (ys : List ℕ). length (ahead_of p ys)) queue ∙ omega arith);
                        waits = λ q. absurd (true≢false (sym (i a).0 ∙ q));
                      }
          each (joins i e o m) =
              yet (i a).0 (ap (member p) queue ∙ insert_keeps pr p x xs b.0, ap (λ (ys : List ℕ). length (ahead_of p ys)) queue ∙ higher (leb_case (suc (pr p)) (pr x)))
            where
              x : ℕ
              x = s.fields running

              xs : List ℕ
              xs = s.queues (lock l)

              pr : ℕ → ℕ
              pr = priorities s.fields

              apart : eqb x p ≡ false
              apart = eqb_no x p (λ d. true≢false (sym b.0 ∙ ap (λ (y : ℕ). member y xs) (sym d) ∙ m))

              queue : qs (lock l) ≡ insert pr x xs
              queue = ap (λ (ns : List Note). moves model (priorities g) s.queues ns (lock l)) e ∙ come (priorities g) x m ∙ ap (λ (f : ℕ → ℕ). insert f x xs) o

              higher : LeCase (suc (pr p)) (pr x) → length (ahead_of p (insert pr x xs)) ≡ k + bit (passes s.fields p l c a)
              higher (holds d t) = ahead_more pr p x xs apart (omega arith) b.0 ∙ ap suc b.1 ∙ rw ((i a).1, t) (omega arith)
              higher (fails d t) = ap length (ahead_same pr p x xs (v.placed.falls (lock l)) (omega arith) b.0) ∙ b.1 ∙ rw ((i a).1, t) (omega arith)
