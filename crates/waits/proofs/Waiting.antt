-- What Wait comes to at each of its returns, by the numbers that the code reads: its rule, test by test, its timer, and its moves, of which
-- the waiter's comes last. Assumes nothing.
use Rattle.std.proofs.Common.{◌≡◌, ℕ, ◌+◌, ◌≤◌, Bool, true, false, not, ◌&&◌, ◌||◌, eqb, ◌≢◌, List, [], ◌∷◌, ◌++◌, length, sym, refl, ap, ◌∙◌, subst, arith}
use Rattle.model.specs.declared.Shape.{Shape}
use Rattle.model.specs.declared.Ticks.{Ticks}
use Rattle.model.specs.declared.Answer.{Answer}
use Rattle.model.specs.declared.Call.TheVariants.{Wait}
use Rattle.model.specs.Queue.{Queue, bit, outside, member, count, first_only, ahead_of, remove, insert, move, to_ready}
use Rattle.model.specs.Queue.Queue.{ready, lock, condition}
use Rattle.model.specs.Field.{Fields, put, some, priorities}
use Rattle.model.specs.Field.Field.{clock, running, armed, timer, abort, holder, wakeup, abortable}
use Rattle.model.specs.Rules.{when, decide, released, called_off, alarm, arm}
use Rattle.model.specs.Rules.Effect.{accept}
use Rattle.model.specs.Machine.{State, model, moves, arrivals, finish, refusal}
use Rattle.model.specs.Valid.{Valid}
use Rattle.model.proofs.Tests.{EqCase, holds, fails, eqb_case, eqb_yes, eqb_no}
use Rattle.model.proofs.Lists.{count_remove_other, count_insert, member_count, counted_member}
use Rattle.model.proofs.Places.{moves_append, arrivals_append, ahead_after}
use Rattle.model.proofs.Loops.{released_moved}
use Rattle.area.specs.Holds.{Holds, Becomes, with, sent, Gives}
use Rattle.area.specs.Calls.{Does, CallingTwo, changed}
use Rattle.outcomes.proofs.Outcomes.{when_yes, when_no, choose_yes, choose_no, Tested, two_tested, refuses, refuses_by, accepts, accepts_ready}
use Rattle.moves.proofs.Shared.{runner_stands}

-- ---- armed and the timer

pub alarm_none : (now : ℕ) {t : ℕ} → t ≡ 0 → ◌≡◌ {A = ℕ} 0 (alarm now t)
alarm_none now {t} e = rw (eqb_yes t 0 e)

-- they are set by the ticks, and by the clock of the state
pub sleeps : {n : Shape} {old new : List ℕ} (s : State model) (p k t : ℕ) {a now d : ℕ} → a ≡ bit (some t) → now ≡ s.fields clock → d ≡ alarm now t
    → Becomes n old new (sent p (condition k) (with (timer p) d (with (armed p) a s))) → Becomes n old new (changed (arm p t s.fields) ((p, condition k) ∷ []) s)
sleeps {n} {old} {new} s p k t {d = d} ea ec ed b =
    subst (λ (x : ℕ). Becomes n old new (changed (put (timer p) x (put (armed p) (bit (some t)) s.fields)) ((p, condition k) ∷ []) s)) (ed ∙ ap {A = ℕ} (λ x. alarm x t) ec)
    (subst (λ (x : ℕ). Becomes n old new (sent p (condition k) (with (timer p) d (with (armed p) x s)))) ea b)

-- ---- who stands in ready stays there when others come

module _ (pr : ℕ → ℕ) (p : ℕ) where
  keeps : (x : ℕ) (rs : List ℕ) → member p rs ≡ true → member p (insert pr x (remove x rs)) ≡ true
  keeps x rs e =
      let a = member_count p rs e in
      let b = count_insert pr p x (remove x rs) in
      counted_member p (insert pr x (remove x rs)) (go (eqb_case x p) a b)
    where
      go : EqCase x p → 1 ≤ count p rs → count p (insert pr x (remove x rs)) ≡ bit (eqb x p) + count p (remove x rs) → 1 ≤ count p (insert pr x (remove x rs))
      go (holds d z) a b = let k : count p (insert pr x (remove x rs)) ≡ 1 + count p (remove x rs) = rw z at b in omega arith
      go (fails d z) a b = let k : count p (insert pr x (remove x rs)) ≡ 0 + count p rs = rw (z, count_remove_other p x rs d) at b in omega arith

  stays_ready : (xs : List ℕ) (qs : Queue → List ℕ) → member p (qs ready) ≡ true → member p (moves model pr qs (to_ready xs) ready) ≡ true
  stays_ready [] qs e = e
  stays_ready (x ∷ xs) qs e = stays_ready xs (move pr qs x ready) (keeps x (qs ready) e)

pub waiter_stands : {n : Shape} (s : State model) (l : ℕ) {r : ℕ} → r ≡ s.fields running → Valid n s → r ≢ 0
    → member r ((changed (put (holder l) 0 s.fields) (released s.queues l) s).queues ready) ≡ true
waiter_stands s l {r} er v z = stays_ready (priorities s.fields) r (first_only (s.queues (lock l))) s.queues (runner_stands er v z)

-- ---- the rule, with r the running process, j the code of its first tests, h the lock's holder, b whether r is called off and w the condition's wakeup

module _ {n : Shape} {old : List ℕ} {s : State model} (H : Holds n old s) (l k : ℕ) (t : Ticks) {r j : ℕ} (er : r ≡ s.fields running) (ej : CallingTwo r n.locks l n.conditions k j) where
  -- the lock is released
  abbrev left : State model
  left = changed (put (holder l) 0 s.fields) (released s.queues l) s

  -- and then the running process sleeps
  abbrev asleep : Fields
  asleep = arm r t.0 left.fields

  tested : Tested j (λ e. when (eqb (s.fields running) 0) 6 (when (outside n.locks l || outside n.conditions k) 7 e))
  tested = rw (← er) (two_tested ej)

  pub wait_refused : {a : Answer} → j ≢ 0 → a ≡ refusal j → Does (Wait l k t) n old old s a
  unfolding decide
  wait_refused = refuses_by H (Wait l k t) _ refl tested

  module _ (z : j ≡ 0) {h : ℕ} (eh : h ≡ s.fields (holder l)) where
    pub wait_foreign : {a : Answer} → h ≢ r → a ≡ refusal 9 → Does (Wait l k t) n old old s a
    unfolding decide
    wait_foreign d =
        refuses H (Wait l k t) 9
        (tested.passed z _ ∙ when_yes 9 _ (ap not (eqb_no (s.fields (holder l)) (s.fields running) (λ e. d (eh ∙ e ∙ sym er)))))

    module _ (o : h ≡ r) {m : ℕ} (em : m ≡ length (first_only (s.queues (lock l)))) {b : Bool} (eb : b ≡ some (s.fields (abort r)) && some (s.fields (abortable k))) where
      own : not (eqb (s.fields (holder l)) (s.fields running)) ≡ false
      own = ap not (eqb_yes (s.fields (holder l)) (s.fields running) (sym eh ∙ o ∙ er))

      came : m ≡ arrivals (s.queues ready) (released s.queues l)
      came = em ∙ sym (released_moved n.processes s.queues H.placed.place H.placed.once l)

      off : b ≡ called_off s.fields k
      off = eb ∙ ap {A = ℕ} (λ x. some (s.fields (abort x)) && some (s.fields (abortable k))) er

      pub wait_off : {mid new : List ℕ} {a : Answer} → b ≡ true → Becomes n old mid left → Gives n mid new a (finish model left.fields left.queues 0 m 0) → Does (Wait l k t) n old new s a
      unfolding decide
      wait_off e =
          accepts_ready H (Wait l k t) left.fields (first_only (s.queues (lock l))) 0 m (tested.passed z _ ∙ when_no 9 _ own ∙ choose_yes _ _ (sym off ∙ e)) came

      pub wait_over : {mid new : List ℕ} {a : Answer} {w : ℕ} → b ≡ false → w ≡ s.fields (wakeup k) → w ≢ 0 → Becomes n old mid (with (wakeup k) 0 left)
          → Gives n mid new a (finish model (put (wakeup k) 0 left.fields) left.queues 0 m 0) → Does (Wait l k t) n old new s a
      unfolding decide
      wait_over f ew d =
          accepts_ready H (Wait l k t) (put (wakeup k) 0 left.fields) (first_only (s.queues (lock l))) 0 m
          (tested.passed z _ ∙ when_no 9 _ own ∙ choose_no _ _ (sym off ∙ f) ∙ choose_yes _ _ (ap not (eqb_no (s.fields (wakeup k)) 0 (λ e. d (ew ∙ e)))))
          came

      pub wait_sleeps : {mid new : List ℕ} {a : Answer} {w others : ℕ} → b ≡ false → w ≡ s.fields (wakeup k) → w ≡ 0 → others ≡ length (ahead_of r ((changed asleep ((r, condition k) ∷ []) left).queues (condition k)))
          → Becomes n old mid (changed asleep ((r, condition k) ∷ []) left)
          → Gives n mid new a (finish model asleep (changed asleep ((r, condition k) ∷ []) left).queues 1 m others) → Does (Wait l k t) n old new s a
      unfolding decide
      wait_sleeps {mid} {new} {a} {w} {others} f ew e h b' g =
          let q = moves_append (priorities asleep) (released s.queues l) ((r, condition k) ∷ []) s.queues in
          accepts H (Wait l k t) {mid = mid} {new = new} {a = a} asleep (released s.queues l ++ ((r, condition k) ∷ [])) 1 m others
          (tested.passed z _ ∙ when_no 9 _ own ∙ choose_no _ _ (sym off ∙ f) ∙ choose_no _ _ (ap not (eqb_yes (s.fields (wakeup k)) 0 (sym ew ∙ e)))
          ∙ ap {A = ℕ} (λ x. accept (arm x t.0 left.fields) (released s.queues l ++ ((x, condition k) ∷ [])) 1) (sym er))
          (came ∙ (let d = arrivals_append (s.queues ready) (released s.queues l) ((r, condition k) ∷ []) in omega arith))
          (h ∙ sym (rw q (ahead_after (changed asleep ((r, condition k) ∷ []) left).queues (first_only (s.queues (lock l))) ((r, condition k) ∷ []))))
          (rw q b')
          (rw q g)
