-- What Ticks bring about, on areas: a sound area is the words of its state, and each Tick leaves the words of the state one Tick on, so what
-- Ticks do to states they do to areas. What is shown can be decided, so an area that cannot be unsound will do for a sound one. Assumes nothing.
use Prim.Native.Nat.{ℕ, zero, suc, ◌+◌, ◌-◌, ◌*◌, ◌≤◌, ◌<◌}
use native.Mathlib.Decide.{dec_lt}
use native.Mathlib.Omega.{arith}
use mathlib.Core.Path.{◌≡◌, sym, ap, ◌∙◌, subst}
use mathlib.Core.Logic.{◌≢◌}
use mathlib.Core.Bool.{true}
use mathlib.Core.List.{List, [], ◌∷◌, ◌++◌}
use lib.ListN.{length, get_or, drop}
use Rattle.model.specs.declared.Shape.{Shape}
use Rattle.model.specs.declared.Ticks.{Ticks}
use Rattle.model.specs.declared.Call.{Call}
use Rattle.model.specs.declared.Call.TheVariants.{Wait}
use Rattle.model.specs.declared.Answer.{Answer}
use Rattle.model.specs.declared.Report.{Report}
use Rattle.model.specs.Queue.{bit, member, All}
use Rattle.model.specs.Queue.Queue.{ready, condition}
use Rattle.model.specs.Field.Field.{running}
use Rattle.model.specs.Machine.{State, model, step, after, waiting}
use Rattle.model.specs.Timers.{ticks, is_tick, ticks_in, left, Entry, due_within}
use Rattle.model.specs.Reports.{Reports}
use Rattle.model.proofs.Lists.{lists?}
use Rattle.model.proofs.Ticking.{seat, left_waits, tick_wakes, ticks_stay, ticks_wake, ticks_still, Exact, due_exact, nearest_is}
use Rattle.model.proofs.Sleeping.{Lets, awaits, call_lets, wait_left}
use Rattle.area.specs.Reading.{shape_of, state_of}
use Rattle.area.specs.Sound.{Sound}
use Rattle.timers.specs.declared.Earliest.{Earliest}
use Rattle.timers.specs.Telling.{in_words}
use Rattle.monitor.specs.Calls.{Performs}
use Rattle.reads.specs.Reads.{TellsOn, NearestOn}
use Rattle.model.specs.Run.{Run}
use Rattle.model.specs.Run.Run.{none, then}
use Rattle.runs.specs.Ticks.{WakesIn, Still, Undisturbed, SleepsFor}
use Rattle.runs.proofs.History.{Keeps, own, keeps_shape, keeps_state, step_answer, step_keeps, run_keeps}
use Rattle.runs.proofs.Promises.{sure, passed?}

-- ---- from a sound area

-- Ticks leave the words of the state that they come to
ticks_state : {ws : List ℕ} (S : Sound ws) (k : ℕ) {new : List ℕ} {rs : List Answer} → Run Performs (ticks k) ws new rs → state_of new ≡ after model (shape_of ws) (state_of ws) (ticks k)
ticks_state {ws} S k R = keeps_state (run_keeps (state_of ws) (own S) R)

-- ---- from an area that cannot be unsound

module _ {ws : List ℕ} (N : (Sound ws → ⊥) → ⊥) where
  -- who has d ticks left wakes in the d-th Tick
  left_wakes : {p d : ℕ} → (Sound ws → Exact (shape_of ws) (state_of ws) (p, d)) → WakesIn Performs ws p d
  left_wakes {p} {d} E = record {
    condition = seat (shape_of ws) (state_of ws) p;
    waits = λ {k} {new} h R. sure N (passed? (member p ((state_of new).queues (condition (seat (shape_of ws) (state_of ws) p))))) (λ S. waits_yet S (E S) h R);
    wakes = λ {new} R. sure N (passed? (member p ((state_of new).queues ready))) (λ S. comes S (E S) R);
  }
    where
      waits_yet : (S : Sound ws) {k : ℕ} {new : List ℕ} {rs : List Answer} → Exact (shape_of ws) (state_of ws) (p, d) → k < d → Run Performs (ticks k) ws new rs
          → member p ((state_of new).queues (condition (seat (shape_of ws) (state_of ws) p))) ≡ true
      waits_yet S {k} e h R =
          ap {A = State model} (λ t. member p (t.queues (condition (seat (shape_of ws) (state_of ws) p)))) (ticks_state S k R)
          ∙ ticks_stay (shape_of ws) p (condition (seat (shape_of ws) (state_of ws) p)) k (state_of ws) S.valid (subst (λ (x : ℕ). k < x) (sym e.1) h)
          ∙ left_waits (shape_of ws) (state_of ws) p (λ z. e.2 (sym e.1 ∙ z))

      comes : (S : Sound ws) {new : List ℕ} {rs : List Answer} → Exact (shape_of ws) (state_of ws) (p, d) → Run Performs (ticks d) ws new rs → member p ((state_of new).queues ready) ≡ true
      comes S e R = ap {A = State model} (λ t. member p (t.queues ready)) (ticks_state S d R) ∙ ticks_wake (shape_of ws) p d (state_of ws) S.valid e.1 e.2

  -- where everyone who has ticks left has more than k, k Ticks move nobody
  none_moves : (k : ℕ) → (Sound ws → (p : ℕ) → left (shape_of ws) (state_of ws) p ≢ 0 → k < left (shape_of ws) (state_of ws) p) → Still Performs ws k
  none_moves k H new rs R q = sure N (lists? ((state_of new).queues q) ((state_of ws).queues q))
      (λ S. ap {A = State model} (λ t. t.queues q) (ticks_state S k R) ∙ ticks_still (shape_of ws) k (state_of ws) S.valid (H S) q)

-- ---- who is due

-- what holds of all entries holds of the i-th two words
pair_of : (T : Entry → Type 0) (es : List Entry) (rest : List ℕ) (i : ℕ) → All T es → i < length es → T (get_or (in_words es ++ rest) (2 * i) 0, get_or (in_words es ++ rest) (2 * i + 1) 0)
pair_of T [] rest i a h = let w : ⊥ = omega arith in absurd w
pair_of T (e ∷ es) rest zero a h = a.0
pair_of T (e ∷ es) rest (suc i) a h =
    let x : 2 * suc i ≡ suc (suc (2 * i)) = omega arith in
    let y : 2 * suc i + 1 ≡ suc (suc (2 * i + 1)) = omega arith in
    rw (y, x) (pair_of T es rest i a.1 (omega arith))

-- whoever is told with d ticks left wakes in the d-th Tick
pub told_wakes : (k : ℕ) {ws old new : List ℕ} {r : Report} {i : ℕ} → TellsOn k ws old new r → i < r.count → WakesIn Performs ws (get_or new (2 * i) 0) (get_or new (2 * i + 1) 0)
told_wakes k {ws} {old} {new} {r} {i} T h = left_wakes (λ u. let c = (T.unsound u).count in omega arith) exact
  where
    exact : Sound ws → Exact (shape_of ws) (state_of ws) (get_or new (2 * i) 0, get_or new (2 * i + 1) 0)
    exact S = go (due_within (shape_of ws) (state_of ws) k) (due_exact (shape_of ws) (state_of ws) k) (T.sound S)
      where
        go : (es : List Entry) → All (Exact (shape_of ws) (state_of ws)) es → Reports (length es) (in_words es) old new r → Exact (shape_of ws) (state_of ws) (get_or new (2 * i) 0, get_or new (2 * i + 1) 0)
        go es a R = elim (dec_lt (length old) (length (in_words es))) [
          | yes l ↦ let c = (R.short l).count in let w : ⊥ = omega arith in absurd w
          | no l ↦ let t = R.whole (omega arith) in
              subst (λ (b : List ℕ). Exact (shape_of ws) (state_of ws) (get_or b (2 * i) 0, get_or b (2 * i + 1) 0)) (sym t.buffer)
              (pair_of (Exact (shape_of ws) (state_of ws)) es (drop (length (in_words es)) old) i a (subst (λ (m : ℕ). i < m) t.count h))
        ]

-- ---- who is the nearest

module _ {ws : List ℕ} {r : Earliest} (W : NearestOn ws r) where
  -- the nearest wakes when it is told to
  pub nearest_wakes : r.process ≢ 0 → WakesIn Performs ws r.process r.left
  nearest_wakes o = left_wakes (λ u. o (ap {A = Earliest} (λ a. a.process) (W.unsound u)))
      (λ S. subst (λ (a : Earliest). a.process ≢ 0 → Exact (shape_of ws) (state_of ws) (a.process, a.left)) (sym (W.sound S)) (nearest_is (shape_of ws) (state_of ws) S.valid).own o)

  -- before the nearest's tick nobody moves
  pub still_before : {k : ℕ} → k < r.left → Still Performs ws k
  still_before {k} h = none_moves (λ u. let c = ap {A = Earliest} (λ a. a.left) (W.unsound u) in omega arith) k within
    where
      within : Sound ws → (p : ℕ) → left (shape_of ws) (state_of ws) p ≢ 0 → k < left (shape_of ws) (state_of ws) p
      within S p o =
          let e = ap {A = Earliest} (λ a. a.left) (W.sound S) in
          let b = (nearest_is (shape_of ws) (state_of ws) S.valid).first p o in
          omega arith

  -- nor ever where there is none
  pub still_ever : (k : ℕ) → r.code ≡ 0 → r.process ≡ 0 → Still Performs ws k
  still_ever k z y = none_moves (λ u. let c = ap {A = Earliest} (λ a. a.code) (W.unsound u) in omega arith) k
      (λ S p o. absurd (o ((nearest_is (shape_of ws) (state_of ws) S.valid).none (sym (ap {A = Earliest} (λ a. a.process) (W.sound S)) ∙ y) p)))

-- ---- a wait of t ticks

-- the area's state has p waiting, as it says
waits_are : {n : Shape} {ws : List ℕ} {s : State model} (p : ℕ) → Keeps n ws s → waiting (shape_of ws) (state_of ws).queues p ≡ waiting n s.queues p
waits_are {ws = ws} {s = s} p K = ap {A = State model} (λ t. waiting (shape_of ws) t.queues p) (keeps_state K) ∙ ap {A = Shape} (λ m. waiting m s.queues p) (keeps_shape K)

-- p stands in condition c with d ticks left
record Asleep (p c : ℕ) (n : Shape) (ws : List ℕ) (d : ℕ) : Type 0 where
  state : State model
  keeps : Keeps n ws state
  lasts : left n state p ≡ d
  stands : member p (state.queues (condition c)) ≡ true

-- it does so after a run of calls of which none but Tick wakes it, with as many ticks less
sleep_run : (p c : ℕ) {n : Shape} {cs : List Call} {ws new : List ℕ} {rs : List Answer} {d : ℕ} → Asleep p c n ws d → Run (Undisturbed Performs p) cs ws new rs → ticks_in cs < d → Asleep p c n new (d - ticks_in cs)
sleep_run p c {n} {new = new} {d = d} S none h = subst (Asleep p c n new) (let e : d ≡ d - 0 = omega arith in e) S
sleep_run p c {n} {new = new} {d = d} S (then {c = a} {cs} {mid = mid} U R) h =
    subst (Asleep p c n new) (let e : d - bit (is_tick a) - ticks_in cs ≡ d - (bit (is_tick a) + ticks_in cs) = omega arith in e)
    (sleep_run p c (record { state = (step model n S.state a).0; keeps = K; lasts = omega (arith, L.lasts, S.lasts); stands = L.stands (condition c) ∙ S.stands }) R (omega arith))
  where
    K : Keeps n mid (step model n S.state a).0
    K = step_keeps S.keeps U.kept

    L : Lets n S.state (step model n S.state a).0 p (bit (is_tick a))
    L = call_lets n S.state S.keeps.valid p a
        (λ e. sym (waits_are p K) ∙ U.asleep e (waits_are p S.keeps ∙ awaits n S.state S.keeps.valid p (omega (arith, S.lasts))))
        (omega (arith, S.lasts))

-- a Wait of t ticks with mark 1 lasts t ticks
pub wait_lasts : {l c : ℕ} {t : Ticks} {old new : List ℕ} {a : Answer} → Performs (Wait l c t) old new a → a.mark ≡ 1 → 1 ≤ t.0 → t.0 ≤ 65535
    → SleepsFor Performs new ((state_of old).fields running) c t.0
wait_lasts {l} {c} {t} {old} {new} {a} W m low high = record {
  waits = λ {new = end} R h. sure known (passed? (member p ((state_of end).queues (condition c)))) (λ S.
      let A = sleep_run p c (asleep S) R h in ap {A = State model} (λ s. member p (s.queues (condition c))) (keeps_state A.keeps) ∙ A.stands);
  wakes = λ {new = end} R e P. sure known (passed? (member p ((state_of end).queues ready))) (λ S.
      let A = sleep_run p c (asleep S) R (omega arith) in
      ap {A = State model} (λ s. member p (s.queues ready)) (keeps_state (step_keeps A.keeps P)) ∙ tick_wakes (shape_of old) A.state A.keeps.valid p (omega (arith, A.lasts)));
}
  where
    p : ℕ
    p = (state_of old).fields running

    known : (Sound old → ⊥) → ⊥
    known u = let e = ap {A = Answer} (λ b. b.mark) (W.unsound u).0 in omega arith

    asleep : Sound old → Asleep p c (shape_of old) new t.0
    asleep S =
        let k = wait_left (shape_of old) (state_of old) S.valid l c t (ap {A = Answer} (λ b. b.mark) (sym (step_answer (own S) W)) ∙ m) low high in
        record { state = (step model (shape_of old) (state_of old) (Wait l c t)).0; keeps = step_keeps (own S) W; lasts = k.0; stands = k.1 }
