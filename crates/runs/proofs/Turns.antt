-- Turns at a lock, on areas, by induction on the run: each call leaves the words of the state that the model comes to, and of that state it is
-- known who is ahead. What is shown can be decided, so an area that cannot be unsound will do for a sound one. Assumes nothing.
use Prim.Native.Nat.{ℕ, zero, suc, ◌+◌, ◌-◌, ◌≤◌}
use native.Mathlib.Omega.{arith}
use mathlib.Core.Path.{◌≡◌, refl, sym, ap, ◌∙◌, subst}
use mathlib.Core.Bool.{Bool, true, false, and-false, false≢true}
use mathlib.Core.List.{List, map}
use Rattle.model.specs.declared.Shape.{Shape}
use Rattle.model.specs.declared.Call.{Call}
use Rattle.model.specs.declared.Answer.{Answer}
use Rattle.model.specs.Queue.{bit, member}
use Rattle.model.specs.Queue.Queue.{ready, lock}
use Rattle.model.specs.Field.Field.{running}
use Rattle.model.specs.Machine.{State, model, step}
use Rattle.model.specs.History.{is_join, is_leaving, passes, tally}
use Rattle.model.proofs.Turns.{Behind, Turned, join_behind, call_turns}
use Rattle.area.specs.Reading.{shape_of, state_of}
use Rattle.area.specs.Sound.{Sound}
use Rattle.monitor.specs.Calls.{Performs}
use Rattle.model.specs.Run.{Run}
use Rattle.model.specs.Run.Run.{none, then}
use Rattle.runs.specs.Turns.{StandsIn, remaining, Unpassed, to_go, Turn, InTurn, Turns}
use Rattle.runs.proofs.History.{Keeps, own, keeps_state, step_answer, step_keeps}
use Rattle.runs.proofs.Promises.{passed?, sure}

-- p queues at lock l with k ahead, in the state whose words these are
record Queued (n : Shape) (p l : ℕ) (ws : List ℕ) (k : ℕ) : Type 0 where
  state : State model
  keeps : Keeps n ws state
  behind : Behind state p l k

module _ {n : Shape} {p l : ℕ} {ws : List ℕ} {k : ℕ} (Q : Queued n p l ws k) where
  queued_stands : StandsIn ws p (lock l)
  queued_stands = ap {A = State model} (λ s. member p (s.queues (lock l))) (keeps_state Q.keeps) ∙ Q.behind.0

  -- a call
  module _ {c : Call} {new : List ℕ} {a : Answer} (P : Performs c ws new a) where
    T : Turned (step model n Q.state c).0 p l k (is_leaving l c a) (passes (state_of ws).fields p l c a)
    T =
        subst (λ (b : Answer). Turned (step model n Q.state c).0 p l k (is_leaving l c b) (passes (state_of ws).fields p l c b)) (sym (step_answer Q.keeps P))
        (subst (λ (s : State model). Turned (step model n Q.state c).0 p l k (is_leaving l c (step model n Q.state c).1) (passes s.fields p l c (step model n Q.state c).1)) (sym (keeps_state Q.keeps))
        (call_turns n Q.state Q.keeps.valid l c p k Q.behind))

    stepped : (j : ℕ) → Behind (step model n Q.state c).0 p l j → Queued n p l new j
    stepped j b = record { state = (step model n Q.state c).0; keeps = step_keeps Q.keeps P; behind = b }

    -- a leaving with nobody ahead; with somebody; another call
    queued_comes : is_leaving l c a ≡ true → k ≡ 0 → StandsIn new p ready
    queued_comes e z = ap {A = State model} (λ s. member p (s.queues ready)) (keeps_state (step_keeps Q.keeps P)) ∙ T.comes e z

    queued_nears : {i : ℕ} → is_leaving l c a ≡ true → k ≡ suc i → Queued n p l new i
    queued_nears {i} e z = stepped i (T.nears e z)

    queued_waits : is_leaving l c a ≡ false → Queued n p l new (k + bit (passes (state_of ws).fields p l c a))
    queued_waits e = stepped _ (T.waits e)

-- ---- over a run

module _ {A : Type 0} (read : A → Answer) {Promised : Call → List ℕ → List ℕ → A → Type 0}
    (promise : (c : Call) (old new : List ℕ) (a : A) → Promised c old new a → Performs c old new (read a)) where
  kept : {c : Call} {old new : List ℕ} {a : A} → Promised c old new a → Performs c old new (read a)
  kept P = promise _ _ _ _ P

  module _ (p l : ℕ) where
    -- none are left of none
    ended : {cs : List Call} {old new : List ℕ} {rs : List A} (R : Run Promised cs old new rs) → to_go read p l R 0 ≡ 0
    ended none = refl
    ended (then P R) = refl

    -- until its turn p queues there, with one fewer ahead than there are leavings to go
    run_queued : {n : Shape} {cs : List Call} {old new : List ℕ} {rs : List A} (k : ℕ) → Queued n p l old k → (R : Run Promised cs old new rs) (j : ℕ) → to_go read p l R (suc k) ≡ suc j → Queued n p l new j
    run_queued {n} {new = new} k Q none j e = subst (Queued n p l new) (let d : k ≡ j = omega arith in d) Q
    run_queued {n} {new = new} k Q (then {c = c} {old = old} {mid = mid} {a = a} P R) j e = go k Q (is_leaving l c (read a)) refl e (λ i Q. run_queued i Q R j)
      where
        go : (k : ℕ) → Queued n p l old k → (b : Bool) → is_leaving l c (read a) ≡ b → to_go read p l R (remaining b (passes (state_of old).fields p l c (read a)) k) ≡ suc j
            → ((i : ℕ) → Queued n p l mid i → to_go read p l R (suc i) ≡ suc j → Queued n p l new j) → Queued n p l new j
        go zero Q true d e ih = let o = ended R in let z : ⊥ = omega arith in absurd z
        go (suc i) Q true d e ih = ih i (queued_nears Q (kept P) d refl) e
        go k Q false d e ih = ih (k + bit (passes (state_of old).fields p l c (read a))) (queued_waits Q (kept P) d) e

    -- as long as nobody passes, each leaving takes one off, and nothing else changes that
    unpassed_to_go : {n : Shape} {cs : List Call} {old new : List ℕ} {rs : List A} (k : ℕ) → Queued n p l old k → (R : Run Promised cs old new rs) → Unpassed read p l R
        → tally (is_leaving l) cs (map read rs) ≤ k → to_go read p l R (suc k) ≡ suc (k - tally (is_leaving l) cs (map read rs))
    unpassed_to_go k Q none U h = omega arith
    unpassed_to_go {n} k Q (then {c = c} {cs = cs} {old = old} {mid = mid} {a = a} {rs = rs} P R) U h = go k Q (is_leaving l c (read a)) refl h (λ i Q. unpassed_to_go i Q R U.1)
      where
        more : ℕ
        more = tally (is_leaving l) cs (map read rs)

        go : (k : ℕ) → Queued n p l old k → (b : Bool) → is_leaving l c (read a) ≡ b → bit b + more ≤ k
            → ((i : ℕ) → Queued n p l mid i → more ≤ i → to_go read p l R (suc i) ≡ suc (i - more))
            → to_go read p l R (remaining b (passes (state_of old).fields p l c (read a)) k) ≡ suc (k - (bit b + more))
        go zero Q true d h ih = let z : ⊥ = omega arith in absurd z
        go (suc i) Q true d h ih = ih i (queued_nears Q (kept P) d refl) (omega arith) ∙ omega arith
        go k Q false d h ih =
            let e : k + bit (passes (state_of old).fields p l c (read a)) ≡ k = rw (U.0 (queued_stands Q)) (omega arith) in
            ap (λ (i : ℕ). to_go read p l R (suc i)) e ∙ ih k (subst (Queued n p l mid) e (queued_waits Q (kept P) d)) (omega arith) ∙ omega arith

  -- who joins has its turn
  module _ (l : ℕ) {c : Call} {cs : List Call} {old mid new : List ℕ} {a : A} {rs : List A} (P : Promised c old mid a) (R : Run Promised cs mid new rs) (i : is_join l c (read a) ≡ true) where
    abbrev p : ℕ
    p = (state_of old).fields running

    abbrev k : ℕ
    k = (read a).ahead

    known : (Sound old → ⊥) → ⊥
    known u = let z : false ≡ true = rw (((kept P).unsound u).0, and-false) at i in false≢true z

    queued : Sound old → Queued (shape_of old) p l mid k
    queued S =
        let t = sym (step_answer (own S) (kept P)) in
        let b = join_behind (shape_of old) (state_of old) S.valid l c (ap {A = Answer} (is_join l c) t ∙ i) in
        record { state = (step model (shape_of old) (state_of old) c).0; keeps = step_keeps (own S) (kept P); behind = (b.0, b.1 ∙ ap {A = Answer} (λ x. x.ahead) t) }

    join_turn : Turn read p l k R
    join_turn = record {
      stands = λ U h. sure known (passed? (member p ((state_of new).queues (lock l)))) (λ S. queued_stands (run_queued p l k (queued S) R _ (unpassed_to_go p l k (queued S) R U h)));
      comes = λ {c} {next} U h C d. sure known (passed? (member p ((state_of next).queues ready)))
          (λ S. queued_comes (run_queued p l k (queued S) R _ (unpassed_to_go p l k (queued S) R U (omega arith))) (kept C) d (omega arith));
      stands_longer = λ o. sure known (passed? (member p ((state_of new).queues (lock l)))) (λ S. queued_stands (run_queued p l k (queued S) R (to_go read p l R (suc k) - 1) (omega arith)));
      comes_later = λ {c} {next} h C d. sure known (passed? (member p ((state_of next).queues ready))) (λ S. queued_comes (run_queued p l k (queued S) R 0 h) (kept C) d refl);
    }

  in_turn : {cs : List Call} {old new : List ℕ} {rs : List A} (R : Run Promised cs old new rs) → InTurn read R
  in_turn none = tt
  in_turn (then P R) = (λ l i. join_turn l P R i, in_turn R)

  pub all_turns : Turns read Promised
  all_turns = record { turn = in_turn }
