-- A log's calls, one after the other: how each return of the code meets the log's definitions, how a run grows at its end, the invariant of the
-- loop, and demand 3 and turns on a log. Assumes nothing.
use Prim.Native.Nat.{ℕ, suc, ◌+◌, ◌-◌, ◌*◌, ◌<◌, ◌≤◌}
use native.Mathlib.Omega.{arith}
use mathlib.Core.Path.{◌≡◌, refl, sym, ap, ◌∙◌, subst}
use mathlib.Core.Bool.{Bool, true, false, true≢false}
use mathlib.Core.List.{List, [], ◌∷◌, ◌++◌, map, append-nil}
use lib.ListN.{length, get_or, take, drop, set, length-append, length-drop}
use lib.Seq.{take-append_seam, drop-cons, append_snoc, set-append_seam, drop-drop}
use Rattle.model.specs.declared.Call.{Call}
use Rattle.model.specs.declared.Answer.{Answer}
use Rattle.model.specs.Machine.{fields_of}
use Rattle.monitor.specs.Calls.{Performs}
use Rattle.model.specs.Run.{Run}
use Rattle.model.specs.Run.Run.{none, then}
use Rattle.runs.specs.History.{Ends}
use Rattle.wire.specs.Wire.{number_of, answer_of}
use Rattle.wire.proofs.Wire.{carries, read_answer}
use Rattle.runs.proofs.History.{run_ends}
use Rattle.runs.proofs.Turns.{all_turns}
use Rattle.runs.proofs.Promises.{performs_fits}
use Rattle.std.specs.Prelude.{Option, Some, None}
use Rattle.std.proofs.lemmas.Option.{none-some}
use Rattle.replay.specs.Replay.{first_of, follow, logged, Served, Replayed, LogDemand3, LogTurns}

-- ---- a run

-- a run grows at its end
pub run_more : {cs : List Call} {c : Call} {old mid new : List ℕ} {rs : List Answer} {a : Answer}
    → Run Performs cs old mid rs → Performs c mid new a → Run Performs (cs ++ (c ∷ [])) old new (rs ++ (a ∷ []))
run_more none P = then P none
run_more (then Q R) P = then Q (run_more R P)

-- a call, an answer
pub run_length : {cs : List Call} {old new : List ℕ} {rs : List Answer} → Run Performs cs old new rs → length cs ≡ length rs
run_length none = refl
run_length (then P R) = ap suc (run_length R)

-- ---- the answers

length_numbers : (rs : List Answer) → length (map number_of rs) ≡ length rs
length_numbers [] = refl
length_numbers (a ∷ rs) = ap suc (length_numbers rs)

numbers_more : (rs : List Answer) (a : Answer) → map number_of (rs ++ (a ∷ [])) ≡ map number_of rs ++ (number_of a ∷ [])
numbers_more [] a = refl
numbers_more (b ∷ rs) a = ap (λ (l : List ℕ). number_of b ∷ l) (numbers_more rs a)

-- one answer more, written after those that are written
stored : (rs : List Answer) (a : Answer) (out : List ℕ) (k : ℕ) → length rs ≡ k → k < length out
    → set (map number_of rs ++ drop k out) k (number_of a) ≡ map number_of (rs ++ (a ∷ [])) ++ drop (k + 1) out
stored rs a out k e h =
    let same : length (map number_of rs) ≡ k = length_numbers rs ∙ e in
    let step : suc k ≡ k + 1 = omega arith in
    ap (λ (l : List ℕ). set (map number_of rs ++ l) k (number_of a)) (drop-cons out k 0 h)
    ∙ ap (λ (j : ℕ). set (map number_of rs ++ get_or out k 0 ∷ drop (suc k) out) j (number_of a)) (sym same)
    ∙ set-append_seam (map number_of rs) (get_or out k 0) (drop (suc k) out) (number_of a)
    ∙ sym (append_snoc (map number_of rs) (number_of a) (drop (suc k) out))
    ∙ ap (λ (l : List ℕ). l ++ drop (suc k) out) (sym (numbers_more rs a))
    ∙ ap (λ (j : ℕ). map number_of (rs ++ (a ∷ [])) ++ drop j out) step

-- ---- a record of the log

-- a call was read, made and answered
pub served : {x : Option Call} {c : Call} {old new out_old out_new : List ℕ} {k w : ℕ} {a : Answer}
    → x ≡ Some c → Performs c old new a → w ≡ number_of a → out_new ≡ set out_old k w → Served x old new out_old out_new k true
served {x} {c} {old} {new} {out_old} {out_new} {k} {w} {a} e P p s = record {
  done = λ d f. let q : c ≡ d = cc in (refl, (a, subst (λ (u : Call). Performs u old new a) q P, s ∙ ap (λ (u : ℕ). set out_old k u) p));
  not_done = λ f. absurd (none-some c (sym f ∙ e));
}

-- a malformed record was read
pub not_served : {x : Option Call} {old out : List ℕ} {k : ℕ} → x ≡ None → Served x old old out out k false
not_served e = record { done = λ d f. absurd (none-some d (sym e ∙ f)); not_done = λ f. (refl, refl, refl) }

-- ---- the loop

-- so many calls are made: the log's calls are those and what its other records say, and the answers stand before what was there
pub record Doing (log old now out_old out_now : List ℕ) (k : ℕ) : Type 0 where
  pub calls : List Call
  pub answers : List Answer
  pub run : Run Performs calls old now answers
  pub many : length answers ≡ k
  pub room : k ≤ length out_old
  pub rest : logged (length out_old) log ≡ calls ++ logged (length out_old - k) (drop (k * 4) log)
  pub written : out_now ≡ map number_of answers ++ drop k out_old

pub doing_start : (log old out : List ℕ) → Doing log old old out out 0
doing_start log old out = record { calls = []; answers = []; run = none; many = refl; room = omega arith; rest = ap (λ (j : ℕ). logged j log) (omega arith); written = refl }

module _ {log old now out_old out_now : List ℕ} {k : ℕ} (D : Doing log old now out_old out_now k) where
  pub doing_long : length out_now ≡ length out_old
  doing_long =
      let w = ap length D.written ∙ length-append (map number_of D.answers) (drop k out_old) in
      let p = length_numbers D.answers in
      let m = D.many in
      let d = length-drop k out_old in
      let r = D.room in
      omega arith

  -- no call is left: those that are made are all
  pub doing_all : logged (length out_old - k) (drop (k * 4) log) ≡ [] → Replayed log old now out_old out_now k
  doing_all e =
      let all : logged (length out_old) log ≡ D.calls = D.rest ∙ ap (λ (l : List Call). D.calls ++ l) e ∙ append-nil D.calls in
      record {
        answers = D.answers;
        run = subst (λ (l : List Call). Run Performs l old now D.answers) (sym all) D.run;
        count = sym (ap length all ∙ run_length D.run ∙ D.many);
        written = D.written;
      }

  -- the room is full
  pub doing_full : length out_now ≤ k → Replayed log old now out_old out_now (length out_now)
  unfolding logged
  doing_full h =
      let l = doing_long in
      let r = D.room in
      let z : length out_old - k ≡ 0 = omega arith in
      let e : k ≡ length out_now = omega arith in
      subst (λ (j : ℕ). Replayed log old now out_old out_now j) e (doing_all (ap (λ (j : ℕ). logged j (drop (k * 4) log)) z))

  logged_next : k < length out_now → logged (length out_old - k) (drop (k * 4) log) ≡ follow (first_of (drop (k * 4) log)) (logged (length out_old - (k + 1)) (drop ((k + 1) * 4) log))
  unfolding logged
  logged_next h =
      let l = doing_long in
      let z : length out_old - k ≡ suc (length out_old - (k + 1)) = omega arith in
      let y : k * 4 + 4 ≡ (k + 1) * 4 = omega arith in
      ap (λ (j : ℕ). logged j (drop (k * 4) log)) z
      ∙ ap (λ (l : List ℕ). follow (first_of (drop (k * 4) log)) (logged (length out_old - (k + 1)) l)) (drop-drop 4 (k * 4) log ∙ ap (λ (j : ℕ). drop j log) y)

  module _ {new out_new : List ℕ} {r : Bool} (h : k < length out_now) (S : Served (first_of (drop (k * 4) log)) now new out_now out_new k r) where
    -- a record was made: one call more
    pub doing_next : r ≡ true → Doing log old new out_old out_new (k + 1)
    doing_next t = go (first_of (drop (k * 4) log)) refl
      where
        go : (x : Option Call) → first_of (drop (k * 4) log) ≡ x → Doing log old new out_old out_new (k + 1)
        go None e = absurd (true≢false (sym t ∙ (S.not_done e).0))
        go (Some c) e =
            let d = (S.done c e).1 in
            let l = doing_long in
            let m = D.many in
            record {
              calls = D.calls ++ (c ∷ []);
              answers = D.answers ++ (d.0 ∷ []);
              run = run_more D.run d.1;
              many = length-append D.answers (d.0 ∷ []) ∙ omega arith;
              room = omega arith;
              rest = D.rest ∙ ap (λ (u : List Call). D.calls ++ u) (logged_next h ∙ ap (λ (x : Option Call). follow x (logged (length out_old - (k + 1)) (drop ((k + 1) * 4) log))) e)
                  ∙ sym (append_snoc D.calls c (logged (length out_old - (k + 1)) (drop ((k + 1) * 4) log)));
              written = d.2 ∙ ap (λ (u : List ℕ). set u k (number_of d.0)) D.written ∙ stored D.answers d.0 out_old k m (omega arith);
            }

    -- the record is malformed: the log's calls are made
    pub doing_stop : r ≡ false → Replayed log old new out_old out_new k
    doing_stop t = go (first_of (drop (k * 4) log)) refl
      where
        go : (x : Option Call) → first_of (drop (k * 4) log) ≡ x → Replayed log old new out_old out_new k
        go (Some c) e = absurd (true≢false (sym (S.done c e).0 ∙ t))
        go None e =
            let n = S.not_done e in
            subst (λ (u : List ℕ). Replayed log old u out_old out_new k) (sym n.1)
            (subst (λ (u : List ℕ). Replayed log old now out_old u k) (sym n.2)
            (doing_all (logged_next h ∙ ap (λ (x : Option Call). follow x (logged (length out_old - (k + 1)) (drop ((k + 1) * 4) log))) e)))

-- ---- demand 3

-- the answers come back out of their numbers
run_read : {cs : List Call} {old new : List ℕ} {rs : List Answer} → Run Performs cs old new rs → rs ≡ map answer_of (map number_of rs)
run_read none = refl
run_read (then {a = a} P R) = λ i. read_answer (carries 10 (fields_of a) refl (performs_fits P)) i ∷ run_read R i

-- they stand at the front of what is written
front : {log old new out out_new : List ℕ} {r : ℕ} (R : Replayed log old new out out_new r) → R.answers ≡ map answer_of (take r out_new)
front {out = out} {out_new = out_new} {r = r} R =
    let many : length (map number_of R.answers) ≡ r = length_numbers R.answers ∙ sym (run_length R.run) ∙ sym R.count in
    run_read R.run
    ∙ ap (map answer_of)
    (sym (ap (take r) R.written ∙ ap (λ (k : ℕ). take k (map number_of R.answers ++ drop r out)) (sym many)
    ∙ take-append_seam (map number_of R.answers) (drop r out)))

pub log_demand3 : LogDemand3
log_demand3 = record {
  ends = λ {n} {bytes} {old} {begun} {new} {log} {old_answers = out} {new_answers} {a} S z R. subst (λ (l : List Answer). Ends n bytes a (logged (length out) log) l new) (front R) (run_ends S z R.run);
}

-- ---- turns

pub log_turns : LogTurns
log_turns = record { written = front; turn = λ R. (all_turns (λ (a : Answer). a) (λ c old new a P. P)).turn R.run }
