-- What a call comes to, by its tests: a refusal leaves the area, and an accepted call makes its changes and moves and then dispatches.
-- Assumes nothing.
use Prim.Native.Nat.{ℕ}
use Rattle.std.specs.Prelude.{Result, Ok, Err, IsErrAnd}
use native.Mathlib.Omega.{arith}
use mathlib.Core.Path.{◌≡◌, refl, sym, ap, ◌∙◌}
use mathlib.Core.Logic.{◌≢◌}
use mathlib.Core.Bool.{Bool, true, false, not, ◌||◌, cond, true≢false}
use mathlib.Core.List.{List}
use lib.Dec.{eqb}
use Rattle.model.specs.declared.Shape.{Shape}
use Rattle.model.specs.declared.Call.{Call}
use Rattle.model.specs.declared.Answer.{Answer}
use Rattle.model.specs.Queue.{Note, outside, inside, to_ready}
use Rattle.model.specs.Queue.Queue.{ready}
use Rattle.model.specs.Field.{Fields, priorities}
use Rattle.model.specs.Rules.{Effect, when, choose, decide}
use Rattle.model.specs.Rules.Effect.{refuse, accept}
use Rattle.model.specs.declared.Refusal.{Refusal}
use Rattle.model.specs.declared.Refusal.TheVariants.{Unsound, BadCount, BadList, BadPriority, Short, Nobody, NoSuch, Held, NotHeld, NotThere}
use Rattle.model.specs.Refusals.{code_of, answer_in}
use Rattle.model.specs.Machine.{State, model, moves, arrivals, ahead, finish, step, refusal}
use Rattle.model.proofs.Tests.{eqb_yes, eqb_no, not_true, or_split}
use Rattle.model.proofs.Places.{ahead_ready}
use Rattle.area.specs.Holds.{Holds, Becomes, Gives}
use Rattle.area.proofs.Puts.{becomes_none, becomes_then}
use Rattle.area.specs.Calls.{Does, Missing, Calling, CallingTwo, changed}

-- ---- tests

pub when_yes : {b : Bool} (k : ℕ) (e : Effect) → b ≡ true → when b k e ≡ refuse k
unfolding when
when_yes k e h = rw h

pub when_no : {b : Bool} (k : ℕ) (e : Effect) → b ≡ false → when b k e ≡ e
unfolding when
when_no k e h = rw h

pub choose_yes : {b : Bool} (d e : Effect) → b ≡ true → choose b d e ≡ d
unfolding choose
choose_yes d e h = rw h

pub choose_no : {b : Bool} (d e : Effect) → b ≡ false → choose b d e ≡ e
unfolding choose
choose_no d e h = rw h

-- ---- codes that several calls share

-- a refusal's code is not 0
pub refusing : (why : Refusal) → code_of why ≢ 0
refusing Unsound = omega arith
refusing BadCount = omega arith
refusing BadList = omega arith
refusing BadPriority = omega arith
refusing Short = omega arith
refusing Nobody = omega arith
refusing NoSuch = omega arith
refusing Held = omega arith
refusing NotHeld = omega arith
refusing NotThere = omega arith

-- what is told of a call that passes a refusal on by `?`
pub passed_on : (r : Result Answer Refusal) (why : Refusal) → IsErrAnd r (λ x. x ≡ why) → answer_in r ≡ refusal (code_of why)
passed_on (Ok a) why h = absurd h
passed_on (Err x) why h = ap {A = Refusal} (λ y. refusal (code_of y)) h

-- tests that give the code k: where it is not 0 they refuse by it, and where it is 0 they let the rule go on
pub record Tested (k : ℕ) (tests : Effect → Effect) : Type 0 where
  pub refused : k ≢ 0 → (e : Effect) → tests e ≡ refuse k
  pub passed : k ≡ 0 → (e : Effect) → tests e ≡ e

-- one test, and one more before others
one_test : (b : Bool) (c : ℕ) {k : ℕ} → c ≢ 0 → k ≡ cond b c 0 → Tested k (when b c)
unfolding when
one_test true c z q = record { refused = λ h e. ap refuse (sym q); passed = λ h e. absurd (z (sym q ∙ h)) }
one_test false c z q = record { refused = λ h e. absurd (h q); passed = λ h e. refl }

test_before : (b : Bool) (c : ℕ) {k j : ℕ} {tests : Effect → Effect} → c ≢ 0 → k ≡ cond b c j → Tested j tests → Tested k (λ e. when b c (tests e))
unfolding when
test_before true c z q T = record { refused = λ h e. ap refuse (sym q); passed = λ h e. absurd (z (sym q ∙ h)) }
test_before false c z q T = rw q record { refused = λ h e. T.refused h e; passed = λ h e. T.passed h e }

-- a test that was passed
past : (b : Bool) {c k j : ℕ} → c ≢ 0 → k ≡ cond b c j → k ≡ 0 → (b ≡ false) × (j ≡ 0)
past true z q h = absurd (z (sym q ∙ h))
past false z q h = (refl, sym q ∙ h)

module _ {k n i : ℕ} (q : Missing n i k) where
  pub missing_tested : Tested k (when (outside n i) 7)
  missing_tested = one_test (outside n i) 7 (omega arith) q.code

  pub missing_there : k ≡ 0 → inside n i ≡ true
  missing_there z = ap not (past (outside n i) (omega arith) q.code z).0

module _ {k r n i : ℕ} (q : Calling r n i k) where
  pub calling_tested : Tested k (λ e. when (eqb r 0) 6 (when (outside n i) 7 e))
  calling_tested = test_before (eqb r 0) 6 (omega arith) q.code (one_test (outside n i) 7 (omega arith) refl)

  pub calling_runs : k ≡ 0 → r ≢ 0
  calling_runs z e = true≢false (sym (eqb_yes r 0 e) ∙ (past (eqb r 0) (omega arith) q.code z).0)

  pub calling_there : k ≡ 0 → inside n i ≡ true
  calling_there z = missing_there {n = n} {i = i} record { code = refl } (past (eqb r 0) (omega arith) q.code z).1

module _ {k r n i m j : ℕ} (q : CallingTwo r n i m j k) where
  pub two_tested : Tested k (λ e. when (eqb r 0) 6 (when (outside n i || outside m j) 7 e))
  two_tested = test_before (eqb r 0) 6 (omega arith) q.code (one_test (outside n i || outside m j) 7 (omega arith) refl)

  pub two_runs : k ≡ 0 → r ≢ 0
  two_runs z e = true≢false (sym (eqb_yes r 0 e) ∙ (past (eqb r 0) (omega arith) q.code z).0)

  neither : k ≡ 0 → outside n i || outside m j ≡ false
  neither z = (past (outside n i || outside m j) (omega arith) refl (past (eqb r 0) (omega arith) q.code z).1).0

  pub two_first : k ≡ 0 → inside n i ≡ true
  two_first z = ap not (or_split (outside n i) (outside m j) (neither z)).0

  pub two_second : k ≡ 0 → inside m j ≡ true
  two_second z = ap not (or_split (outside n i) (outside m j) (neither z)).1

  -- of the first alone
  pub two_calling : k ≡ 0 → Calling r n i k
  two_calling z = record { code = z ∙ sym (rw (eqb_no r 0 (two_runs z), (or_split (outside n i) (outside m j) (neither z)).0)) }

-- which of the two numbers it is
pub two_by_first : {r n i k : ℕ} → Calling r n i k → (m j : ℕ) → k ≢ 0 → CallingTwo r n i m j k
two_by_first {r} {n} {i} {k} q m j z = record { code = go (eqb r 0) (outside n i) q.code }
  where
    go : (b o : Bool) → k ≡ cond b 6 (cond o 7 0) → k ≡ cond b 6 (cond (o || outside m j) 7 0)
    go true o e = e
    go false true e = e
    go false false e = absurd (z e)

pub two_by_second : {r n i m j k h : ℕ} → Calling r n i h → Missing m j k → h ≡ 0 → CallingTwo r n i m j k
two_by_second {r} {n} {i} {m} {j} q p z =
    let a = calling_there q z in
    let b = calling_runs q z in
    record { code = rw (eqb_no r 0 b, not_true (outside n i) a) p.code }

-- ---- outcomes

module _ {n : Shape} {old : List ℕ} {s : State model} (H : Holds n old s) (c : Call) where
  -- the rule refuses, and the area is as it was
  pub refuses : {a : Answer} (k : ℕ) → decide n s.fields s.queues c ≡ refuse k → a ≡ refusal k → Does c n old old s a
  unfolding step
  refuses {a} k d e = rw d record { answer = e; becomes = becomes_none H }

  -- so it does by the code of its tests
  pub refuses_by : {a : Answer} {k : ℕ} {tests : Effect → Effect} (e : Effect) → decide n s.fields s.queues c ≡ tests e → Tested k tests → k ≢ 0 → a ≡ refusal k → Does c n old old s a
  refuses_by {k = k} e d T z = refuses k (d ∙ T.refused z e)

  -- the rule accepts: its fields and moves are made, and then dispatch
  pub accepts : {mid new : List ℕ} {a : Answer} (f : Fields) (ms : List Note) (k came others : ℕ) → decide n s.fields s.queues c ≡ accept f ms k
      → came ≡ arrivals (s.queues ready) ms → others ≡ ahead (changed f ms s).queues ms → Becomes n old mid (changed f ms s)
      → Gives n mid new a (finish model f (moves model (priorities f) s.queues ms) k came others) → Does c n old new s a
  unfolding step
  accepts f ms k came others d e h b g = rw (d, ← e, ← h) record { answer = g.answer; becomes = becomes_then b g.becomes }

  -- so it does where all moves are to ready: then nobody is told how many are ahead
  pub accepts_ready : {mid new : List ℕ} {a : Answer} (f : Fields) (xs : List ℕ) (k came : ℕ) → decide n s.fields s.queues c ≡ accept f (to_ready xs) k
      → came ≡ arrivals (s.queues ready) (to_ready xs) → Becomes n old mid (changed f (to_ready xs) s)
      → Gives n mid new a (finish model f (moves model (priorities f) s.queues (to_ready xs)) k came 0) → Does c n old new s a
  accepts_ready f xs k came d e = accepts f (to_ready xs) k came 0 d e (sym (ahead_ready (changed f (to_ready xs) s).queues xs))
