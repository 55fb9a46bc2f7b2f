-- Laws of what a row says of the queue of a kind and a number, and of rows one behind the other. Assumes nothing.
use Prim.Native.Nat.{ℕ, zero, suc, ◌+◌, ◌-◌, ◌*◌, ◌<◌}
use native.Mathlib.Omega.{arith}
use native.Mathlib.Nat.{zero-add}
use native.Mathlib.Numerals.{add-one}
use mathlib.Core.Path.{◌≡◌, refl, sym, ◌∙◌}
use mathlib.Core.Logic.{◌≢◌}
use mathlib.Core.Bool.{true, false≢true}
use mathlib.Core.List.{List}
use lib.ListN.{length, length-append}
use borrow.Author.Tests.{eqb-true}
use Rattle.model.specs.declared.Shape.{Shape}
use Rattle.model.specs.Queue.{Queue, number_of, queue_by, is_queue}
use Rattle.model.specs.Queue.Queue.{ready, park, lock, condition}
use Rattle.model.specs.Field.Field.{holder, wakeup}
use Rattle.model.specs.Machine.{State, model}
use Rattle.model.proofs.Reports.{reports_whole}
use Rattle.rows.specs.Printed.{Written}
use Rattle.rows.proofs.Written.{written_then}
use Rattle.rows.proofs.Numbers.{printed_length}
use Rattle.sheet.specs.Sheet.{Area, Shows, holder_of, wakeup_of, row_of, row, rows, page, Sheets, Rows}

-- ---- the queue of a kind and a number

module _ (s : State model) where
  pub lock_holder : (kind i : ℕ) → kind ≡ 2 → s.fields (holder i) ≡ holder_of s (queue_by kind i)
  lock_holder kind i e = rw e

  pub condition_wakeup : (kind i : ℕ) → kind ≡ 3 → s.fields (wakeup i) ≡ wakeup_of s (queue_by kind i)
  condition_wakeup kind i e = rw e

  -- no other queue has a holder
  pub no_holder : (kind i : ℕ) → kind ≢ 2 → ◌≡◌ {A = ℕ} 0 (holder_of s (queue_by kind i))
  no_holder zero i h = refl
  no_holder (suc zero) i h = refl
  no_holder (suc (suc zero)) i h = absurd (h refl)
  no_holder (suc (suc (suc k))) i h = refl

  -- no other queue has a wakeup; there is no kind above 3
  pub no_wakeup : (n : Shape) (kind i : ℕ) → kind ≢ 3 → is_queue n kind i ≡ true → ◌≡◌ {A = ℕ} 0 (wakeup_of s (queue_by kind i))
  no_wakeup n zero i h t = refl
  no_wakeup n (suc zero) i h t = refl
  no_wakeup n (suc (suc zero)) i h t = refl
  no_wakeup n (suc (suc (suc zero))) i h t = absurd (h refl)
  no_wakeup n (suc (suc (suc (suc k)))) i h t = absurd (false≢true t)

-- its number; ready has the number 0
pub number_said : (n : Shape) (kind i : ℕ) → is_queue n kind i ≡ true → i ≡ number_of (queue_by kind i)
number_said n zero i t = eqb-true i 0 t
number_said n (suc zero) i t = refl
number_said n (suc (suc zero)) i t = refl
number_said n (suc (suc (suc zero))) i t = refl
number_said n (suc (suc (suc (suc k)))) i t = absurd (false≢true t)

-- ---- rows

-- m rows have 29 bytes each
rows_length : (s : State model) (queue : ℕ → Queue) (m : ℕ) → length (rows s queue m) ≡ 29 * m
rows_length s queue zero = refl
rows_length s queue (suc m) = length-append (rows s queue m) (row s (queue (suc m))) ∙ rw (rows_length s queue m, printed_length (row_of s (queue (suc m)))) (omega arith)

module _ {a : Area} {queue : ℕ → Queue} {at : ℕ} {old : List ℕ} where
  -- one row more
  pub rows_on : {m next : ℕ} {mid new : List ℕ} → Rows a queue m at old mid next
      → ((s : State model) → Shows a s → Written next (row s (queue (m + 1))) mid new) → Rows a queue (m + 1) at old new (next + 29)
  rows_on {m} R w = record {
    next = omega (arith, R.next);
    written = λ s H. rw (add-one m) (written_then (rw (rows_length s queue m) R.next) (R.written s H) (rw (add-one m) at (w s H)));
  }

  -- after those below a number, its own
  pub rows_next : {number next : ℕ} {mid new : List ℕ} → 0 < number → Rows a queue (number - 1) at old mid next
      → ((s : State model) → Shows a s → Written next (row s (queue number)) mid new) → Rows a queue number at old new (next + 29)
  rows_next {number} {new = new} h R w = let e : number - 1 + 1 ≡ number = omega arith in rw e at (rows_on {new = new} R (λ s H. rw e (w s H)))

-- ---- the page

-- as many bytes as 29 for each queue
pub page_length : (n : Shape) (s : State model) → length (page n s) ≡ 29 * (1 + n.parks + n.locks + n.conditions)
unfolding page
page_length n s =
    let p = rows_length s park n.parks in
    let l = rows_length s lock n.locks in
    let c = rows_length s condition n.conditions in
    simp (length-append, printed_length (row_of s ready), p, l, c) (omega arith)

-- ready's row, then those of parks, locks and conditions
pub page_written : {a : Area} (s : State model) {old one two three new : List ℕ} {parks locks end : ℕ} → Shows a s
    → Written 0 (row s ready) old one → Rows a park a.shape.parks 29 one two parks → Rows a lock a.shape.locks parks two three locks → Rows a condition a.shape.conditions locks three new end
    → Written 0 (page a.shape s) old new
unfolding page
page_written {a} s H r p l c =
    let h = printed_length (row_of s ready) in
    let i = rows_length s park a.shape.parks in
    let j = rows_length s lock a.shape.locks in
    written_then (omega arith) r (written_then (omega (arith, p.next)) (p.written s H) (written_then (omega (arith, l.next)) (l.written s H) (c.written s H)))

-- the page, told with its bytes as the count
pub page_told : (n : Shape) (s : State model) {k : ℕ} {old new : List ℕ} → k ≡ 29 * (1 + n.parks + n.locks + n.conditions) → Written 0 (page n s) old new → Sheets n s old new record { code = 0; count = k }
page_told n s e w = let z = zero-add (length (page n s)) in reports_whole (e ∙ sym (page_length n s)) (rw z at w.room) (rw z at w.bytes)
