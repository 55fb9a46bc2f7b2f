-- Laws of a number in its columns: how long it is, its digits written from the last to the first, and a row that is blank from some column on.
-- Assumes nothing.
use Prim.Native.Nat.{ℕ, zero, suc, ◌+◌, ◌-◌, ◌/◌, ◌%◌, ◌≤◌, ◌<◌}
use native.Mathlib.Omega.{arith}
use native.Mathlib.Nat.{add-zero, add-sub_cancel_left, sub_self, mod-eq_of_lt}
use native.Mathlib.Numerals.{add-one}
use mathlib.Core.Path.{◌≡◌, refl, sym, ap, subst, ◌∙◌}
use mathlib.Core.Bool.{Bool, true, false, cond}
use mathlib.Core.List.{List, [], ◌∷◌, ◌++◌, append_assoc, append-nil}
use lib.Dec.{ltb}
use lib.ListN.{length, take, drop, set, length-append, length-replicate, replicate-append-replicate}
use lib.Seq.{take-take, drop-drop}
use borrow.Author.Tests.{lt-ltb, le-ltb}
use Rattle.std.proofs.lemmas.List.{take-replicate}
use Rattle.rows.specs.declared.Row.{Row}
use Rattle.rows.specs.Printed.{spaces, aligned, name, label, printed, Written}
use Rattle.rows.proofs.Written.{written_none, written_one, written_same, written_long, written_before, written_then, written_over, written_there}

-- ---- lengths

pub spaces_length : (k : ℕ) → length (spaces k) ≡ k
spaces_length k = length-replicate k 32

-- a number takes its columns
pub aligned_length : (k m : ℕ) → length (aligned k m) ≡ k
unfolding aligned
aligned_length zero m = refl
aligned_length (suc k) m = length-append (cond (ltb m 10) (spaces k) (aligned k (m / 10))) ((48 + m % 10) ∷ []) ∙ rw (go (ltb m 10) (aligned_length k (m / 10))) (add-one k)
  where
    go : (b : Bool) → length (aligned k (m / 10)) ≡ k → length (cond b (spaces k) (aligned k (m / 10))) ≡ k
    go true ih = spaces_length k
    go false ih = ih

pub name_length : (kind : ℕ) → length (name kind) ≡ 2
name_length zero = refl
name_length (suc zero) = refl
name_length (suc (suc zero)) = refl
name_length (suc (suc (suc k))) = refl

-- a row has 29 bytes
pub printed_length : (r : Row) → length (printed r) ≡ 29
unfolding printed
printed_length r = simp (length-append, name_length, aligned_length)

-- ---- digits, from the last to the first

-- of m in k columns, those before i are still those of `rest`, and those behind it stand on the page
pub record Partly (k m at i rest : ℕ) (old new : List ℕ) : Type 0 where
  pub done : List ℕ
  pub whole : aligned k m ≡ aligned (i - at) rest ++ done
  pub written : Written i done old new
  pub ends : i + length done ≡ at + k

-- before the last digit
pub partly_start : (k m at : ℕ) (old : List ℕ) → at + k ≤ length old → Partly k m at (at + k) m old old
partly_start k m at old h = record {
  done = [];
  whole = rw (add-sub_cancel_left at k, append-nil);
  written = written_none (at + k) old h;
  ends = add-zero (at + k);
}

module _ {k m at i rest : ℕ} {old new : List ℕ} (p : Partly k m at i rest old new) (a : at < i) where
  -- the digit before i stands there too
  digit : Written (i - 1) ((48 + rest % 10) ∷ p.done) old (set new (i - 1) (48 + rest % 10))
  digit = written_before i (48 + rest % 10) p.done (omega arith) p.written

  split : aligned k m ≡ cond (ltb rest 10) (spaces (i - 1 - at)) (aligned (i - 1 - at) (rest / 10)) ++ ((48 + rest % 10) ∷ p.done)
  unfolding aligned
  split = p.whole ∙ ap (λ (j : ℕ). aligned j rest ++ p.done) step ∙ append_assoc (cond (ltb rest 10) (spaces (i - 1 - at)) (aligned (i - 1 - at) (rest / 10))) ((48 + rest % 10) ∷ []) p.done
    where
      step : i - at ≡ suc (i - 1 - at)
      step = omega arith

  -- there are more
  pub partly_on : 10 ≤ rest → Partly k m at (i - 1) (rest / 10) old (set new (i - 1) (48 + rest % 10))
  partly_on h = record { done = (48 + rest % 10) ∷ p.done; whole = rw (le-ltb rest 10 h) at split; written = digit; ends = let e = p.ends in omega arith }

  -- it was the first, and before it the columns are blank
  pub partly_last : rest < 10 → take k (drop at old) ≡ spaces k → Written at (aligned k m) old (set new (i - 1) (48 + rest))
  partly_last h blank = rw (← (mod-eq_of_lt h)) (rw (rw (lt-ltb rest 10 h) at split) (written_then (let l = spaces_length (i - 1 - at) in omega arith) (written_same at (spaces (i - 1 - at)) old room there) digit))
    where
      room : at + length (spaces (i - 1 - at)) ≤ length old
      room = rw (spaces_length (i - 1 - at)) (let r = p.written.room in omega arith)

      less : take (i - 1 - at) (take k (drop at old)) ≡ spaces (i - 1 - at)
      less = rw blank (take-replicate (i - 1 - at) k 32 (let e = p.ends in omega arith))

      there : take (length (spaces (i - 1 - at))) (drop at old) ≡ spaces (i - 1 - at)
      there = rw (spaces_length (i - 1 - at)) (sym (take-take (i - 1 - at) k (drop at old) (let e = p.ends in omega arith)) ∙ less)

-- the columns are full
pub partly_end : {k m at i rest : ℕ} {old new : List ℕ} → i ≡ at → Partly k m at i rest old new → Written at (aligned k m) old new
unfolding aligned
partly_end {k} {m} {at} {i} {rest} {old} {new} e p = subst (λ (xs : List ℕ). Written at xs old new) (sym all) (subst (λ (j : ℕ). Written j p.done old new) e p.written)
  where
    all : aligned k m ≡ p.done
    all = p.whole ∙ rw (e, sub_self at)

-- ---- a row that is blank from some column on

-- j columns are done, and r are blank behind them
pub record Begun (at j r : ℕ) (done old new : List ℕ) : Type 0 where
  pub long : length done ≡ j
  pub written : Written at (done ++ spaces r) old new

module _ (k r : ℕ) {at j : ℕ} {done old mid : List ℕ} (b : Begun at j (suc k + r) done old mid) where
  parts : done ++ spaces (suc k + r) ≡ (done ++ (32 ∷ [])) ++ (spaces k ++ spaces r)
  parts = ap (λ (l : List ℕ). done ++ l) (sym (replicate-append-replicate (suc k) r 32)) ∙ sym (append_assoc done (32 ∷ []) (spaces k ++ spaces r))

  spread : Written at ((done ++ (32 ∷ [])) ++ (spaces k ++ spaces r)) old mid
  spread = rw parts at b.written

  next : at + length (done ++ (32 ∷ [])) ≡ at + (j + 1)
  next = rw (length-append, b.long)

  -- behind a space there are blank columns
  blank : take k (drop (at + (j + 1)) mid) ≡ spaces k
  blank = sym (λ i. take (spaces_length k i) (drop (next i) mid)) ∙ written_there at (done ++ (32 ∷ [])) (spaces k) (spaces r) [] spread

  -- in which a number is written
  pub begun_on : (m : ℕ) {new : List ℕ} → (take k (drop (at + (j + 1)) mid) ≡ spaces k → Written (at + (j + 1)) (aligned k m) mid new) → Begun at (j + suc k) r (done ++ (32 ∷ aligned k m)) old new
  begun_on m {new} put = record {
    long = rw (length-append, b.long, aligned_length k m);
    written = subst (λ (l : List ℕ). Written at l old new) same (written_over at (done ++ (32 ∷ [])) (spaces k) (spaces r) (aligned k m) spread (aligned_length k m ∙ sym (spaces_length k)) (subst (λ (i : ℕ). Written i (aligned k m) mid new) (sym next) (put blank)));
  }
    where
      same : (done ++ (32 ∷ [])) ++ (aligned k m ++ spaces r) ≡ (done ++ (32 ∷ aligned k m)) ++ spaces r
      same = append_assoc done (32 ∷ []) (aligned k m ++ spaces r) ∙ sym (append_assoc done (32 ∷ aligned k m) (spaces r))

-- a name over the first two of 28 spaces
pub begun_name : (at kind : ℕ) {old mid new : List ℕ} → Written at (spaces 28) old mid → new ≡ take at mid ++ (name kind ++ drop 2 (drop at mid)) → Begun at 2 26 (name kind) old new
begun_name at kind {old} {mid} {new} w e = record {
  long = name_length kind;
  written = written_over at [] (spaces 2) (spaces 26) (name kind) w (name_length kind) over;
}
  where
    over : Written (at + 0) (name kind) mid new
    over = rw (add-zero at) record {
      room = rw (name_length kind) (omega (arith, written_long w, w.room));
      bytes = rw (name_length kind, ← (drop-drop 2 at mid)) e;
    }

-- a row's name and number
pub labelled : (kind number : ℕ) {at : ℕ} {old new : List ℕ} → Written at (label kind number ++ spaces 22) old new → Begun at 6 22 (label kind number) old new
labelled kind number w = record { long = rw (length-append, name_length kind, aligned_length 3 number); written = w }

-- a name and six columns, one behind the other
six : (n a b c d e f z : List ℕ) → ((((((n ++ a) ++ b) ++ c) ++ d) ++ e) ++ f) ++ z ≡ n ++ (a ++ (b ++ (c ++ (d ++ (e ++ (f ++ z))))))
six n a b c d e f z = simp append_assoc

-- the newline behind all columns
pub begun_end : (r : Row) {at : ℕ} {old mid : List ℕ}
    → Begun at 28 0 (((((label r.kind r.number ++ (32 ∷ aligned 4 r.count)) ++ (32 ∷ aligned 4 r.first)) ++ (32 ∷ aligned 4 r.last)) ++ (32 ∷ aligned 4 r.holder)) ++ (32 ∷ aligned 1 r.wakeup)) old mid
    → at + 29 ≤ length old → Written at (printed r) old (set mid (at + 28) 10)
unfolding printed
begun_end r {at} {old} {mid} b h =
    let w = rw append-nil at b.written in
    subst (λ (l : List ℕ). Written at l old (set mid (at + 28) 10))
    (six (name r.kind) (32 ∷ aligned 3 r.number) (32 ∷ aligned 4 r.count) (32 ∷ aligned 4 r.first) (32 ∷ aligned 4 r.last) (32 ∷ aligned 4 r.holder) (32 ∷ aligned 1 r.wakeup) (10 ∷ []))
    (written_then (ap (λ (j : ℕ). at + j) (sym b.long)) w (written_one (at + 28) 10 mid (omega (arith, written_long w))))
