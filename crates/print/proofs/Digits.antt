-- Laws on digits written from the last to the first, and on rows put one behind the other. Assumes nothing.
use Prim.Native.Nat.{ℕ, zero, suc, ◌+◌, ◌-◌, ◌/◌, ◌%◌, ◌≤◌, ◌<◌}
use borrow.Rule.Slice.PartMut.{mid_of, put_mid, mid_len, same_len_mid}
use mathlib.Core.Path.{◌≡◌, refl, sym, ap, ◌∙◌}
use mathlib.Core.List.{List, [], ◌∷◌, ◌++◌, append_assoc, append-nil}
use native.Mathlib.Omega.{arith}
use native.Mathlib.Numerals.{add-one}
use native.Mathlib.Nat.{add-sub_cancel_left}
use lib.ListN.{length, get_or, take, drop, set, drop_of_length-le, length-append}
use lib.Seq.{length-take-le, lt-length-set, drop-cons, get_or-set_same, drop-set-lt, take_at, take-suc-set}
use Rattle.print.specs.Print.{digits, width, field}

-- before the first: all digits are to come
pub digits_start : (l : List ℕ) (n : ℕ) → digits (length l) n ++ drop (length l) l ≡ digits (length l) n
digits_start l n = rw (drop_of_length-le l {i = length l} (omega arith), append-nil)

-- one digit more at the place before i
pub digits_on : (l : List ℕ) (i m : ℕ) {ds : List ℕ} → 0 < i → i ≤ length l → digits i m ++ drop i l ≡ ds → digits (i - 1) (m / 10) ++ drop (i - 1) (set l (i - 1) (48 + m % 10)) ≡ ds
digits_on l i m a h e =
    ap (λ (r : List ℕ). digits (i - 1) (m / 10) ++ r) behind ∙ sym (append_assoc (digits (i - 1) (m / 10)) ((48 + m % 10) ∷ []) (drop (suc (i - 1)) l)) ∙ ap (λ (j : ℕ). digits j m ++ drop j l) step ∙ e
  where
    step : suc (i - 1) ≡ i
    step = omega arith

    behind : drop (i - 1) (set l (i - 1) (48 + m % 10)) ≡ (48 + m % 10) ∷ drop (suc (i - 1)) l
    behind = rw (drop-cons (set l (i - 1) (48 + m % 10)) (i - 1) 0 (lt-length-set l (i - 1) (48 + m % 10) (omega arith)), get_or-set_same l (i - 1) (48 + m % 10) 0 (omega arith), drop-set-lt (suc (i - 1)) l (i - 1) (48 + m % 10) (omega arith))

-- after the last
pub digits_end : (l : List ℕ) (i m : ℕ) {ds : List ℕ} → i ≡ 0 → digits i m ++ drop i l ≡ ds → l ≡ ds
digits_end l i m q e = ap (λ (j : ℕ). digits j m ++ drop j l) (sym q) ∙ e

digits_length : (k n : ℕ) → length (digits k n) ≡ k
digits_length zero n = refl
digits_length (suc k) n = length-append (digits k (n / 10)) ((48 + n % 10) ∷ []) ∙ rw (digits_length k (n / 10)) (add-one k)

-- all digits in the place of a part, and the byte after them
pub field_put : (old part : List ℕ) (at k n b : ℕ) → k ≡ width n → at + k < length old → part ≡ digits (length (mid_of at (at + k - at) old)) n →
    take (at + k + 1) (set (put_mid at (at + k - at) old part) (at + k) b) ≡ take at old ++ field n b
field_put old part at k n b q h e =
    rw (add-one, take-suc-set mid (at + k) b room, front)
    (append_assoc (take at old) (digits k n) (b ∷ []) ∙ ap (λ (x : ℕ). take at old ++ (digits x n ++ (b ∷ []))) q)
  where
    mid : List ℕ
    mid = put_mid at (at + k - at) old part

    rest : List ℕ
    rest = drop (at + k - at) (drop at old)

    all : part ≡ digits k n
    all = e ∙ ap (λ (j : ℕ). digits j n) (mid_len at (at + k) old (omega arith) ∙ add-sub_cancel_left at k)

    room : at + k < length mid
    room = rw (same_len_mid at (at + k - at) old part (rw e (digits_length (length (mid_of at (at + k - at) old)) n))) h

    front : take (at + k) mid ≡ take at old ++ digits k n
    front =
        ap (λ (l : List ℕ). take (at + k) (put_mid at (at + k - at) old l)) all ∙ ap (take (at + k)) (sym (append_assoc (take at old) (digits k n) rest))
        ∙ take_at (take at old ++ digits k n) rest (at + k) (rw (length-append, length-take-le at old (omega arith), digits_length k n) refl)

-- fields one behind the other, each a number and the byte after it
abbrev pub fields : List (ℕ × ℕ) → List ℕ
fields [] = []
fields (p ∷ ps) = field p.0 p.1 ++ fields ps

-- one field more
pub fields_on : (ps : List (ℕ × ℕ)) (i : ℕ) (front : List ℕ) {new all : List ℕ} → i < length ps → new ≡ front ++ field (get_or ps i (0, 0)).0 (get_or ps i (0, 0)).1
    → front ++ fields (drop i ps) ≡ all → new ++ fields (drop (i + 1) ps) ≡ all
fields_on ps i front h put e =
    let p = get_or ps i (0, 0) in
    rw (put, add-one i) (append_assoc front (field p.0 p.1) (fields (drop (suc i) ps)) ∙ ap (λ (l : List ℕ). front ++ l) (sym (ap fields (drop-cons ps i (0, 0) h))) ∙ e)
