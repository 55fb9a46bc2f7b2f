-- The way of a walker along a ring. From a process on it is all but the last of those from there on, since the tail is the last of the ring and stands in it once. Assumes nothing.
use mathlib.Core.Path.{◌≡◌, refl, sym, ap, ◌∙◌, subst}
use mathlib.Core.Logic.{◌≢◌}
use mathlib.Core.List.{List, [], ◌∷◌, ◌++◌, append-nil, append_assoc}
use Prim.Native.Nat.{ℕ, zero, suc, ◌+◌, ◌≤◌, ◌<◌}
use native.Mathlib.Omega.{arith}
use native.Mathlib.Numerals.{add-one}
use lib.ListN.{length, take, drop, get_or, set, length-append}
use lib.Seq.{take-append_seam, drop-cons, set-append_seam}
use Rattle.model.proofs.Tests.{eqb_yes, eqb_no}
use Rattle.links.specs.Link.{Stands, next}
use Rattle.ring.specs.Ring.{last_of, Linked, Ring}
use Rattle.ring.specs.Way.{run, way, to_come, Walks, Passed}
use Rattle.ring.specs.declared.walker.Walker.{Walker}
use Rattle.ring.proofs.Lists.{Fresh, init, member_mid, distinct_right, rotated, last_of_append}
use Rattle.ring.proofs.Rings.{ring_apart, ring_length, cut}

-- ---- from a process on

run_is : (nx : ℕ → ℕ) (tail most y : ℕ) (ys : List ℕ) → Linked nx y ys → last_of y ys ≡ tail → Fresh tail (init y ys) → length ys ≤ most → run nx tail most y ≡ init y ys
run_is nx tail zero y [] l e f h = refl
run_is nx tail zero y (z ∷ zs) l e f h = absurd (omega arith)
run_is nx tail (suc most) y [] l e f h = rw (eqb_yes y tail e) refl
run_is nx tail (suc most) y (z ∷ zs) l e f h =
    rw (eqb_no y tail f.0) (ap (λ (x : ℕ). y ∷ run nx tail most x) l.0 ∙ ap (λ (xs : List ℕ). y ∷ xs) (run_is nx tail most z zs l.1 e f.1 (omega arith)))

pub way_is : {r : List ℕ} {tail : ℕ} (us : List ℕ) (y : ℕ) (ys : List ℕ) → Ring r tail (us ++ y ∷ ys) → way r tail y ≡ init y ys
unfolding way
way_is {r} {tail} us y ys R =
    let C = cut r tail y us ys R in
    let fresh : Fresh tail (init y ys) = subst (λ (x : ℕ). Fresh x (init y ys)) C.last (rotated y ys (distinct_right us (y ∷ ys) (ring_apart R))).0 in
    run_is (next r) tail 1023 y ys C.behind C.last fresh (omega (arith, ring_length R, length-append us (y ∷ ys)))

-- from the tail on, nobody is before it
run_none : (nx : ℕ → ℕ) (tail most p : ℕ) → p ≡ tail → run nx tail most p ≡ []
run_none nx tail zero p e = refl
run_none nx tail (suc most) p e = rw (eqb_yes p tail e) refl

way_none : (r : List ℕ) (tail p : ℕ) → p ≡ tail → way r tail p ≡ []
unfolding way
way_none r tail p e = run_none (next r) tail 1023 p e

-- ---- a whole ring

parted : (x : ℕ) (xs : List ℕ) → x ∷ xs ≡ init x xs ++ last_of x xs ∷ []
parted x [] = refl
parted x (y ∷ ys) = ap (λ (l : List ℕ). x ∷ l) (parted y ys)

-- those before the tail, and the tail
pub ring_way : {r : List ℕ} {tail : ℕ} (xs : List ℕ) → Ring r tail xs → tail ≢ 0 → xs ≡ way r tail (next r tail) ++ tail ∷ []
ring_way [] R h = absurd (h (sym R.ends))
ring_way {r} {tail} (x ∷ xs) R h =
    parted x xs ∙ ap (λ (l : List ℕ). l ++ last_of x xs ∷ []) (sym (way_is [] x xs R) ∙ ap (way r tail) (sym R.linked.0)) ∙ ap (λ (y : ℕ). way r tail (next r tail) ++ y ∷ []) R.ends

-- ---- a walker

pub walks_start : (w : Walker) (xs : List ℕ) → Ring w.records.now w.tail xs → w.tail ≢ 0 → w.at ≡ w.tail → Walks w
walks_start w [] R h e = absurd (h (sym R.ends))
walks_start w (x ∷ xs) R h e = record { us = []; y = x; ys = xs; ring = R; here = sym e }

module _ (w : Walker) (W : Walks w) where
  pub walks_stands : Stands w.records.now w.at
  walks_stands = subst (Stands w.records.now) W.here (cut w.records.now w.tail W.y W.us W.ys W.ring).q_stands

  walks_next : next w.records.now w.at ≡ W.y
  walks_next = ap (next w.records.now) (sym W.here) ∙ (cut w.records.now w.tail W.y W.us W.ys W.ring).here

  -- the tail is next
  pub walks_end : next w.records.now w.at ≡ w.tail → to_come w ≡ []
  walks_end e = way_none w.records.now w.tail (next w.records.now w.at) e

  -- another is next
  module _ (d : next w.records.now w.at ≢ w.tail) (p : ℕ) (e : p ≡ next w.records.now w.at) where
    abbrev on : Walker
    on = record { records = w.records; tail = w.tail; at = p }

    walks_more : (z : ℕ) × (zs : List ℕ) × (W.ys ≡ z ∷ zs)
    walks_more = go W.ys (cut w.records.now w.tail W.y W.us W.ys W.ring).last
      where
        go : (ys : List ℕ) → last_of W.y ys ≡ w.tail → (z : ℕ) × (zs : List ℕ) × (ys ≡ z ∷ zs)
        go [] k = absurd (d (walks_next ∙ k))
        go (z ∷ zs) k = (z, zs, refl)

    pub walks_on : Walks on
    walks_on = record {
      us = W.us ++ W.y ∷ [];
      y = walks_more.0;
      ys = walks_more.1;
      ring = subst (Ring w.records.now w.tail) (ap (λ (l : List ℕ). W.us ++ W.y ∷ l) walks_more.2 ∙ sym (append_assoc W.us (W.y ∷ []) (walks_more.0 ∷ walks_more.1))) W.ring;
      here = last_of_append w.tail W.us W.y [] ∙ sym walks_next ∙ sym e;
    }

    pub to_come_on : to_come w ≡ p ∷ to_come on
    unfolding walks_more walks_on
    to_come_on =
        ap (way w.records.now w.tail) walks_next ∙ way_is W.us W.y W.ys W.ring ∙ ap (init W.y) walks_more.2
        ∙ (λ i. (sym walks_next ∙ sym e) i ∷ (sym (way_is walks_on.us walks_on.y walks_on.ys walks_on.ring) ∙ ap (way w.records.now w.tail) (sym up)) i)
      where
        up : next w.records.now p ≡ walks_more.0
        up = ap (next w.records.now) (sym walks_on.here) ∙ (cut w.records.now w.tail walks_on.y walks_on.us walks_on.ys walks_on.ring).here

-- ---- those passed

module _ {w : Walker} {tail : ℕ} {us xs : List ℕ} (P : Passed w tail us xs) where
  pub passed_few : {r : List ℕ} → Ring r tail xs → length us + length (to_come w) < 1024
  passed_few R = omega (arith, ring_length R, ap length P.whole, length-append (us ++ to_come w) (tail ∷ []), length-append us (to_come w))

  -- all are passed
  module _ (e : to_come w ≡ []) where
    pub passed_all : xs ≡ us ++ tail ∷ []
    passed_all = P.whole ∙ ap (λ (l : List ℕ). us ++ l ++ tail ∷ []) e ∙ ap (λ (l : List ℕ). l ++ tail ∷ []) (append-nil us)

  -- p is up
  module _ {p : ℕ} {ys : List ℕ} (e : to_come w ≡ p ∷ ys) where
    pub passed_up : xs ≡ us ++ p ∷ (ys ++ tail ∷ [])
    passed_up = P.whole ∙ ap (λ (l : List ℕ). us ++ l ++ tail ∷ []) e ∙ append_assoc us (p ∷ ys) (tail ∷ [])

    pub passed_more : length us < length xs
    passed_more = omega (arith, ap length passed_up, length-append us (p ∷ (ys ++ tail ∷ [])))

    pub passed_stands : {r : List ℕ} → Ring r tail xs → Stands r p
    passed_stands R = R.stand p (rw passed_up (member_mid p us (ys ++ tail ∷ [])))

  pub passed_on : {v : Walker} {p : ℕ} → to_come w ≡ p ∷ to_come v → Passed v tail (us ++ p ∷ []) xs
  passed_on {v} {p} e = record { whole = P.whole ∙ ap (λ (l : List ℕ). us ++ l ++ tail ∷ []) e ∙ ap (λ (l : List ℕ). l ++ tail ∷ []) (sym (append_assoc us (p ∷ []) (to_come v))) }

-- ---- a list written over another

put : (us old : List ℕ) (p : ℕ) → length us < length old → set (us ++ drop (length us) old) (length us) p ≡ us ++ p ∷ [] ++ drop (length us + 1) old
put us old p h =
    ap (λ (l : List ℕ). set (us ++ l) (length us) p) (drop-cons old (length us) 0 h) ∙ set-append_seam us (get_or old (length us) 0) (drop (suc (length us)) old) p
    ∙ sym (append_assoc us (p ∷ []) (drop (suc (length us)) old)) ∙ ap (λ (k : ℕ). us ++ p ∷ [] ++ drop k old) (sym (add-one (length us)))

-- one more is written
pub put_on : {i k : ℕ} {out : List ℕ} (us old : List ℕ) (p : ℕ) → i ≡ k → k ≡ length us → out ≡ us ++ drop k old → length us < length old → set out i p ≡ us ++ p ∷ [] ++ drop (k + 1) old
put_on us old p d e w h = rw (w, d, e) (put us old p h)

-- the tail is written behind the others
pub put_tail : {r : List ℕ} {tail i k : ℕ} {out : List ℕ} (xs old : List ℕ) → Ring r tail xs → tail ≢ 0 → k + 1 ≡ length xs → k < length old → i ≡ k → out ≡ take k xs ++ drop k old → set out i tail ≡ xs ++ drop (length xs) old
put_tail {r} {tail} {k = k} xs old R h e l d w =
    let others : List ℕ = way r tail (next r tail) in
    let whole : xs ≡ others ++ tail ∷ [] = ring_way xs R h in
    let few : k ≡ length others = omega (arith, ap length whole, length-append others (tail ∷ [])) in
    let front : take k xs ≡ others = (λ i. take (few i) (whole i)) ∙ take-append_seam others (tail ∷ []) in
    put_on others old tail d few (w ∙ ap (λ (l : List ℕ). l ++ drop k old) front) (omega arith) ∙ (λ i. sym whole i ++ drop (e i) old)
