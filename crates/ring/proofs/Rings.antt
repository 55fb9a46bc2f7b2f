-- The laws of a ring. The sources of its links are its own processes, each once, so a cut of the ring before p says all that a change there needs; and the reading ends at the first return to the tail, so it is unique. Assumes nothing.
use mathlib.Core.Path.{◌≡◌, refl, sym, ap, ◌∙◌, subst}
use mathlib.Core.Logic.{◌≢◌}
use mathlib.Core.Bool.{Bool, true, false, not, cond, false≢true}
use mathlib.Core.List.{List, [], ◌∷◌, ◌++◌}
use Prim.Native.Nat.{ℕ, ◌+◌, ◌≤◌, ◌<◌}
use native.Mathlib.Decide.{ℕ_discrete}
use native.Mathlib.Omega.{arith}
use lib.Dec.{eqb}
use lib.ListN.{length}
use Rattle.model.specs.Queue.{bit, inside, member, count, All, take_while, ahead_of}
use Rattle.model.proofs.Tests.{bounds_inside, denied}
use Rattle.model.proofs.Lists.{all_left, all_right, absent_count, at_most, all_map, all_members, members_all}
use Rattle.links.specs.Link.{Stands, next, point}
use Rattle.ring.specs.Ring.{last_of, Linked, Ring}
use Rattle.links.proofs.Links.{point_length, point_next_other}
use Rattle.ring.proofs.Lists.{Fresh, Distinct, init, all_last, all_init, all_zip, member_last, distinct_once, once_distinct, mid_fresh, rotated, last_of_append, init_append}
use Rattle.ring.proofs.Places.{all_take, ahead_last}

-- ---- links

module _ (r : List ℕ) where
  pub linked_left : (a : ℕ) (xs ys : List ℕ) → Linked (next r) a (xs ++ ys) → Linked (next r) a xs
  linked_left a [] ys h = tt
  linked_left a (x ∷ xs) ys h = (h.0, linked_left x xs ys h.1)

  pub linked_right : (a : ℕ) (xs ys : List ℕ) → Linked (next r) a (xs ++ ys) → Linked (next r) (last_of a xs) ys
  linked_right a [] ys h = h
  linked_right a (x ∷ xs) ys h = linked_right x xs ys h.1

  pub linked_join : (a : ℕ) (xs ys : List ℕ) → Linked (next r) a xs → Linked (next r) (last_of a xs) ys → Linked (next r) a (xs ++ ys)
  linked_join a [] ys h k = k
  linked_join a (x ∷ xs) ys h k = (h.0, linked_join x xs ys h.1 k)

-- links whose sources lead on as they did
pub linked_frame : (r r' : List ℕ) (a : ℕ) (xs : List ℕ) → All (λ y. next r' y ≡ next r y) (init a xs) → Linked (next r) a xs → Linked (next r') a xs
linked_frame r r' a [] f h = tt
linked_frame r r' a (x ∷ xs) f h = (f.0 ∙ h.0, linked_frame r r' x xs f.1 h.1)

-- links none of whose sources is q, when q leads on to n
pub linked_point : (r : List ℕ) (q n a : ℕ) (xs : List ℕ) → 1 ≤ q → All (λ y. 1 ≤ y) (init a xs) → Fresh q (init a xs) → Linked (next r) a xs → Linked (next (point r q n)) a xs
linked_point r q n a xs b h f l =
    linked_frame r (point r q n) a xs
    (all_zip (λ y. 1 ≤ y) (λ y. y ≢ q) (λ y. next (point r q n) y ≡ next r y) (λ y k g. point_next_other r q n y k b g) (init a xs) h f) l

-- ---- a ring, with what holds of every process

module _ {r : List ℕ} {tail : ℕ} {xs : List ℕ} where
  pub ring_stand : Ring r tail xs → All (Stands r) xs
  ring_stand R = all_members (Stands r) xs R.stand

  pub ring_apart : Ring r tail xs → Distinct xs
  ring_apart R = once_distinct xs R.once

  pub to_ring : Linked (next r) tail xs → last_of 0 xs ≡ tail → All (Stands r) xs → Distinct xs → Ring r tail xs
  to_ring l e s d = record { linked = l; ends = e; stand = members_all (Stands r) xs s; once = distinct_once xs d }

-- no ring has more processes than there are numbers
pub ring_length : {r : List ℕ} {tail : ℕ} {xs : List ℕ} → Ring r tail xs → length xs ≤ 1024
ring_length {xs} R = let h = at_most 1023 xs (λ p. go p (member p xs) refl) in omega arith
  where
    go : (p : ℕ) (b : Bool) → member p xs ≡ b → count p xs ≤ bit (inside 1023 p)
    go p true m = let s = R.stand p m in subst (λ (b : Bool). count p xs ≤ bit b) (sym (bounds_inside 1023 p s.low (omega (arith, s.high)))) (R.once p)
    go p false m = omega (arith, absent_count p xs m)

-- ---- the tail

pub ring_tail_member : {r : List ℕ} {tail : ℕ} (xs : List ℕ) → Ring r tail xs → tail ≢ 0 → member tail xs ≡ true
ring_tail_member [] R h = absurd (h (sym R.ends))
ring_tail_member (x ∷ xs) R h = subst (λ (t : ℕ). member t (x ∷ xs) ≡ true) R.ends (member_last x xs)

pub ring_tail_stands : {r : List ℕ} {tail : ℕ} (xs : List ℕ) → Ring r tail xs → tail ≢ 0 → Stands r tail
ring_tail_stands {tail} xs R h = R.stand tail (ring_tail_member xs R h)

pub ring_tail_small : {r : List ℕ} {tail : ℕ} (xs : List ℕ) → Ring r tail xs → tail < 1024
ring_tail_small {tail} xs R = go (ℕ_discrete tail 0)
  where
    go : Dec (tail ≡ 0) → tail < 1024
    go (yes e) = omega arith
    go (no h) = (ring_tail_stands xs R h).high

-- a ring with a process has a tail
pub ring_some : {r : List ℕ} {tail : ℕ} (x : ℕ) (xs : List ℕ) → Ring r tail (x ∷ xs) → tail ≢ 0
ring_some {tail} x xs R e =
    let s = R.stand tail (subst (λ (t : ℕ). member t (x ∷ xs) ≡ true) R.ends (member_last x xs)) in
    let l = s.low in
    omega arith

-- a ring without a tail is empty
pub ring_empty : {r : List ℕ} {tail : ℕ} (xs : List ℕ) → Ring r tail xs → tail ≡ 0 → xs ≡ []
ring_empty [] R e = refl
ring_empty (x ∷ xs) R e = absurd (ring_some x xs R e)

-- a ring with a member has a tail
pub ring_member : {r : List ℕ} {tail : ℕ} (p : ℕ) (xs : List ℕ) → Ring r tail xs → member p xs ≡ true → tail ≢ 0
ring_member p [] R m e = false≢true m
ring_member p (x ∷ xs) R m e = ring_some x xs R e

-- what holds of every process holds of whom one follows
pub follows_all : (P : ℕ → Type 0) {r : List ℕ} {tail : ℕ} (t : ℕ → Bool) (xs : List ℕ) → Ring r tail xs → tail ≢ 0 → All P xs → P (last_of tail (take_while t xs))
follows_all P {tail} t xs R h a = all_last P tail (take_while t xs) (members_all P xs a tail (ring_tail_member xs R h)) (all_take P t xs a)

-- whom p follows, if it is there: some process
pub before_none : {r : List ℕ} {tail : ℕ} (p : ℕ) (xs : List ℕ) {q : ℕ} → Ring r tail xs → q ≡ cond (member p xs) (last_of tail (ahead_of p xs)) 0 → q ≡ 0 → member p xs ≡ false
before_none {r} {tail} p xs R e z =
    denied (member p xs) (λ m.
    let q = last_of tail (ahead_of p xs) in
    let k : q ≡ 0 = sym (e ∙ rw m refl) ∙ z in
    let S : Stands r q = follows_all (Stands r) (λ x. not (eqb x p)) xs R (ring_member p xs R m) (ring_stand R) in
    omega (arith, S.low))

pub before_some : (tail p : ℕ) (xs : List ℕ) {q : ℕ} → q ≡ cond (member p xs) (last_of tail (ahead_of p xs)) 0 → q ≢ 0 → (member p xs ≡ true) × (q ≡ last_of tail (ahead_of p xs))
before_some tail p xs {q} e z = go (member p xs) refl
  where
    go : (b : Bool) → member p xs ≡ b → (member p xs ≡ true) × (q ≡ last_of tail (ahead_of p xs))
    go true m = (m, e ∙ rw m refl)
    go false m = absurd (z (e ∙ rw m refl))

-- all others are ahead of the tail
pub ring_ahead : {r : List ℕ} {tail : ℕ} (xs : List ℕ) → Ring r tail xs → tail ≢ 0 → length (ahead_of tail xs) + 1 ≡ length xs
ring_ahead [] R h = absurd (h (sym R.ends))
ring_ahead {tail = tail} (x ∷ xs) R h = ahead_last tail x xs R.ends (R.once tail)

-- the tail leads on to the first
pub ring_first : {r : List ℕ} {tail : ℕ} (xs : List ℕ) → Ring r tail xs → tail ≢ 0 → (ys : List ℕ) × (xs ≡ next r tail ∷ ys)
ring_first [] R h = absurd (h (sym R.ends))
ring_first (x ∷ xs) R h = (xs, ap (λ (y : ℕ). y ∷ xs) (sym R.linked.0))

-- ---- the sources of its links

pub ring_all : (P : ℕ → Type 0) (r : List ℕ) (tail : ℕ) (xs : List ℕ) → Ring r tail xs → All P xs → All P (init tail xs)
ring_all P r tail [] R h = tt
ring_all P r tail (x ∷ xs) R h = (subst P R.ends (all_last P x xs h.0 h.1), all_init P x xs h.0 h.1)

pub ring_sources : (r : List ℕ) (tail : ℕ) (xs : List ℕ) → Ring r tail xs → Distinct (init tail xs)
ring_sources r tail [] R = tt
ring_sources r tail (x ∷ xs) R = subst (λ (t : ℕ). Distinct (t ∷ init x xs)) R.ends (rotated x xs (ring_apart R))

-- a ring whose processes lead on as they did
pub ring_same : (r r' : List ℕ) (tail : ℕ) (xs : List ℕ) → length r ≤ length r' → ((x : ℕ) → member x xs ≡ true → next r' x ≡ next r x) → Ring r tail xs → Ring r' tail xs
ring_same r r' tail xs b e R = record {
  linked = linked_frame r r' tail xs (ring_all (λ y. next r' y ≡ next r y) r tail xs R (all_members (λ y. next r' y ≡ next r y) xs e)) R.linked;
  ends = R.ends;
  stand = λ x m. let s = R.stand x m in record { low = s.low; high = s.high; within = omega arith };
  once = R.once;
}

-- a ring that q does not stand in, when q leads on to n
pub ring_point : (r : List ℕ) (q n tail : ℕ) (xs : List ℕ) → 1 ≤ q → Fresh q xs → Ring r tail xs → Ring (point r q n) tail xs
ring_point r q n tail xs b f R =
    ring_same r (point r q n) tail xs (omega (arith, point_length r q n)) (λ x m. point_next_other r q n x (R.stand x m).low b (members_all (λ y. y ≢ q) xs f x m)) R

-- ---- a ring cut before its process p: q is whom p follows

pub record Cut (r : List ℕ) (tail p : ℕ) (xs ys : List ℕ) : Type 0 where
  pub ahead : Linked (next r) tail xs
  pub here : next r (last_of tail xs) ≡ p
  pub behind : Linked (next r) p ys
  pub last : last_of p ys ≡ tail
  pub q_stands : Stands r (last_of tail xs)
  pub q_ahead : Fresh (last_of tail xs) (init tail xs)
  pub q_behind : Fresh (last_of tail xs) (init p ys)
  pub low_ahead : All (λ y. 1 ≤ y) (init tail xs)
  pub low_behind : All (λ y. 1 ≤ y) (init p ys)
  pub p_ahead : Fresh p xs
  pub p_behind : Fresh p ys

low_all : (r : List ℕ) (xs : List ℕ) → All (Stands r) xs → All (λ y. 1 ≤ y) xs
low_all r xs h = all_map (Stands r) (λ y. 1 ≤ y) xs (λ y k. k.low) h

pub cut : (r : List ℕ) (tail p : ℕ) (xs ys : List ℕ) → Ring r tail (xs ++ p ∷ ys) → Cut r tail p xs ys
cut r tail p xs ys R =
    let q : ℕ = last_of tail xs in
    let split : init tail (xs ++ p ∷ ys) ≡ init tail xs ++ q ∷ init p ys = init_append tail xs p ys in
    let d : Distinct (init tail xs ++ q ∷ init p ys) = subst Distinct split (ring_sources r tail (xs ++ p ∷ ys) R) in
    let s : All (Stands r) (init tail xs ++ q ∷ init p ys) = subst (All (Stands r)) split (ring_all (Stands r) r tail (xs ++ p ∷ ys) R (ring_stand R)) in
    let f = mid_fresh (init tail xs) q (init p ys) d in
    let g = mid_fresh xs p ys (ring_apart R) in
    let right = all_right (Stands r) (init tail xs) (q ∷ init p ys) s in
    let links = linked_right r tail xs (p ∷ ys) R.linked in
    record {
      ahead = linked_left r tail xs (p ∷ ys) R.linked;
      here = links.0;
      behind = links.1;
      last = sym (last_of_append 0 xs p ys) ∙ R.ends;
      q_stands = right.0;
      q_ahead = f.0;
      q_behind = f.1;
      low_ahead = low_all r (init tail xs) (all_left (Stands r) (init tail xs) (q ∷ init p ys) s);
      low_behind = low_all r (init p ys) right.1;
      p_ahead = g.0;
      p_behind = g.1;
    }

-- no process is behind the tail
pub last_alone : {r : List ℕ} {tail : ℕ} (us ys : List ℕ) → Ring r tail (us ++ tail ∷ ys) → ys ≡ []
last_alone us [] R = refl
last_alone {r} {tail} us (y ∷ ys) R = let C = cut r tail tail us (y ∷ ys) R in absurd (all_last (λ z. z ≢ tail) y ys C.p_behind.0 C.p_behind.1 C.last)

-- ---- a ring has one reading

path_unique : (r : List ℕ) (t a b : ℕ) (xs ys : List ℕ) → a ≡ b → Linked (next r) a xs → Linked (next r) b ys → last_of a xs ≡ t → last_of b ys ≡ t → Fresh t (init a xs) → Fresh t (init b ys) → xs ≡ ys
path_unique r t a b [] [] e l m d c f g = refl
path_unique r t a b [] (y ∷ ys) e l m d c f g = absurd (g.0 (sym e ∙ d))
path_unique r t a b (x ∷ xs) [] e l m d c f g = absurd (f.0 (e ∙ c))
path_unique r t a b (x ∷ xs) (y ∷ ys) e l m d c f g =
    let h : x ≡ y = sym l.0 ∙ ap (next r) e ∙ m.0 in
    λ i. h i ∷ path_unique r t x y xs ys h l.1 m.1 d c f.1 g.1 i

pub ring_unique : {r : List ℕ} {tail : ℕ} (xs ys : List ℕ) → Ring r tail xs → Ring r tail ys → xs ≡ ys
ring_unique [] ys R S = sym (ring_empty ys S (sym R.ends))
ring_unique (x ∷ xs) [] R S = ring_empty (x ∷ xs) R (sym S.ends)
ring_unique {r} {tail} (x ∷ xs) (y ∷ ys) R S =
    let h : x ≡ y = sym R.linked.0 ∙ S.linked.0 in
    λ i. h i ∷ path_unique r tail x y xs ys h R.linked.1 S.linked.1 R.ends S.ends (ring_sources r tail (x ∷ xs) R).0 (ring_sources r tail (y ∷ ys) S).0 i
