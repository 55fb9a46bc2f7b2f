-- What leaving and joining keep. Each is one or two changes of a next field, and such a change moves no other bit of any word; so every priority, every failed bit, every flags and timer word, and every ring without these processes stay. Assumes nothing.
use mathlib.Core.Path.{◌≡◌, sym, ap, ◌∙◌, subst}
use mathlib.Core.Logic.{◌≢◌, Ne-symm}
use mathlib.Core.Bool.{true, false}
use mathlib.Core.List.{List, ◌∷◌}
use Prim.Native.Nat.{ℕ, ◌/◌, ◌%◌, ◌≤◌, ◌<◌}
use native.Mathlib.Decide.{ℕ_discrete}
use native.Mathlib.Omega.{arith}
use Rattle.model.specs.Queue.{member, ahead_of}
use Rattle.model.proofs.Lists.{member_here, member_there, all_members, members_all}
use Rattle.links.specs.Link.{Stands, slot, link, next, priority, point}
use Rattle.ring.specs.Ring.{Ring, last_of, ahead_for, leader, Kept, Left, Joined}
use Rattle.links.proofs.Links.{relink_priority, relink_low, next_small, point_length, point_word, point_kept, slots_apart}
use Rattle.ring.proofs.Lists.{differ, member_other}
use Rattle.ring.proofs.Rings.{ring_stand, ring_member, follows_all, ring_same}
use Rattle.ring.proofs.Moves.{leader_some}

-- ---- a change of the next fields of some of zs

module _ {r r' zs : List ℕ} (K : Kept r r' zs) where
  pub kept_next : (q : ℕ) → 1 ≤ q → member q zs ≡ false → next r' q ≡ next r q
  unfolding next
  kept_next q b m = ap (λ (w : ℕ). w / 8 % 1024) (K.links q b m)

  -- a ring that has none of zs
  pub kept_ring : (tail : ℕ) (xs : List ℕ) → ((x : ℕ) → member x xs ≡ true → member x zs ≡ false) → Ring r tail xs → Ring r' tail xs
  kept_ring tail xs apart R = ring_same r r' tail xs (omega (arith, K.long)) (λ x m. kept_next x (R.stand x m).low (apart x m)) R

pub kept_trans : {r r' r'' zs : List ℕ} → Kept r r' zs → Kept r' r'' zs → Kept r r'' zs
kept_trans K L = record {
  long = L.long ∙ K.long;
  high = λ i. L.high i ∙ K.high i;
  low = λ i. L.low i ∙ K.low i;
  words = λ i h. L.words i h ∙ K.words i h;
  links = λ q b m. L.links q b m ∙ K.links q b m;
}

pub kept_point : (r : List ℕ) (q n : ℕ) (zs : List ℕ) → 1 ≤ q → n < 1024 → member q zs ≡ true → Kept r (point r q n) zs
kept_point r q n zs b h k = record {
  long = point_length r q n;
  high = point_kept (λ w. w / 8192) r q n (relink_priority (link r q) n h);
  low = point_kept (λ w. w % 8) r q n (relink_low (link r q) n h);
  words = λ i e. point_word r q n i (λ g. e (omega arith));
  links = λ p l m. point_word r q n (slot p) (slots_apart p q l b (Ne-symm (differ (λ (y : ℕ). member y zs) q p k m)));
}

-- ---- p has left

pub left_kept : {r r' : List ℕ} {tail t : ℕ} (p : ℕ) (xs : List ℕ) → Ring r tail xs → member p xs ≡ true → Left r r' tail p t xs → Kept r r' xs
left_kept {r} {tail} p xs R m L =
    let q : ℕ = last_of tail (ahead_of p xs) in
    let h : tail ≢ 0 = ring_member p xs R m in
    let k : member q xs ≡ true = follows_all (λ x. member x xs ≡ true) _ xs R h (all_members (λ x. member x xs ≡ true) xs (λ x e. e)) in
    subst (λ (l : List ℕ). Kept r l xs) (sym L.words) (kept_point r q (next r p) xs (R.stand q k).low (next_small r p) k)

-- ---- p has joined

-- whom p follows stands in the ring, or is p
leader_member : {r : List ℕ} {tail : ℕ} (p : ℕ) (pr : ℕ → ℕ) (xs : List ℕ) → Ring r tail xs → Dec (tail ≡ 0) → member (leader tail p (ahead_for pr p xs)) (p ∷ xs) ≡ true
leader_member p pr xs R (yes e) = subst (λ (t : ℕ). member (leader t p (ahead_for pr p xs)) (p ∷ xs) ≡ true) (sym e) (member_here p xs)
leader_member {tail} p pr xs R (no h) =
    subst (λ (q : ℕ). member q (p ∷ xs) ≡ true) (sym (leader_some tail p (ahead_for pr p xs) h))
    (follows_all (λ x. member x (p ∷ xs) ≡ true) _ xs R h (all_members (λ x. member x (p ∷ xs) ≡ true) xs (λ x m. member_there x p xs m)))

pub joined_kept : {r r' : List ℕ} {tail p t : ℕ} (xs : List ℕ) → Stands r p → Ring r tail xs → Joined r r' tail p t xs → Kept r r' (p ∷ xs)
joined_kept {r} {tail} {p} xs s R J =
    let q : ℕ = leader tail p (ahead_for (priority r) p xs) in
    let k : member q (p ∷ xs) ≡ true = leader_member p (priority r) xs R (ℕ_discrete tail 0) in
    let b : Stands r q = members_all (Stands r) (p ∷ xs) (s, ring_stand R) q k in
    subst (λ (l : List ℕ). Kept r l (p ∷ xs)) (sym J.words)
    (kept_trans
    (kept_point r p (next r q) (p ∷ xs) s.low (next_small r q) (member_here p xs))
    (kept_point (point r p (next r q)) q p (p ∷ xs) b.low s.high k))

-- ---- the other rings

pub left_ring : {r r' : List ℕ} {tail t : ℕ} (p : ℕ) (xs : List ℕ) → Ring r tail xs → member p xs ≡ true → Left r r' tail p t xs
    → (u : ℕ) (us : List ℕ) → ((x : ℕ) → member x us ≡ true → member x xs ≡ false) → Ring r u us → Ring r' u us
left_ring p xs R m L u us apart S = kept_ring (left_kept p xs R m L) u us apart S

pub joined_ring : {r r' : List ℕ} {tail p t : ℕ} (xs : List ℕ) → Stands r p → Ring r tail xs → Joined r r' tail p t xs
    → (u : ℕ) (us : List ℕ) → member p us ≡ false → ((x : ℕ) → member x us ≡ true → member x xs ≡ false) → Ring r u us → Ring r' u us
joined_ring {p} xs s R J u us f apart S = kept_ring (joined_kept xs s R J) u us both S
  where
    both : (x : ℕ) → member x us ≡ true → member x (p ∷ xs) ≡ false
    both x m = member_other x p xs (Ne-symm (differ (λ (y : ℕ). member y us) x p m f)) ∙ apart x m
