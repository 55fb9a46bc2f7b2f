-- Lists of processes: distinct ones, the last and all but the last, what holds of each. Model has the laws of member and count. All by induction on the list. Assumes nothing.
use mathlib.Core.Path.{◌≡◌, refl, sym, ap, ◌∙◌, subst}
use mathlib.Core.Logic.{◌≢◌, Ne-symm}
use mathlib.Core.Bool.{Bool, true, false, true≢false}
use mathlib.Core.List.{List, [], ◌∷◌, ◌++◌}
use Prim.Native.Nat.{ℕ, ◌≤◌}
use native.Mathlib.Omega.{arith}
use Rattle.model.specs.Queue.{bit, member, count, All}
use Rattle.model.proofs.Tests.{holds, fails, EqCase, eqb_case, eqb_yes, eqb_no}
use Rattle.model.proofs.Lists.{all_append, all_left, all_right, absent_count, member_bit, member_here, member_there, all_members}
use Rattle.ring.specs.Ring.{last_of}

-- ---- every process of a list

-- q is none of xs
abbrev pub Fresh : ℕ → List ℕ → Type 0
Fresh q xs = All (λ x. x ≢ q) xs

-- no two of xs are the same
abbrev pub Distinct : List ℕ → Type 0
Distinct [] = Unit {0}
Distinct (x ∷ xs) = Fresh x xs × Distinct xs

-- the sources of the links of a ∷ xs: all but the last
abbrev pub init : ℕ → List ℕ → List ℕ
init a [] = []
init a (x ∷ xs) = a ∷ init x xs

-- whom a test tells apart
pub differ : (t : ℕ → Bool) (x y : ℕ) → t x ≡ true → t y ≡ false → x ≢ y
differ t x y e f d = true≢false (sym e ∙ ap t d ∙ f)

module _ (P : ℕ → Type 0) where
  pub all_drop : (xs : List ℕ) (y : ℕ) (ys : List ℕ) → All P (xs ++ y ∷ ys) → All P (xs ++ ys)
  all_drop xs y ys h = all_append P xs ys (all_left P xs (y ∷ ys) h) (all_right P xs (y ∷ ys) h).1

  pub all_insert : (xs : List ℕ) (y : ℕ) (ys : List ℕ) → P y → All P (xs ++ ys) → All P (xs ++ y ∷ ys)
  all_insert xs y ys p h = all_append P xs (y ∷ ys) (all_left P xs ys h) (p, all_right P xs ys h)

  pub all_last : (x : ℕ) (xs : List ℕ) → P x → All P xs → P (last_of x xs)
  all_last x [] p h = p
  all_last x (y ∷ ys) p h = all_last y ys h.0 h.1

  pub all_init : (x : ℕ) (xs : List ℕ) → P x → All P xs → All P (init x xs)
  all_init x [] p h = tt
  all_init x (y ∷ ys) p h = (p, all_init y ys h.0 h.1)

pub all_zip : (P Q R : ℕ → Type 0) → ((x : ℕ) → P x → Q x → R x) → (xs : List ℕ) → All P xs → All Q xs → All R xs
all_zip P Q R f [] h k = tt
all_zip P Q R f (x ∷ xs) h k = (f x h.0 k.0, all_zip P Q R f xs h.1 k.1)

-- ---- member

-- a member of x ∷ xs other than x is one of xs
pub member_other : (y x : ℕ) (xs : List ℕ) → x ≢ y → member y (x ∷ xs) ≡ member y xs
member_other y x xs h = rw (eqb_no x y h)

pub fresh_member : (q : ℕ) (xs : List ℕ) → Fresh q xs → member q xs ≡ false
fresh_member q [] f = refl
fresh_member q (x ∷ xs) f = member_other q x xs f.0 ∙ fresh_member q xs f.1

pub member_fresh : (q : ℕ) (xs : List ℕ) → member q xs ≡ false → Fresh q xs
member_fresh q xs h = all_members (λ x. x ≢ q) xs (λ x m. differ (λ (y : ℕ). member y xs) x q m h)

pub member_mid : (p : ℕ) (us ys : List ℕ) → member p (us ++ p ∷ ys) ≡ true
member_mid p [] ys = member_here p ys
member_mid p (u ∷ us) ys = member_there p u (us ++ p ∷ ys) (member_mid p us ys)

pub member_last : (x : ℕ) (xs : List ℕ) → member (last_of x xs) (x ∷ xs) ≡ true
member_last x [] = member_here x []
member_last x (y ∷ ys) = member_there (last_of y ys) x (y ∷ ys) (member_last y ys)

-- ---- distinct processes

pub distinct_once : (xs : List ℕ) → Distinct xs → (q : ℕ) → count q xs ≤ 1
distinct_once [] d q = omega arith
distinct_once (x ∷ xs) d q = go (eqb_case x q) (distinct_once xs d.1 q)
  where
    go : EqCase x q → count q xs ≤ 1 → count q (x ∷ xs) ≤ 1
    go (holds k e) ih = rw (e, absent_count q xs (fresh_member q xs (subst (λ (y : ℕ). Fresh y xs) k d.0))) (omega arith)
    go (fails k e) ih = rw e (omega arith)

pub once_distinct : (xs : List ℕ) → ((q : ℕ) → count q xs ≤ 1) → Distinct xs
once_distinct [] h = tt
once_distinct (x ∷ xs) h =
    let none : count x xs ≡ 0 = omega (arith, ap bit (eqb_yes x x refl), h x) in
    (member_fresh x xs (member_bit x xs false none), once_distinct xs (λ q. omega (arith, h q)))

pub mid_fresh : (xs : List ℕ) (q : ℕ) (ys : List ℕ) → Distinct (xs ++ q ∷ ys) → Fresh q xs × Fresh q ys
mid_fresh [] q ys d = (tt, d.0)
mid_fresh (x ∷ xs) q ys d =
    let ih = mid_fresh xs q ys d.1 in
    ((Ne-symm (all_right (λ y. y ≢ x) xs (q ∷ ys) d.0).0, ih.0), ih.1)

pub distinct_drop : (xs : List ℕ) (y : ℕ) (ys : List ℕ) → Distinct (xs ++ y ∷ ys) → Distinct (xs ++ ys)
distinct_drop [] y ys d = d.1
distinct_drop (x ∷ xs) y ys d = (all_drop (λ z. z ≢ x) xs y ys d.0, distinct_drop xs y ys d.1)

pub distinct_insert : (xs : List ℕ) (y : ℕ) (ys : List ℕ) → Fresh y (xs ++ ys) → Distinct (xs ++ ys) → Distinct (xs ++ y ∷ ys)
distinct_insert [] y ys f d = (f, d)
distinct_insert (x ∷ xs) y ys f d = (all_insert (λ z. z ≢ x) xs y ys (Ne-symm f.0) d.0, distinct_insert xs y ys f.1 d.1)

pub distinct_right : (xs ys : List ℕ) → Distinct (xs ++ ys) → Distinct ys
distinct_right [] ys d = d
distinct_right (x ∷ xs) ys d = distinct_right xs ys d.1

-- the last, and all but the last
pub rotated : (x : ℕ) (xs : List ℕ) → Distinct (x ∷ xs) → Distinct (last_of x xs ∷ init x xs)
rotated x [] d = d
rotated x (y ∷ ys) d =
    let ih = rotated y ys d.1 in
    ((Ne-symm (all_last (λ z. z ≢ x) y ys d.0.0 d.0.1), ih.0), (all_init (λ z. z ≢ x) y ys d.0.0 d.0.1, ih.1))

pub last_of_append : (a : ℕ) (xs : List ℕ) (y : ℕ) (ys : List ℕ) → last_of a (xs ++ y ∷ ys) ≡ last_of y ys
last_of_append a [] y ys = refl
last_of_append a (x ∷ xs) y ys = last_of_append x xs y ys

pub init_append : (a : ℕ) (xs : List ℕ) (y : ℕ) (ys : List ℕ) → init a (xs ++ y ∷ ys) ≡ init a xs ++ last_of a xs ∷ init y ys
init_append a [] y ys = refl
init_append a (x ∷ xs) y ys = ap (λ (l : List ℕ). a ∷ l) (init_append x xs y ys)
