-- Lists of processes: what remove and insert leave of counts, membership and the falling order. By induction on the list. Assumes nothing.
use Prim.Native.Nat.{ℕ, zero, suc, ◌+◌, ◌≤◌, ◌<◌}
use native.Mathlib.Decide.{ℕ_discrete}
use native.Mathlib.Omega.{arith}
use mathlib.Core.Path.{◌≡◌, refl, ap, sym, ◌∙◌, subst}
use mathlib.Core.Logic.{◌≢◌}
use mathlib.Core.Bool.{Bool, true, false, ◌||◌, cond, or-false, or-true, or_assoc, false≢true}
use mathlib.Core.List.{List, [], ◌∷◌, ◌++◌, List-discrete}
use lib.Dec.{eqb, leb}
use lib.ListN.{length}
use Rattle.model.specs.Queue.{bit, inside, up_to, member, count, first, first_only, filter, remove, insert, All, Falling}
use Rattle.model.proofs.Tests.{holds, fails, EqCase, eqb_case, eqb_yes, eqb_no, LeCase, leb_case, leb_yes, leb_no, or_split, bit_split, bit_small, inside_bounds, bounds_inside}

-- ---- whether two are the same

pub lists? : (xs ys : List ℕ) → Dec (xs ≡ ys)
lists? = List-discrete ℕ_discrete

-- ---- counts

pub count_remove_same : (p : ℕ) (xs : List ℕ) → count p (remove p xs) ≡ 0
count_remove_same p [] = refl
count_remove_same p (x ∷ xs) = go (eqb x p) refl (count_remove_same p xs)
  where
    go : (b : Bool) → eqb x p ≡ b → count p (remove p xs) ≡ 0 → count p (remove p (x ∷ xs)) ≡ 0
    go true e ih = rw e ih
    go false e ih = rw (e, e) (omega arith)

pub count_remove_other : (p y : ℕ) (xs : List ℕ) → y ≢ p → count p (remove y xs) ≡ count p xs
count_remove_other p y [] h = refl
count_remove_other p y (x ∷ xs) h = go (eqb_case x y) (count_remove_other p y xs h)
  where
    go : EqCase x y → count p (remove y xs) ≡ count p xs → count p (remove y (x ∷ xs)) ≡ count p (x ∷ xs)
    go (holds q e) ih = rw (e, ih, eqb_no x p (λ d. h (sym q ∙ d))) (omega arith)
    go (fails q e) ih = rw (e, ih)

pub count_insert : (pr : ℕ → ℕ) (p y : ℕ) (xs : List ℕ) → count p (insert pr y xs) ≡ bit (eqb y p) + count p xs
count_insert pr p y [] = refl
count_insert pr p y (x ∷ xs) = go (leb (pr y) (pr x)) (count_insert pr p y xs)
  where
    go : (b : Bool) → count p (insert pr y xs) ≡ bit (eqb y p) + count p xs
        → count p (cond b (x ∷ insert pr y xs) (y ∷ x ∷ xs)) ≡ bit (eqb y p) + (bit (eqb x p) + count p xs)
    go true ih = omega arith
    go false ih = refl

pub count_append : (p : ℕ) (xs ys : List ℕ) → count p (xs ++ ys) ≡ count p xs + count p ys
count_append p [] ys = omega arith
count_append p (x ∷ xs) ys = let ih = count_append p xs ys in omega arith

pub remove_append : (p : ℕ) (xs ys : List ℕ) → remove p (xs ++ ys) ≡ remove p xs ++ remove p ys
remove_append p [] ys = refl
remove_append p (x ∷ xs) ys = rw (remove_append p xs ys) (go (eqb x p))
  where
    go : (b : Bool) → cond b (remove p xs ++ remove p ys) (x ∷ (remove p xs ++ remove p ys)) ≡ cond b (remove p xs) (x ∷ remove p xs) ++ remove p ys
    go true = refl
    go false = refl

-- who is not there cannot leave
pub remove_absent : (p : ℕ) (xs : List ℕ) → count p xs ≡ 0 → remove p xs ≡ xs
remove_absent p [] e = refl
remove_absent p (x ∷ xs) e = go (eqb x p) refl (remove_absent p xs)
  where
    go : (b : Bool) → eqb x p ≡ b → (count p xs ≡ 0 → remove p xs ≡ xs) → remove p (x ∷ xs) ≡ x ∷ xs
    go true d ih = let k : 1 + count p xs ≡ 0 = rw d at e in let z : ⊥ = omega arith in absurd z
    go false d ih = let k : 0 + count p xs ≡ 0 = rw d at e in rw (d, ih (omega arith))

-- a list is as long as what is left without p, and p's places
pub length_remove : (p : ℕ) (xs : List ℕ) → length xs ≡ length (remove p xs) + count p xs
length_remove p [] = refl
length_remove p (x ∷ xs) = go (eqb x p) (length_remove p xs)
  where
    go : (b : Bool) → length xs ≡ length (remove p xs) + count p xs → length (x ∷ xs) ≡ length (cond b (remove p xs) (x ∷ remove p xs)) + (bit b + count p xs)
    go true ih = omega arith
    go false ih = omega arith

-- ---- members

pub member_count : (p : ℕ) (xs : List ℕ) → member p xs ≡ true → 1 ≤ count p xs
member_count p [] e = absurd (false≢true e)
member_count p (x ∷ xs) e = go (eqb x p) refl (member_count p xs)
  where
    go : (b : Bool) → eqb x p ≡ b → (member p xs ≡ true → 1 ≤ count p xs) → 1 ≤ count p (x ∷ xs)
    go true d ih = rw d (omega arith)
    go false d ih = rw d (let k = ih (rw d at e) in omega arith)

pub absent_count : (p : ℕ) (xs : List ℕ) → member p xs ≡ false → count p xs ≡ 0
absent_count p [] e = refl
absent_count p (x ∷ xs) e = let s = or_split (eqb x p) (member p xs) e in rw (s.0, absent_count p xs s.1)

pub counted_member : (p : ℕ) (xs : List ℕ) → 1 ≤ count p xs → member p xs ≡ true
counted_member p xs h = go (member p xs) refl
  where
    go : (b : Bool) → member p xs ≡ b → member p xs ≡ true
    go true m = m
    go false m = let k = absent_count p xs m in let z : ⊥ = omega arith in absurd z

-- a count of 0 or 1 says whether p is a member
pub member_bit : (p : ℕ) (xs : List ℕ) (b : Bool) → count p xs ≡ bit b → member p xs ≡ b
member_bit p xs b e = go b (member p xs) refl e
  where
    go : (b c : Bool) → member p xs ≡ c → count p xs ≡ bit b → member p xs ≡ b
    go true true m e = m
    go true false m e = let k = absent_count p xs m in let z : ⊥ = omega arith in absurd z
    go false true m e = let k = member_count p xs m in let z : ⊥ = omega arith in absurd z
    go false false m e = m

pub member_here : (x : ℕ) (xs : List ℕ) → member x (x ∷ xs) ≡ true
member_here x xs = rw (eqb_yes x x refl)

pub member_there : (p x : ℕ) (xs : List ℕ) → member p xs ≡ true → member p (x ∷ xs) ≡ true
member_there p x xs e = rw (e, or-true)

pub first_there : (xs : List ℕ) → xs ≢ [] → member (first xs) xs ≡ true
first_there [] h = absurd (h refl)
first_there (x ∷ xs) h = member_here x xs

pub first_member : (xs : List ℕ) → first xs ≢ 0 → member (first xs) xs ≡ true
first_member xs h = first_there xs (λ e. h (ap first e))

pub first_only_member : (p : ℕ) (xs : List ℕ) → member p (first_only xs) ≡ true → member p xs ≡ true
first_only_member p [] e = e
first_only_member p (x ∷ xs) e = let h : eqb x p ≡ true = rw or-false at e in rw h

-- who is left when p has gone was there
pub remove_member : (x p : ℕ) (xs : List ℕ) → member x (remove p xs) ≡ true → member x xs ≡ true
remove_member x p xs m = go (eqb_case p x) (member_count x (remove p xs) m)
  where
    go : EqCase p x → 1 ≤ count x (remove p xs) → member x xs ≡ true
    go (holds d e) h = let k : count x (remove p xs) ≡ 0 = rw (← d) (count_remove_same p xs) in let z : ⊥ = omega arith in absurd z
    go (fails d e) h = let k = count_remove_other x p xs d in counted_member x xs (omega arith)

-- who is there when p has come, and is not p, was there
pub insert_member : (pr : ℕ → ℕ) (x p : ℕ) (xs : List ℕ) → eqb p x ≡ false → member x (insert pr p xs) ≡ true → member x xs ≡ true
insert_member pr x p xs z m =
    let k = member_count x (insert pr p xs) m in
    let c : count x (insert pr p xs) ≡ bit false + count x xs = count_insert pr x p xs ∙ rw z in
    counted_member x xs (omega arith)

-- who was there is there when p has come, and so is p
pub insert_keeps : (pr : ℕ → ℕ) (x p : ℕ) (xs : List ℕ) → member x xs ≡ true → member x (insert pr p xs) ≡ true
insert_keeps pr x p xs m = let k = member_count x xs m in let c = count_insert pr x p xs in counted_member x (insert pr p xs) (omega arith)

pub insert_there : (pr : ℕ → ℕ) (p : ℕ) (xs : List ℕ) → member p (insert pr p xs) ≡ true
insert_there pr p xs = let c : count p (insert pr p xs) ≡ bit true + count p xs = count_insert pr p p xs ∙ rw (eqb_yes p p refl) in counted_member p (insert pr p xs) (omega arith)

-- a list without members is empty
pub nobody : (xs : List ℕ) → ((p : ℕ) → member p xs ≡ false) → xs ≡ []
nobody [] h = refl
nobody (x ∷ xs) h = absurd (false≢true (sym (h x) ∙ member_here x xs))

member_append : (p : ℕ) (xs ys : List ℕ) → member p (xs ++ ys) ≡ member p xs || member p ys
member_append p [] ys = refl
member_append p (x ∷ xs) ys = rw (member_append p xs ys, ← or_assoc)

-- those who pass a test are members who pass it
pub filter_member : (t : ℕ → Bool) (p : ℕ) (xs : List ℕ) → member p (filter t xs) ≡ true → (member p xs ≡ true) × (t p ≡ true)
filter_member t p [] e = absurd (false≢true e)
filter_member t p (x ∷ xs) e = go (t x) refl (eqb_case x p) (filter_member t p xs)
  where
    go : (b : Bool) → t x ≡ b → EqCase x p → (member p (filter t xs) ≡ true → (member p xs ≡ true) × (t p ≡ true)) → (member p (x ∷ xs) ≡ true) × (t p ≡ true)
    go true d (holds q z) ih = (rw z, rw q at d)
    go true d (fails q z) ih = let k = ih (rw (d, z) at e) in (member_there p x xs k.0, k.1)
    go false d c ih = let k = ih (rw d at e) in (member_there p x xs k.0, k.1)

pub member_filter : (t : ℕ → Bool) (p : ℕ) (xs : List ℕ) → member p xs ≡ true → t p ≡ true → member p (filter t xs) ≡ true
member_filter t p [] e k = e
member_filter t p (x ∷ xs) e k = go (t x) refl (eqb_case x p) (λ z. member_filter t p xs z k)
  where
    go : (b : Bool) → t x ≡ b → EqCase x p → (member p xs ≡ true → member p (filter t xs) ≡ true) → member p (filter t (x ∷ xs)) ≡ true
    go true d (holds q z) ih = rw (d, z)
    go true d (fails q z) ih = rw (d, z) (ih (rw z at e))
    go false d (holds q z) ih = absurd (false≢true (sym d ∙ (rw (← q) at k)))
    go false d (fails q z) ih = rw d (ih (rw z at e))

pub up_to_member : (n p : ℕ) → member p (up_to n) ≡ true → inside n p ≡ true
up_to_member zero p e = absurd (false≢true e)
up_to_member (suc n) p e = go (eqb_case (suc n) p) (member p (up_to n)) refl (up_to_member n p)
  where
    go : EqCase (suc n) p → (b : Bool) → member p (up_to n) ≡ b → (member p (up_to n) ≡ true → inside n p ≡ true) → inside (suc n) p ≡ true
    go (holds d z) b w ih = bounds_inside (suc n) p (omega arith) (omega arith)
    go (fails d z) true w ih = let k = inside_bounds n p (ih w) in bounds_inside (suc n) p k.0 (omega arith)
    go (fails d z) false w ih = absurd (false≢true (rw (member_append p (up_to n) (suc n ∷ []), w, z) at e))

pub member_up_to : (n p : ℕ) → inside n p ≡ true → member p (up_to n) ≡ true
member_up_to zero p e = let k = inside_bounds 0 p e in let z : ⊥ = omega arith in absurd z
member_up_to (suc n) p e = rw (member_append p (up_to n) (suc n ∷ [])) (go (eqb_case (suc n) p) (member_up_to n p))
  where
    go : EqCase (suc n) p → (inside n p ≡ true → member p (up_to n) ≡ true) → member p (up_to n) || member p (suc n ∷ []) ≡ true
    go (holds d z) ih = rw (z, or-true)
    go (fails d z) ih = let k = inside_bounds (suc n) p e in rw (ih (bounds_inside n p k.0 (omega arith)))

-- ---- how long a list can be

pub inside_suc : (k p : ℕ) → p ≢ suc k → inside (suc k) p ≡ inside k p
inside_suc k p h = go (leb_case (suc k) p)
  where
    go : LeCase (suc k) p → inside (suc k) p ≡ inside k p
    go (holds d e) = rw (e, leb_yes (suc (suc k)) p (omega arith))
    go (fails d e) = rw (e, leb_no (suc (suc k)) p (omega arith))

-- those of 1 to n, each at most once, are at most n
pub at_most : (n : ℕ) (xs : List ℕ) → ((p : ℕ) → count p xs ≤ bit (inside n p)) → length xs ≤ n
at_most zero [] h = omega arith
at_most zero (x ∷ xs) h =
    let a = member_count x (x ∷ xs) (member_here x xs) in
    let b = h x in
    let c = inside_bounds 0 x (bit_split (inside 0 x) (omega arith)) in
    omega arith
at_most (suc n) xs h =
    let a = length_remove (suc n) xs in
    let b = h (suc n) in
    let c = bit_small (inside (suc n) (suc n)) in
    let d = at_most n (remove (suc n) xs) (λ p. go p (eqb_case (suc n) p)) in
    omega arith
  where
    go : (p : ℕ) → EqCase (suc n) p → count p (remove (suc n) xs) ≤ bit (inside n p)
    go p (holds d e) = rw (← d, count_remove_same (suc n) xs) (omega arith)
    go p (fails d e) = rw (count_remove_other p (suc n) xs d, ← (inside_suc n p (λ z. d (sym z)))) (h p)

-- those of one list, and then those of another
pub filter_append : (t : ℕ → Bool) (xs ys : List ℕ) → filter t (xs ++ ys) ≡ filter t xs ++ filter t ys
filter_append t [] ys = refl
filter_append t (x ∷ xs) ys = rw (filter_append t xs ys) (go (t x))
  where
    go : (b : Bool) → cond b (x ∷ (filter t xs ++ filter t ys)) (filter t xs ++ filter t ys) ≡ cond b (x ∷ filter t xs) (filter t xs) ++ filter t ys
    go true = refl
    go false = refl

pub filter_length : (t : ℕ → Bool) (xs : List ℕ) → length (filter t xs) ≤ length xs
filter_length t [] = omega arith
filter_length t (x ∷ xs) = go (t x) (filter_length t xs)
  where
    go : (b : Bool) → length (filter t xs) ≤ length xs → length (cond b (x ∷ filter t xs) (filter t xs)) ≤ length (x ∷ xs)
    go true ih = omega arith
    go false ih = omega arith

-- ---- what holds of all

pub all_map : {A : Type 0} (P Q : A → Type 0) (xs : List A) → ((y : A) → P y → Q y) → All P xs → All Q xs
all_map P Q [] f h = tt
all_map P Q (x ∷ xs) f h = (f x h.0, all_map P Q xs f h.1)

pub all_append : {A : Type 0} (P : A → Type 0) (xs ys : List A) → All P xs → All P ys → All P (xs ++ ys)
all_append P [] ys h k = k
all_append P (x ∷ xs) ys h k = (h.0, all_append P xs ys h.1 k)

-- of the first list of two, and of the second
pub all_left : {A : Type 0} (P : A → Type 0) (xs ys : List A) → All P (xs ++ ys) → All P xs
all_left P [] ys h = tt
all_left P (x ∷ xs) ys h = (h.0, all_left P xs ys h.1)

pub all_right : {A : Type 0} (P : A → Type 0) (xs ys : List A) → All P (xs ++ ys) → All P ys
all_right P [] ys h = h
all_right P (x ∷ xs) ys h = all_right P xs ys h.1

module _ (P : ℕ → Type 0) where
  -- of each member, and of all
  pub all_members : (xs : List ℕ) → ((x : ℕ) → member x xs ≡ true → P x) → All P xs
  all_members [] h = tt
  all_members (x ∷ xs) h = (h x (member_here x xs), all_members xs (λ y m. h y (member_there y x xs m)))

  pub members_all : (xs : List ℕ) → All P xs → (x : ℕ) → member x xs ≡ true → P x
  members_all [] h x m = absurd (false≢true m)
  members_all (y ∷ ys) h x m = go (eqb_case y x) (λ k. members_all ys h.1 x k)
    where
      go : EqCase y x → (member x ys ≡ true → P x) → P x
      go (holds d e) ih = subst P d h.0
      go (fails d e) ih = ih (rw e at m)

all_remove : (P Q : ℕ → Type 0) (p : ℕ) → ((y : ℕ) → y ≢ p → P y → Q y) → (xs : List ℕ) → All P xs → All Q (remove p xs)
all_remove P Q p f [] h = tt
all_remove P Q p f (x ∷ xs) h = go (eqb_case x p) (all_remove P Q p f xs h.1)
  where
    go : EqCase x p → All Q (remove p xs) → All Q (remove p (x ∷ xs))
    go (holds d e) r = rw e r
    go (fails d e) r = rw e (f x d h.0, r)

all_insert : (P : ℕ → Type 0) (pr : ℕ → ℕ) (p : ℕ) (xs : List ℕ) → P p → All P xs → All P (insert pr p xs)
all_insert P pr p [] a h = (a, tt)
all_insert P pr p (x ∷ xs) a h = go (leb (pr p) (pr x)) (all_insert P pr p xs a h.1)
  where
    go : (b : Bool) → All P (insert pr p xs) → All P (cond b (x ∷ insert pr p xs) (p ∷ x ∷ xs))
    go true r = (h.0, r)
    go false r = (a, h)

-- ---- the falling order

-- priorities that differ at p alone
abbrev pub SameOff : ℕ → (ℕ → ℕ) → (ℕ → ℕ) → Type 0
SameOff p f g = (x : ℕ) → x ≢ p → f x ≡ g x

-- who leaves may take another priority
pub falling_remove : (f g : ℕ → ℕ) (p : ℕ) (xs : List ℕ) → SameOff p f g → Falling f xs → Falling g (remove p xs)
falling_remove f g p [] o h = tt
falling_remove f g p (x ∷ xs) o h = go (eqb_case x p) (falling_remove f g p xs o h.1)
  where
    go : EqCase x p → Falling g (remove p xs) → Falling g (remove p (x ∷ xs))
    go (holds d e) r = rw e r
    go (fails d e) r = rw e (all_remove (λ y. f y ≤ f x) (λ y. g y ≤ g x) p (λ y k w. let a = o x d in let b = o y k in omega arith) xs h.0, r)

pub falling_insert : (pr : ℕ → ℕ) (p : ℕ) (xs : List ℕ) → Falling pr xs → Falling pr (insert pr p xs)
falling_insert pr p [] h = (tt, tt)
falling_insert pr p (x ∷ xs) h = go (leb_case (pr p) (pr x)) (falling_insert pr p xs h.1)
  where
    go : LeCase (pr p) (pr x) → Falling pr (insert pr p xs) → Falling pr (insert pr p (x ∷ xs))
    go (holds d e) r = rw e (all_insert (λ y. pr y ≤ pr x) pr p xs d h.0, r)
    go (fails d e) r = rw e ((omega arith, all_map (λ y. pr y ≤ pr x) (λ y. pr y ≤ pr p) xs (λ y k. omega arith) h.0), h)

-- those who pass a test
all_filter : (P : ℕ → Type 0) (t : ℕ → Bool) (xs : List ℕ) → All P xs → All P (filter t xs)
all_filter P t [] h = tt
all_filter P t (x ∷ xs) h = go (t x) (all_filter P t xs h.1)
  where
    go : (b : Bool) → All P (filter t xs) → All P (cond b (x ∷ filter t xs) (filter t xs))
    go true r = (h.0, r)
    go false r = r

pub falling_filter : (pr : ℕ → ℕ) (t : ℕ → Bool) (xs : List ℕ) → Falling pr xs → Falling pr (filter t xs)
falling_filter pr t [] h = tt
falling_filter pr t (x ∷ xs) h = go (t x) (falling_filter pr t xs h.1)
  where
    go : (b : Bool) → Falling pr (filter t xs) → Falling pr (cond b (x ∷ filter t xs) (filter t xs))
    go true r = (all_filter (λ y. pr y ≤ pr x) t xs h.0, r)
    go false r = r

-- ---- where a newcomer goes

pub insert_skip : (pr : ℕ → ℕ) (p : ℕ) (xs ys : List ℕ) → All (λ x. pr p ≤ pr x) xs → insert pr p (xs ++ ys) ≡ xs ++ insert pr p ys
insert_skip pr p [] ys h = refl
insert_skip pr p (x ∷ xs) ys h = rw (leb_yes (pr p) (pr x) h.0, insert_skip pr p xs ys h.1)

pub insert_front : (pr : ℕ → ℕ) (p : ℕ) (ys : List ℕ) → All (λ x. pr x < pr p) ys → insert pr p ys ≡ p ∷ ys
insert_front pr p [] h = refl
insert_front pr p (x ∷ ys) h = rw (leb_no (pr p) (pr x) h.0)
