-- The queues that the counts give, in the order in which they are visited: each of them is in the list, once. Assumes nothing.
use Prim.Native.Nat.{ℕ, zero, suc, ◌+◌, ◌-◌, ◌≤◌, ◌<◌}
use native.Mathlib.Decide.{ℕ_discrete}
use native.Mathlib.Omega.{arith}
use mathlib.Core.Path.{◌≡◌, refl, sym, ◌∙◌, ap, subst}
use mathlib.Core.Logic.{◌≢◌, ◌⊎◌, inl, inr}
use mathlib.Core.Bool.{true}
use mathlib.Core.List.{List, [], ◌∷◌, ◌++◌}
use lib.Dec.{eqb}
use lib.ListN.{length}
use Rattle.model.specs.declared.Shape.{Shape}
use Rattle.model.specs.Queue.{Queue, inside, bit, same, exists, count, remove, All}
use Rattle.model.specs.Queue.Queue.{ready, park, lock, condition}
use Rattle.model.proofs.Tests.{stops, same_case, same_yes, eqb_yes, eqb_no, inside_bounds, bounds_inside, bit_small}
use Rattle.model.proofs.Lists.{at_most, count_remove_other, length_remove}
use Rattle.area.proofs.Rings.{In, in_left, in_right}
use Rattle.sound.proofs.Queues.{kind_of, queue_at, queues_of, number_of, kind_at}

-- ---- a queue in a list

in_either : (q : Queue) (xs ys : List Queue) → In q (xs ++ ys) → In q xs ⊎ In q ys
in_either q [] ys i = inr i
in_either q (x ∷ xs) ys (inl e) = inl (inl e)
in_either q (x ∷ xs) ys (inr i) = go (in_either q xs ys i)
  where
    go : In q xs ⊎ In q ys → In q (x ∷ xs) ⊎ In q ys
    go (inl j) = inl (inr j)
    go (inr j) = inr j

pub in_all : (T : Queue → Type 0) (qs : List Queue) → All T qs → (q : Queue) → In q qs → T q
in_all T [] h q x'' = elim x'' [ ]
in_all T (r ∷ rs) h q (inl e) = rw e h.0
in_all T (r ∷ rs) h q (inr i) = in_all T rs h.1 q i

pub all_in : (T : Queue → Type 0) (qs : List Queue) → ((q : Queue) → In q qs → T q) → All T qs
all_in T [] h = tt
all_in T (r ∷ rs) h = (h r (inl refl), all_in T rs (λ q i. h q (inr i)))

-- how often q is in a list
abbrev pub hits : Queue → List Queue → ℕ
hits q [] = 0
hits q (r ∷ rs) = bit (same q r) + hits q rs

hits_append : (q : Queue) (xs ys : List Queue) → hits q (xs ++ ys) ≡ hits q xs + hits q ys
hits_append q [] ys = omega arith
hits_append q (x ∷ xs) ys = let ih = hits_append q xs ys in omega arith

same_no : (q r : Queue) → q ≢ r → bit (same q r) ≡ 0
same_no q r h = rw (stops (same_case q r) h)

-- ---- the queues of a kind

-- the number of a queue in its kind
abbrev number_in : Queue → ℕ
number_in ready = 0
number_in (park k) = k
number_in (lock l) = l - 1
number_in (condition c) = c - 1

number_at : (k i : ℕ) → number_in (queue_at k i) ≡ i
number_at zero zero = refl
number_at zero (suc i) = refl
number_at (suc zero) i = omega arith
number_at (suc (suc k)) i = omega arith

in_kind : (k i m : ℕ) → i < m → In (queue_at k i) (queues_of k m)
unfolding queues_of
in_kind k i zero h = absurd (omega arith)
in_kind k i (suc m) h = elim (ℕ_discrete i m) [
  | yes e ↦ in_right (queue_at k i) (queues_of k m) (queue_at k m ∷ []) (inl (ap (queue_at k) e))
  | no e ↦ in_left (queue_at k i) (queues_of k m) (queue_at k m ∷ []) (in_kind k i m (omega arith))
]

kind_in : (T : Queue → Type 0) (k m : ℕ) → ((i : ℕ) → i < m → T (queue_at k i)) → (q : Queue) → In q (queues_of k m) → T q
unfolding queues_of
kind_in T k zero h q j = elim j [ ]
kind_in T k (suc m) h q j = go (in_either q (queues_of k m) (queue_at k m ∷ []) j) (kind_in T k m (λ i l. h i (omega arith)) q)
  where
    go : In q (queues_of k m) ⊎ In q (queue_at k m ∷ []) → (In q (queues_of k m) → T q) → T q
    go (inl a) ih = ih a
    go (inr (inr x5)) ih = elim x5 [ ]
    go (inr (inl e)) ih = rw e (h m (omega arith))

hits_above : (k i m : ℕ) → m ≤ i → hits (queue_at k i) (queues_of k m) ≡ 0
unfolding queues_of
hits_above k i zero h = refl
hits_above k i (suc m) h =
    let a = hits_append (queue_at k i) (queues_of k m) (queue_at k m ∷ []) in
    let b = hits_above k i m (omega arith) in
    let c = same_no (queue_at k i) (queue_at k m) (λ e. let d = sym (number_at k i) ∙ (ap number_in e ∙ number_at k m) in omega arith) in
    omega arith

hits_own : (k i m : ℕ) → i < m → hits (queue_at k i) (queues_of k m) ≡ 1
unfolding queues_of
hits_own k i zero h = absurd (omega arith)
hits_own k i (suc m) h =
    let a = hits_append (queue_at k i) (queues_of k m) (queue_at k m ∷ []) in
    elim (ℕ_discrete i m) [
      | yes e ↦
          let b = hits_above k i m (omega arith) in
          let c : bit (same (queue_at k i) (queue_at k m)) ≡ 1 = rw (same_yes (queue_at k i) (queue_at k m) (ap (queue_at k) e)) in
          omega arith
      | no e ↦
          let b = hits_own k i m (omega arith) in
          let c = same_no (queue_at k i) (queue_at k m) (λ z. let d = sym (number_at k i) ∙ (ap number_in z ∙ number_at k m) in omega arith) in
          omega arith
    ]

hits_other : (q : Queue) (k m : ℕ) → k ≤ 2 → kind_of q ≢ k → hits q (queues_of k m) ≡ 0
unfolding queues_of
hits_other q k zero l h = refl
hits_other q k (suc m) l h =
    let a = hits_append q (queues_of k m) (queue_at k m ∷ []) in
    let b = hits_other q k m l h in
    let c = same_no q (queue_at k m) (λ e. h (ap kind_of e ∙ kind_at k m l)) in
    omega arith

-- ---- all of them

abbrev pub every : Shape → List Queue
every n = queues_of 0 (1 + n.parks) ++ (queues_of 2 n.conditions ++ queues_of 1 n.locks)

-- a queue that the counts give, by its kind and number
by_number : (n : Shape) (q : Queue) → exists n q ≡ true → (q ≡ queue_at (kind_of q) (number_in q)) × (number_in q < number_of n (kind_of q))
by_number n ready h = (refl, omega arith)
by_number n (park zero) h = let b = inside_bounds n.parks 0 h in absurd (omega arith)
by_number n (park (suc k)) h = let b = inside_bounds n.parks (suc k) h in (refl, omega arith)
by_number n (lock zero) h = let b = inside_bounds n.locks 0 h in absurd (omega arith)
by_number n (lock (suc l)) h = let b = inside_bounds n.locks (suc l) h in (ap lock (omega arith), omega arith)
by_number n (condition zero) h = let b = inside_bounds n.conditions 0 h in absurd (omega arith)
by_number n (condition (suc c)) h = let b = inside_bounds n.conditions (suc c) h in (ap condition (omega arith), omega arith)

given : (n : Shape) (k i : ℕ) → k ≤ 2 → i < number_of n k → exists n (queue_at k i) ≡ true
given n zero zero l h = refl
given n zero (suc i) l h = bounds_inside n.parks (suc i) (omega arith) (omega arith)
given n (suc zero) i l h = bounds_inside n.locks (suc i) (omega arith) (omega arith)
given n (suc (suc zero)) i l h = bounds_inside n.conditions (suc i) (omega arith) (omega arith)
given n (suc (suc (suc k))) i l h = absurd (omega arith)

module _ (n : Shape) where
  abbrev plain : List Queue
  plain = queues_of 0 (1 + n.parks)

  abbrev conditions : List Queue
  conditions = queues_of 2 n.conditions

  abbrev locks : List Queue
  locks = queues_of 1 n.locks

  pub every_in : (q : Queue) → exists n q ≡ true → In q (every n)
  every_in q h = let b = by_number n q h in rw b.0 (go (kind_of q) (number_in q) (kind_small q) b.1)
    where
      kind_small : (q : Queue) → kind_of q ≤ 2
      kind_small ready = omega arith
      kind_small (park k) = omega arith
      kind_small (lock l) = omega arith
      kind_small (condition c) = omega arith

      go : (k i : ℕ) → k ≤ 2 → i < number_of n k → In (queue_at k i) (every n)
      go zero i l h = in_left (queue_at 0 i) plain (conditions ++ locks) (in_kind 0 i (1 + n.parks) h)
      go (suc zero) i l h = in_right (queue_at 1 i) plain (conditions ++ locks) (in_right (queue_at 1 i) conditions locks (in_kind 1 i n.locks h))
      go (suc (suc zero)) i l h = in_right (queue_at 2 i) plain (conditions ++ locks) (in_left (queue_at 2 i) conditions locks (in_kind 2 i n.conditions h))
      go (suc (suc (suc k))) i l h = absurd (omega arith)

  pub in_every : (q : Queue) → In q (every n) → exists n q ≡ true
  in_every q i = go (in_either q plain (conditions ++ locks) i)
    where
      rest : In q conditions ⊎ In q locks → exists n q ≡ true
      rest (inl a) = kind_in (λ q. exists n q ≡ true) 2 n.conditions (λ i l. given n 2 i (omega arith) l) q a
      rest (inr a) = kind_in (λ q. exists n q ≡ true) 1 n.locks (λ i l. given n 1 i (omega arith) l) q a

      go : In q plain ⊎ In q (conditions ++ locks) → exists n q ≡ true
      go (inl a) = kind_in (λ q. exists n q ≡ true) 0 (1 + n.parks) (λ i l. given n 0 i (omega arith) l) q a
      go (inr a) = rest (in_either q conditions locks a)

  pub every_once : (q : Queue) → exists n q ≡ true → hits q (every n) ≡ 1
  every_once q h =
      let s = hits_append q plain (conditions ++ locks) in
      let t = hits_append q conditions locks in
      let a = of_kind 0 (omega arith) in
      let b = of_kind 1 (omega arith) in
      let c = of_kind 2 (omega arith) in
      let d = one q in
      omega arith
    where
      of_kind : (k : ℕ) → k ≤ 2 → hits q (queues_of k (number_of n k)) ≡ bit (eqb (kind_of q) k)
      of_kind k l =
          let b = by_number n q h in
          elim (ℕ_discrete (kind_of q) k) [
            | yes e ↦
                rw (eqb_yes (kind_of q) k e)
                (subst (λ (x : Queue). hits x (queues_of k (number_of n k)) ≡ 1) (sym (b.0 ∙ ap (λ (j : ℕ). queue_at j (number_in q)) e)) (hits_own k (number_in q) (number_of n k) (rw e at b.1)))
            | no e ↦ rw (eqb_no (kind_of q) k e) (hits_other q k (number_of n k) l e)
          ]

      one : (q : Queue) → bit (eqb (kind_of q) 0) + bit (eqb (kind_of q) 1) + bit (eqb (kind_of q) 2) ≡ 1
      one ready = refl
      one (park k) = refl
      one (lock l) = refl
      one (condition c) = refl

-- ---- how many processes a list has

-- those who have each of 1 to n are at least n
at_least : (n : ℕ) (xs : List ℕ) → ((p : ℕ) → inside n p ≡ true → 1 ≤ count p xs) → n ≤ length xs
at_least zero xs h = omega arith
at_least (suc n) xs h =
    let a = length_remove (suc n) xs in
    let b = h (suc n) (bounds_inside (suc n) (suc n) (omega arith) (omega arith)) in
    let d = at_least n (remove (suc n) xs) rest in
    omega arith
  where
    rest : (p : ℕ) → inside n p ≡ true → 1 ≤ count p (remove (suc n) xs)
    rest p i = let b = inside_bounds n p i in rw (count_remove_other p (suc n) xs (λ e. omega arith)) (h p (bounds_inside (suc n) p b.0 (omega arith)))

-- each of 1 to P once, and no other: P processes
pub full_length : (P : ℕ) (js : List ℕ) → ((x : ℕ) → count x js ≡ bit (inside P x)) → length js ≡ P
full_length P js h =
    let a = at_most P js (λ x. let c = h x in omega arith) in
    let b = at_least P js (λ x i. let c = h x in let d : bit (inside P x) ≡ 1 = rw i in omega arith) in
    omega arith

-- P processes, none twice: each of 1 to P once
pub length_full : (P : ℕ) (js : List ℕ) → ((x : ℕ) → count x js ≤ bit (inside P x)) → length js ≡ P → (x : ℕ) → count x js ≡ bit (inside P x)
length_full P js h l x = elim (ℕ_discrete (count x js) (bit (inside P x))) [
  | yes e ↦ e
  | no e ↦
      let few = at_most P (x ∷ js) (λ y. more e y (ℕ_discrete x y)) in
      absurd (omega arith)
]
  where
    more : (count x js ≡ bit (inside P x) → ⊥) → (y : ℕ) → Dec (x ≡ y) → count y (x ∷ js) ≤ bit (inside P y)
    more n y (yes d) = let a : count y js < bit (inside P y) = rw (← d) (let b = h x in omega arith) in let c = bit_small (eqb x y) in omega arith
    more n y (no d) = let a = h y in let c : bit (eqb x y) ≡ 0 = rw (eqb_no x y d) in omega arith
