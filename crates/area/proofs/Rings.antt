-- The rings of a state: the nexts that it prescribes make a ring of each of its queues, and nexts that make rings of its queues are those
-- that it prescribes, since each process stands in one queue, once. Assumes nothing.
use Prim.Native.Nat.{ℕ, zero, suc, ◌+◌, ◌≤◌}
use native.Mathlib.Decide.{ℕ_discrete}
use native.Mathlib.Omega.{arith}
use mathlib.Core.Path.{◌≡◌, refl, sym, ap, ◌∙◌}
use mathlib.Core.Bool.{Bool, true, false, ◌&&◌, true≢false, false≢true}
use mathlib.Core.List.{List, [], ◌∷◌, ◌++◌}
use mathlib.Core.Logic.{◌≢◌, ◌⊎◌, inl, inr}
use lib.Dec.{eqb}
use Rattle.model.specs.declared.Shape.{Shape}
use Rattle.model.specs.Queue.{Queue, inside, bit, same, exists, member, count, first}
use Rattle.model.specs.Queue.Queue.{ready, park, lock, condition}
use Rattle.model.specs.Machine.{State, model}
use Rattle.model.specs.Valid.{Placed}
use Rattle.model.proofs.Tests.{holds, fails, EqCase, eqb_case, eqb_yes, eqb_no, inside_bounds, bounds_inside, bit_small}
use Rattle.model.proofs.Lists.{member_count, member_here, member_there, nobody}
use Rattle.model.proofs.Places.{stands_at, at_place}
use Rattle.ring.specs.Ring.{last_of, Linked}
use Rattle.ring.proofs.Lists.{member_last}
use Rattle.area.specs.Layout.{for_each}
use Rattle.area.specs.State.{last, after_in, queues, next_in}

-- ---- chains

pub chain_ext : (f g : ℕ → ℕ) (x : ℕ) (xs : List ℕ) → ((p : ℕ) → member p (x ∷ xs) ≡ true → f p ≡ g p) → Linked f x xs → Linked g x xs
chain_ext f g x [] h c = tt
chain_ext f g x (y ∷ ys) h c = (sym (h x (member_here x (y ∷ ys))) ∙ c.0, chain_ext f g y ys (λ p m. h p (member_there p x (y ∷ ys) m)) c.1)

-- a ring goes by the nexts of its own processes
pub ring_ext : (f g : ℕ → ℕ) (xs : List ℕ) → ((p : ℕ) → member p xs ≡ true → f p ≡ g p) → Linked f (last xs) xs → Linked g (last xs) xs
ring_ext f g [] h c = tt
ring_ext f g (x ∷ xs) h c = (sym (h (last_of x xs) (member_last x xs)) ∙ c.0, chain_ext f g x xs h c.1)

-- two that have the same chain agree on all of it but its last
chain_agree : (f g : ℕ → ℕ) (x : ℕ) (xs : List ℕ) → Linked f x xs → Linked g x xs → (p : ℕ) → member p (x ∷ xs) ≡ true → (p ≡ last_of x xs → f p ≡ g p) → f p ≡ g p
chain_agree f g x [] c d p m h = go (eqb_case x p)
  where
    go : EqCase x p → f p ≡ g p
    go (holds e z) = h (sym e)
    go (fails e z) = absurd (false≢true (rw z at m))
chain_agree f g x (y ∷ ys) c d p m h = go (eqb_case x p) (λ k. chain_agree f g y ys c.1 d.1 p k h)
  where
    go : EqCase x p → (member p (y ∷ ys) ≡ true → f p ≡ g p) → f p ≡ g p
    go (holds e z) ih = rw (← e) (c.0 ∙ sym d.0)
    go (fails e z) ih = ih (rw z at m)

pub ring_agree : (f g : ℕ → ℕ) (xs : List ℕ) → Linked f (last xs) xs → Linked g (last xs) xs → (p : ℕ) → member p xs ≡ true → f p ≡ g p
ring_agree f g [] c d p m = absurd (false≢true m)
ring_agree f g (x ∷ xs) c d p m = chain_agree f g x xs c.1 d.1 p m (λ e. rw e (c.0 ∙ sym d.0))

-- ---- the order of a list is a ring

-- nobody stands twice
abbrev pub Once : List ℕ → Type 0
Once xs = (p : ℕ) → count p xs ≤ 1

pub once_rest : (x : ℕ) (xs : List ℕ) → Once (x ∷ xs) → Once xs
once_rest x xs h p = let k = h p in omega arith

pub once_apart : (x : ℕ) (xs : List ℕ) → Once (x ∷ xs) → (p : ℕ) → member p xs ≡ true → x ≢ p
once_apart x xs h p m e =
    let k : bit (eqb x p) + count p xs ≤ 1 = h p in
    let o : bit (eqb x p) ≡ 1 = rw (eqb_yes x p e) in
    let c = member_count p xs m in
    omega arith

after_other : (h x : ℕ) (xs : List ℕ) (p : ℕ) → x ≢ p → after_in h (x ∷ xs) p ≡ after_in h xs p
after_other h x xs p n = rw (eqb_no x p n)

after_chain : (h x : ℕ) (xs : List ℕ) → Once (x ∷ xs) → Linked (after_in h (x ∷ xs)) x xs × (after_in h (x ∷ xs) (last_of x xs) ≡ h)
after_chain h x [] d = (tt, rw (eqb_yes x x refl))
after_chain h x (y ∷ ys) d =
    let r = after_chain h y ys (once_rest x (y ∷ ys) d) in
    let other : (p : ℕ) → member p (y ∷ ys) ≡ true → after_in h (y ∷ ys) p ≡ after_in h (x ∷ y ∷ ys) p =
    λ p i. sym (after_other h x (y ∷ ys) p (once_apart x (y ∷ ys) d p i)) in
    ((rw (eqb_yes x x refl), chain_ext (after_in h (y ∷ ys)) (after_in h (x ∷ y ∷ ys)) y ys other r.0), sym (other (last_of y ys) (member_last y ys)) ∙ r.1)

after_ring : (xs : List ℕ) → Once xs → Linked (after_in (first xs) xs) (last xs) xs
after_ring [] d = tt
after_ring (x ∷ xs) d = let r = after_chain x x xs d in (r.1, r.0)

-- ---- the queues that the counts give

abbrev pub In : Queue → List Queue → Type 0
In q [] = ⊥
In q (r ∷ rs) = (q ≡ r) ⊎ In q rs

pub in_left : (q : Queue) (xs ys : List Queue) → In q xs → In q (xs ++ ys)
in_left q [] ys x' = elim x' [ ]
in_left q (x ∷ xs) ys (inl e) = inl e
in_left q (x ∷ xs) ys (inr i) = inr (in_left q xs ys i)

pub in_right : (q : Queue) (xs ys : List Queue) → In q ys → In q (xs ++ ys)
in_right q [] ys i = i
in_right q (x ∷ xs) ys i = inr (in_right q xs ys i)

each_in : (k : ℕ) (f : ℕ → Queue) (i : ℕ) → inside k i ≡ true → In (f i) (for_each k (λ j. f j ∷ []))
each_in zero f i h = let b = inside_bounds 0 i h in let z : ⊥ = omega arith in absurd z
each_in (suc k) f i h = go (ℕ_discrete i (suc k)) (each_in k f i)
  where
    go : Dec (i ≡ suc k) → (inside k i ≡ true → In (f i) (for_each k (λ j. f j ∷ []))) → In (f i) (for_each k (λ j. f j ∷ []) ++ (f (suc k) ∷ []))
    go (yes e) ih = in_right (f i) (for_each k (λ j. f j ∷ [])) (f (suc k) ∷ []) (inl (ap f e))
    go (no e) ih = let b = inside_bounds (suc k) i h in in_left (f i) (for_each k (λ j. f j ∷ [])) (f (suc k) ∷ []) (ih (bounds_inside k i b.0 (omega arith)))

queue_in : (n : Shape) (q : Queue) → exists n q ≡ true → In q (queues n)
queue_in n ready v = inl refl
queue_in n (park k) v = inr (in_left (park k) (for_each n.parks (λ k. park k ∷ [])) _ (each_in n.parks park k v))
queue_in n (lock l) v =
    inr (in_right (lock l) (for_each n.parks (λ k. park k ∷ [])) _ (in_left (lock l) (for_each n.locks (λ l. lock l ∷ [])) _ (each_in n.locks lock l v)))
queue_in n (condition c) v =
    inr (in_right (condition c) (for_each n.parks (λ k. park k ∷ [])) _ (in_right (condition c) (for_each n.locks (λ l. lock l ∷ [])) _ (each_in n.conditions condition c v)))

-- who follows p in the queue where it stands
next_at : (qs : Queue → List ℕ) (rs : List Queue) (q : Queue) (p : ℕ) → In q rs → member p (qs q) ≡ true → ((r : Queue) → member p (qs r) ≡ true → r ≡ q) → next_in qs rs p ≡ after_in (first (qs q)) (qs q) p
next_at qs [] q p i m one = elim i [ ]
next_at qs (r ∷ rs) q p i m one = go (member p (qs r)) refl i (λ k. next_at qs rs q p k m one)
  where
    go : (b : Bool) → member p (qs r) ≡ b → (q ≡ r) ⊎ In q rs → (In q rs → next_in qs rs p ≡ after_in (first (qs q)) (qs q) p) → next_in qs (r ∷ rs) p ≡ after_in (first (qs q)) (qs q) p
    go true e k ih = rw (e, one r e)
    go false e (inl k) ih = absurd (true≢false (sym m ∙ rw k e))
    go false e (inr k) ih = rw e (ih k)

-- ---- a placed state

module _ (n : Shape) (s : State model) (P : Placed n s) where
  -- a member of a queue is a process, and it stands in no other
  pub member_inside : (p : ℕ) (q : Queue) → member p (s.queues q) ≡ true → inside n.processes p ≡ true
  member_inside p q m = (stands_at n.processes s.queues P.place P.once p q m).0

  pub one_queue : (p : ℕ) (q r : Queue) → member p (s.queues q) ≡ true → member p (s.queues r) ≡ true → q ≡ r
  one_queue p q r m k =
      sym (stands_at n.processes s.queues P.place P.once p q m).1 ∙ (stands_at n.processes s.queues P.place P.once p r k).1

  pub home_queue : (p : ℕ) → inside n.processes p ≡ true → member p (s.queues (P.place p)) ≡ true
  home_queue p i = at_place n.processes s.queues P.place P.once p (P.place p) i refl

  pub queue_once : (q : Queue) → Once (s.queues q)
  queue_once q p = rw (P.once p q) (bit_small (inside n.processes p && same (P.place p) q))

  -- a queue that the counts do not give is empty
  pub queue_none : (q : Queue) → exists n q ≡ false → s.queues q ≡ []
  queue_none q v = nobody (s.queues q) (λ p. go p (member p (s.queues q)) refl)
    where
      go : (p : ℕ) (b : Bool) → member p (s.queues q) ≡ b → member p (s.queues q) ≡ false
      go p false e = e
      go p true e =
          let k = stands_at n.processes s.queues P.place P.once p q e in
          absurd (true≢false (sym (P.real p k.0) ∙ rw k.1 v))

  next_is : (p : ℕ) (q : Queue) → exists n q ≡ true → member p (s.queues q) ≡ true → next_in s.queues (queues n) p ≡ after_in (first (s.queues q)) (s.queues q) p
  next_is p q v m = next_at s.queues (queues n) q p (queue_in n q v) m (λ r k. one_queue p r q k m)

  -- the nexts that it prescribes make a ring of each of its queues
  pub laid_ring : (q : Queue) → exists n q ≡ true → Linked (next_in s.queues (queues n)) (last (s.queues q)) (s.queues q)
  laid_ring q v =
      ring_ext (after_in (first (s.queues q)) (s.queues q)) (next_in s.queues (queues n)) (s.queues q) (λ p m. sym (next_is p q v m)) (after_ring (s.queues q) (queue_once q))

  -- nexts that make rings of its queues are those that it prescribes
  pub rings_laid : (nx : ℕ → ℕ) → ((q : Queue) → exists n q ≡ true → Linked nx (last (s.queues q)) (s.queues q)) → (p : ℕ) → inside n.processes p ≡ true → nx p ≡ next_in s.queues (queues n) p
  rings_laid nx r p i =
      let q = P.place p in
      let v = P.real p i in
      ring_agree nx (next_in s.queues (queues n)) (s.queues q) (r q v) (laid_ring q v) p (home_queue p i)
