-- Laws of the layout: an address is one slot's, and each index below the size is the address of a slot. The list of slots has each slot at
-- its own address, so two slots with one address are one. Assumes nothing.
use Prim.Native.Nat.{ℕ, zero, suc, ◌+◌, ◌-◌, ◌*◌, ◌/◌, ◌%◌, ◌≤◌, ◌<◌}
use native.Mathlib.Nat.{mul-zero, mul-suc, mul-le-mul_left}
use native.Mathlib.Decide.{dec_lt, ℕ_discrete}
use native.Mathlib.Omega.{arith}
use mathlib.Core.Path.{◌≡◌, refl, sym, ◌∙◌}
use mathlib.Core.Bool.{true}
use mathlib.Core.List.{List, [], ◌∷◌, ◌++◌}
use lib.ListN.{length, get_or, length-append, get_or-append}
use lib.Seq.{get_or-append-add}
use Rattle.model.specs.declared.Shape.{Shape}
use Rattle.model.specs.Queue.{inside}
use Rattle.model.specs.Queue.Queue.{ready, park, lock, condition}
use Rattle.model.proofs.Tests.{inside_bounds, bounds_inside}
use Rattle.area.specs.Layout.{Slot, for_each, slots, locks_at, conditions_at, records_at, size, at, has}
use Rattle.area.specs.Layout.Slot.{Processes, LocksConditions, Parks, Clock, Running, Tail, Holder, Link, Flags, Timer}

-- ---- rows of blocks of one width

block_length : (n w : ℕ) (f : ℕ → List Slot) → ((i : ℕ) → length (f i) ≡ w) → length (for_each n f) ≡ w * n
block_length zero w f e = sym (mul-zero w)
block_length (suc n) w f e =
    let h : length (for_each n f) ≡ w * n = block_length n w f e in
    let g : length (for_each n f ++ f (suc n)) ≡ length (for_each n f) + length (f (suc n)) = length-append (for_each n f) (f (suc n)) in
    let k : w * suc n ≡ w * n + w = mul-suc w n in
    omega (arith, e (suc n))

-- past the first list, in the second
skip : (xs ys : List Slot) (o m : ℕ) → o ≡ length xs + m → get_or (xs ++ ys) o Clock ≡ get_or ys m Clock
skip xs ys o m e = rw e (get_or-append-add xs ys m Clock)

block_at : (n w : ℕ) (f : ℕ → List Slot) → ((i : ℕ) → length (f i) ≡ w) → (i j : ℕ) → i < n → j < w → get_or (for_each n f) (w * i + j) Clock ≡ get_or (f (suc i)) j Clock
block_at zero w f e i j h g = absurd (omega arith)
block_at (suc n) w f e i j h g =
    let k : length (for_each n f) ≡ w * n = block_length n w f e in
    elim (ℕ_discrete i n) [
      | yes q ↦ skip (for_each n f) (f (suc n)) (w * i + j) j (cc) ∙ rw q
      | no q ↦
          let m : i < n = omega arith in
          let l : w * suc i ≤ w * n = mul-le-mul_left w m in
          get_or-append (for_each n f) (f (suc n)) Clock (w * i + j) (omega (arith, mul-suc w i))
          ∙ block_at n w f e i j m g
    ]

-- slot j of block i, which counts from 1
block : (n w : ℕ) (f : ℕ → List Slot) → ((i : ℕ) → length (f i) ≡ w) → (i j o : ℕ) → 1 ≤ i → i ≤ n → j < w → o ≡ w * (i - 1) + j → get_or (for_each n f) o Clock ≡ get_or (f i) j Clock
block n w f e zero j o a b g q = absurd (omega arith)
block n w f e (suc i) j o a b g q =
    let r : suc i - 1 ≡ i = omega arith in
    rw (q, r) (block_at n w f e i j (omega arith) g)

-- ---- the parts of `slots`

abbrev front : List Slot
front = Processes ∷ LocksConditions ∷ Parks ∷ Clock ∷ Running ∷ Tail ready ∷ []

abbrev of_park : ℕ → List Slot
of_park k = Tail (park k) ∷ []

abbrev of_lock : ℕ → List Slot
of_lock l = Tail (lock l) ∷ Holder l ∷ []

abbrev of_condition : ℕ → List Slot
of_condition c = Tail (condition c) ∷ []

abbrev of_process : ℕ → List Slot
of_process p = Link p ∷ Flags p ∷ Timer p ∷ []

-- what follows the parks' words, the locks', the conditions'
abbrev from_conditions : Shape → List Slot
from_conditions n = for_each n.conditions of_condition ++ for_each n.processes of_process

abbrev from_locks : Shape → List Slot
from_locks n = for_each n.locks of_lock ++ from_conditions n

abbrev from_parks : Shape → List Slot
from_parks n = for_each n.parks of_park ++ from_locks n

module _ (n : Shape) where
  parks_long : length (for_each n.parks of_park) ≡ 1 * n.parks
  parks_long = block_length n.parks 1 of_park (λ k. refl)

  locks_long : length (for_each n.locks of_lock) ≡ 2 * n.locks
  locks_long = block_length n.locks 2 of_lock (λ k. refl)

  conditions_long : length (for_each n.conditions of_condition) ≡ 1 * n.conditions
  conditions_long = block_length n.conditions 1 of_condition (λ k. refl)

  processes_long : length (for_each n.processes of_process) ≡ 3 * n.processes
  processes_long = block_length n.processes 3 of_process (λ k. refl)

  pub slots_long : length (slots n) ≡ size n
  unfolding slots
  slots_long = simp length-append (omega (arith, parks_long, locks_long, conditions_long, processes_long))

  past_front : (o m : ℕ) → o ≡ 6 + m → get_or (slots n) o Clock ≡ get_or (from_parks n) m Clock
  unfolding slots
  past_front o m e = skip front (from_parks n) o m e

  past_parks : (o m : ℕ) → o ≡ locks_at n + m → get_or (slots n) o Clock ≡ get_or (from_locks n) m Clock
  past_parks o m e =
      past_front o (n.parks + m) (omega arith)
      ∙ skip (for_each n.parks of_park) (from_locks n) (n.parks + m) m (omega (arith, parks_long))

  past_locks : (o m : ℕ) → o ≡ conditions_at n + m → get_or (slots n) o Clock ≡ get_or (from_conditions n) m Clock
  past_locks o m e =
      past_parks o (2 * n.locks + m) (omega arith)
      ∙ skip (for_each n.locks of_lock) (from_conditions n) (2 * n.locks + m) m (omega (arith, locks_long))

  past_conditions : (o m : ℕ) → o ≡ records_at n + m → get_or (slots n) o Clock ≡ get_or (for_each n.processes of_process) m Clock
  past_conditions o m e =
      past_locks o (n.conditions + m) (omega arith)
      ∙ skip (for_each n.conditions of_condition) (for_each n.processes of_process) (n.conditions + m) m (omega (arith, conditions_long))

  park_at : (k : ℕ) → inside n.parks k ≡ true → get_or (slots n) (6 + (k - 1)) Clock ≡ Tail (park k)
  park_at k v =
      let b = inside_bounds n.parks k v in
      past_front _ (k - 1) refl
      ∙ (get_or-append (for_each n.parks of_park) (from_locks n) Clock (k - 1) (omega (arith, parks_long))
      ∙ block n.parks 1 of_park (λ k. refl) k 0 (k - 1) b.0 b.1 (omega arith) (omega arith))

  lock_at : (l j o : ℕ) → inside n.locks l ≡ true → j < 2 → o ≡ locks_at n + 2 * (l - 1) + j → get_or (slots n) o Clock ≡ get_or (of_lock l) j Clock
  lock_at l j o v h e =
      let b = inside_bounds n.locks l v in
      past_parks o (2 * (l - 1) + j) (omega arith)
      ∙ (get_or-append (for_each n.locks of_lock) (from_conditions n) Clock (2 * (l - 1) + j) (omega (arith, locks_long))
      ∙ block n.locks 2 of_lock (λ k. refl) l j (2 * (l - 1) + j) b.0 b.1 h refl)

  condition_at : (c : ℕ) → inside n.conditions c ≡ true → get_or (slots n) (conditions_at n + (c - 1)) Clock ≡ Tail (condition c)
  condition_at c v =
      let b = inside_bounds n.conditions c v in
      past_locks _ (c - 1) refl
      ∙ (get_or-append (for_each n.conditions of_condition) (for_each n.processes of_process) Clock (c - 1) (omega (arith, conditions_long))
      ∙ block n.conditions 1 of_condition (λ k. refl) c 0 (c - 1) b.0 b.1 (omega arith) (omega arith))

  process_at : (p j o : ℕ) → inside n.processes p ≡ true → j < 3 → o ≡ records_at n + (p - 1) * 3 + j → get_or (slots n) o Clock ≡ get_or (of_process p) j Clock
  process_at p j o v h e =
      let b = inside_bounds n.processes p v in
      past_conditions o (3 * (p - 1) + j) (omega arith)
      ∙ block n.processes 3 of_process (λ k. refl) p j (3 * (p - 1) + j) b.0 b.1 h refl

  -- a slot stands at its own address
  pub slot_at : (a : Slot) → has n a ≡ true → get_or (slots n) (at n a) Clock ≡ a
  unfolding slots
  slot_at Processes v = refl
  slot_at LocksConditions v = refl
  slot_at Parks v = refl
  slot_at Clock v = refl
  slot_at Running v = refl
  slot_at (Tail ready) v = refl
  slot_at (Tail (park k)) v = park_at k v
  slot_at (Tail (lock l)) v = lock_at l 0 (at n (Tail (lock l))) v (omega arith) (omega arith)
  slot_at (Tail (condition c)) v = condition_at c v
  slot_at (Holder l) v = lock_at l 1 _ v (omega arith) refl
  slot_at (Link p) v = process_at p 0 (at n (Link p)) v (omega arith) (omega arith)
  slot_at (Flags p) v = process_at p 1 _ v (omega arith) refl
  slot_at (Timer p) v = process_at p 2 _ v (omega arith) refl

  -- two slots have not one address
  pub at_one : (a b : Slot) → has n a ≡ true → has n b ≡ true → at n a ≡ at n b → a ≡ b
  at_one a b v w e = cc (slot_at a v, slot_at b w)

  pub at_below : (a : Slot) → has n a ≡ true → at n a < size n
  at_below Processes v = omega arith
  at_below LocksConditions v = omega arith
  at_below Parks v = omega arith
  at_below Clock v = omega arith
  at_below Running v = omega arith
  at_below (Tail ready) v = omega arith
  at_below (Tail (park k)) v = omega (arith, inside_bounds n.parks k v)
  at_below (Tail (lock l)) v = omega (arith, inside_bounds n.locks l v)
  at_below (Tail (condition c)) v = omega (arith, inside_bounds n.conditions c v)
  at_below (Holder l) v = omega (arith, inside_bounds n.locks l v)
  at_below (Link p) v = omega (arith, inside_bounds n.processes p v)
  at_below (Flags p) v = omega (arith, inside_bounds n.processes p v)
  at_below (Timer p) v = omega (arith, inside_bounds n.processes p v)

  -- each index below the size is a slot's
  abbrev pub Covered : ℕ → Type 0
  Covered i = (a : Slot) × (has n a ≡ true) × (at n a ≡ i)

  cover_front : (i : ℕ) → i < 6 → Covered i
  cover_front zero h = (Processes, refl, refl)
  cover_front (suc zero) h = (LocksConditions, refl, refl)
  cover_front (suc (suc zero)) h = (Parks, refl, refl)
  cover_front (suc (suc (suc zero))) h = (Clock, refl, refl)
  cover_front (suc (suc (suc (suc zero)))) h = (Running, refl, refl)
  cover_front (suc (suc (suc (suc (suc zero))))) h = (Tail ready, refl, refl)
  cover_front (suc (suc (suc (suc (suc (suc i)))))) h = absurd (omega arith)

  cover_locks : (m : ℕ) → m < 2 * n.locks → Covered (locks_at n + m)
  cover_locks m h =
      let v : inside n.locks (m / 2 + 1) ≡ true = bounds_inside n.locks (m / 2 + 1) (omega arith) (omega arith) in
      elim (ℕ_discrete (m % 2) 0) [
        | yes q ↦ (Tail (lock (m / 2 + 1)), v, omega arith)
        | no q ↦ (Holder (m / 2 + 1), v, omega arith)
      ]

  cover_processes : (m : ℕ) → m < 3 * n.processes → Covered (records_at n + m)
  cover_processes m h =
      let v : inside n.processes (m / 3 + 1) ≡ true = bounds_inside n.processes (m / 3 + 1) (omega arith) (omega arith) in
      elim (ℕ_discrete (m % 3) 0) [
        | yes q ↦ (Link (m / 3 + 1), v, omega arith)
        | no q ↦
            elim (ℕ_discrete (m % 3) 1) [
              | yes r ↦ (Flags (m / 3 + 1), v, omega arith)
              | no r ↦ (Timer (m / 3 + 1), v, omega arith)
            ]
      ]

  shifted : (i j : ℕ) → j ≡ i → Covered j → Covered i
  shifted i j e c = rw e at c

  pub cover : (i : ℕ) → i < size n → Covered i
  cover i h =
      elim (dec_lt i 6) [
        | yes q ↦ cover_front i q
        | no q ↦
            elim (dec_lt i (locks_at n)) [
              | yes r ↦ (Tail (park (i - 5)), bounds_inside n.parks (i - 5) (omega arith) (omega arith), omega arith)
              | no r ↦
                  elim (dec_lt i (conditions_at n)) [
                    | yes u ↦ shifted i (locks_at n + (i - locks_at n)) (omega arith) (cover_locks (i - locks_at n) (omega arith))
                    | no u ↦
                        elim (dec_lt i (records_at n)) [
                          | yes w ↦ (Tail (condition (i - conditions_at n + 1)), bounds_inside n.conditions (i - conditions_at n + 1) (omega arith) (omega arith), omega arith)
                          | no w ↦ shifted i (records_at n + (i - records_at n)) (omega arith) (cover_processes (i - records_at n) (omega arith))
                        ]
                  ]
            ]
      ]
