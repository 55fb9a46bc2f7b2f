-- A number inside is none of those outside; and what the first of a queue says: 0 where the queue is empty, since no process is 0, and else a process.
-- Assumes nothing.
use Prim.Native.Nat.{ℕ}
use native.Mathlib.Omega.{arith}
use mathlib.Core.Path.{◌≡◌, refl, sym, ◌∙◌}
use mathlib.Core.Bool.{true, false}
use mathlib.Core.Logic.{◌≢◌}
use mathlib.Core.List.{List, [], ◌∷◌}
use Rattle.model.specs.declared.Shape.{Shape}
use Rattle.model.specs.Queue.{Queue, outside, inside, member, first, first_only}
use Rattle.model.specs.Machine.{State, model}
use Rattle.model.proofs.Tests.{inside_bounds, not_true}
use Rattle.model.proofs.Lists.{member_here, first_member}
use Rattle.area.specs.Holds.{Holds}
use Rattle.area.proofs.Rings.{member_inside}

pub not_outside : (n i : ℕ) → inside n i ≡ true → outside n i ≡ false
not_outside n i h = not_true (outside n i) h

pub first_only_lem : (xs : List ℕ) {f : ℕ} → f ≡ first xs → f ≢ 0 → first_only xs ≡ f ∷ []
first_only_lem [] e h = absurd (h e)
first_only_lem (x ∷ xs) e h = rw e

-- no member is 0
pub no_first : (xs : List ℕ) → ((p : ℕ) → member p xs ≡ true → p ≢ 0) → first xs ≡ 0 → xs ≡ []
no_first [] h e = refl
no_first (x ∷ xs) h e = absurd (h x (member_here x xs) e)

pub member_some : {n : Shape} {ws : List ℕ} {s : State model} → Holds n ws s → (q : Queue) (p : ℕ) → member p (s.queues q) ≡ true → p ≢ 0
member_some {n} {ws} {s} H q p m e = let b = inside_bounds n.processes p (member_inside n s H.placed p q m) in let z : ⊥ = omega arith in absurd z

pub nobody_first : {n : Shape} {ws : List ℕ} {s : State model} → Holds n ws s → (q : Queue) {f : ℕ} → f ≡ first (s.queues q) → f ≡ 0 → s.queues q ≡ []
nobody_first {s = s} H q e z = no_first (s.queues q) (member_some H q) (sym e ∙ z)

-- it is there unless it is 0
pub first_stands : (xs : List ℕ) {x : ℕ} → x ≡ first xs → x ≢ 0 → member x xs ≡ true
first_stands xs e h = rw e (first_member xs (λ z. h (e ∙ z)))

pub first_there : {n : Shape} {ws : List ℕ} {s : State model} → Holds n ws s → (q : Queue) {f : ℕ} → f ≡ first (s.queues q) → f ≢ 0 → member f (s.queues q) ≡ true
first_there {s = s} H q e h = first_stands (s.queues q) e h

pub first_inside : {n : Shape} {ws : List ℕ} {s : State model} → Holds n ws s → (q : Queue) {f : ℕ} → f ≡ first (s.queues q) → f ≢ 0 → inside n.processes f ≡ true
first_inside {n} {s = s} H q {f} e h = member_inside n s H.placed f q (first_there H q e h)
