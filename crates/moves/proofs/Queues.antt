-- The queues of an area: one read from its tail and the records; its first; and dispatch over ready. Assumes nothing.
use Prim.Native.Nat.{ℕ, ◌-◌, ◌/◌, ◌%◌, ◌≤◌}
use native.Mathlib.Omega.{arith}
use borrow.Rule.Slice.PartMut.{mid_of}
use mathlib.Core.Path.{◌≡◌, refl, sym, ap, ◌∙◌, subst}
use mathlib.Core.Bool.{true}
use mathlib.Core.Logic.{◌≢◌}
use mathlib.Core.List.{List, [], ◌∷◌}
use lib.ListN.{length, get_or}
use Rattle.model.specs.declared.Shape.{Shape}
use Rattle.model.specs.Queue.{Queue, inside, exists, first}
use Rattle.model.specs.Queue.Queue.{ready}
use Rattle.model.specs.Field.{Fields, put}
use Rattle.model.specs.Field.Field.{running, failed}
use Rattle.model.specs.Machine.{State, model, retry}
use Rattle.model.proofs.Fields.{put_own}
use Rattle.model.proofs.Tests.{EqCase, holds, fails, eqb_case, eqb_yes, inside_bounds}
use Rattle.ring.specs.Ring.{Ring}
use Rattle.area.specs.Layout.{records_at, at}
use Rattle.area.specs.Layout.Part.{tail}
use Rattle.area.specs.Layout.Slot.{Tail}
use Rattle.area.specs.State.{last, laid}
use Rattle.area.specs.Holds.{Holds, Becomes, with, dispatched}
use Rattle.area.proofs.Stores.{load_at}
use Rattle.area.proofs.Rings.{member_inside}
use Rattle.area.proofs.Records.{part_lent, queue_ring}

-- ---- a read

-- a queue, from its last and the records
pub lent_queue : {n : Shape} {ws : List ℕ} {s : State model} → Holds n ws s → (q : Queue) {a p : ℕ} → exists n q ≡ true → a ≡ records_at n → last (s.queues q) ≡ p → Ring (mid_of a (length ws - a) ws) p (s.queues q)
lent_queue {n} {ws} {s} H q {a} {p} ok records e = rw (part_lent a ws, records, ← e) (queue_ring H q ok)

-- and from its tail's word
pub read_queue : {n : Shape} {ws : List ℕ} {s : State model} → Holds n ws s → (q : Queue) {i a w : ℕ} → exists n q ≡ true → i ≡ at n (Tail q) → a ≡ records_at n → w ≡ get_or ws i 0 / 8 % 1024 → Ring (mid_of a (length ws - a) ws) w (s.queues q)
read_queue {n} {ws} {s} H q {i} ok here records reads = lent_queue H q ok records (sym (reads ∙ load_at n ws (laid n s) H.image (tail q) i ok here 8 1024 refl refl))

-- ---- dispatch

module _ {n : Shape} {ws : List ℕ} {s : State model} (H : Holds n ws s) where
  -- the first of a queue is a process, or 0 where there is none
  first_inside : (q : Queue) (xs : List ℕ) → s.queues q ≡ xs → first xs ≢ 0 → inside n.processes (first xs) ≡ true
  first_inside q [] e h = absurd (h refl)
  first_inside q (x ∷ xs) e h = member_inside n s H.placed x q (rw (e, eqb_yes x x refl))

  pub first_process : (q : Queue) {r : ℕ} → r ≡ first (s.queues q) → r ≢ 0 → inside n.processes r ≡ true
  first_process q e h = rw e (first_inside q (s.queues q) refl (λ z. h (e ∙ z)))

  pub first_small : (q : Queue) {r : ℕ} → r ≡ first (s.queues q) → r ≤ n.processes
  first_small q {r} e = go (eqb_case r 0)
    where
      go : EqCase r 0 → r ≤ n.processes
      go (holds d z) = omega arith
      go (fails d z) = (inside_bounds n.processes r (first_process q e d)).1

  -- no process is 0, so ready is empty where its first is 0
  none : (xs : List ℕ) → s.queues ready ≡ xs → first xs ≡ 0 → xs ≡ []
  none [] e h = refl
  none (x ∷ xs) e h = let b = inside_bounds n.processes x (member_inside n s H.placed x ready (rw (e, eqb_yes x x refl))) in let z : ⊥ = omega arith in absurd z

  -- nobody runs, or the first of ready does
  pub dispatch_none : {r : ℕ} {new : List ℕ} → r ≡ first (s.queues ready) → r ≡ 0 → Becomes n ws new (with running r s) → (◌≡◌ {A = ℕ} 0 (first (s.queues ready))) × (◌≡◌ {A = ℕ} 0 (retry (s.queues ready) s.fields)) × Becomes n ws new (dispatched s)
  dispatch_none e z b =
      let k : s.queues ready ≡ [] = none (s.queues ready) refl (sym e ∙ z) in
      (sym z ∙ e, rw k, rw k (rw z at b))

  pub dispatch_first : {r f : ℕ} {new : List ℕ} → r ≡ first (s.queues ready) → r ≢ 0 → f ≡ put running r s.fields (failed r) → Becomes n ws new (with (failed r) 0 (with running r s)) → (r ≡ first (s.queues ready)) × (f ≡ retry (s.queues ready) s.fields) × Becomes n ws new (dispatched s)
  dispatch_first {r} {f} {new} e z g b = go (s.queues ready) refl
    where
      go : (xs : List ℕ) → s.queues ready ≡ xs → (r ≡ first (s.queues ready)) × (f ≡ retry (s.queues ready) s.fields) × Becomes n ws new (dispatched s)
      go [] k = absurd (z (e ∙ ap first k))
      go (x ∷ xs) k = let d : r ≡ x = e ∙ ap first k in (e, rw (k, ← d) g, rw (k, ← d) b)

  -- where its failed bit is not set, there is nothing to clear
  pub dispatch_kept : {r f : ℕ} {new : List ℕ} → r ≡ first (s.queues ready) → r ≢ 0 → f ≡ put running r s.fields (failed r) → f ≡ 0 → Becomes n ws new (with running r s) → (r ≡ first (s.queues ready)) × (f ≡ retry (s.queues ready) s.fields) × Becomes n ws new (dispatched s)
  dispatch_kept {r} {f} {new} e z g k b =
      let t : Fields = put running r s.fields in
      dispatch_first e z g (subst (λ (u : Fields). Becomes n ws new (record { fields = u; queues = s.queues })) (sym (ap (λ (v : ℕ). put (failed r) v t) (sym k ∙ g) ∙ put_own (failed r) _ t refl)) b)
