-- A process moves from one queue of a state to another: it leaves, takes its priority and waiting bit, and joins. The rings are then those of
-- the state in which it has moved, each process stands in one of them, once, and so the words are the ones that this state prescribes.
-- Assumes nothing.
use Prim.Native.Nat.{ℕ, ◌<◌}
use native.Mathlib.Omega.{arith}
use mathlib.Core.Path.{◌≡◌, refl, sym, ap, ◌∙◌, subst, fun_ext}
use mathlib.Core.Bool.{true, false}
use mathlib.Core.Logic.{◌≢◌}
use mathlib.Core.List.{List, [], ◌∷◌}
use Rattle.model.specs.declared.Shape.{Shape}
use Rattle.model.specs.Queue.{Queue, inside, exists, bit, member, count, remove, insert, move, Falling, is_condition}
use Rattle.model.specs.Field.{Field, Fields, put, priorities}
use Rattle.model.specs.Queue.Queue.{ready}
use Rattle.model.specs.Field.Field.{priority}
use Rattle.model.specs.Machine.{State, model}
use Rattle.model.specs.Valid.{room, Placed}
use Rattle.model.proofs.Fields.{put_own}
use Rattle.model.proofs.Tests.{holds, fails, SameCase, same_case, same_yes, EqCase, eqb_case, PutCase, put_case, put_away, bit_small, denied}
use Rattle.model.proofs.Lists.{SameOff, falling_remove, falling_insert, remove_absent, remove_member, insert_member, absent_count, count_remove_same, member_bit}
use Rattle.model.proofs.Places as places
use Rattle.model.proofs.Places.{stands_move, falling_moves}
use Rattle.model.proofs.Simulation.{lead}
use Rattle.area.specs.Layout.{Parts, alter, at, Stored}
use Rattle.area.specs.Layout.Part.{kept, waiting}
use Rattle.area.specs.Layout.Slot.{Tail}
use Rattle.area.specs.State.{laid}
use Rattle.area.specs.Holds.{Holds, Becomes, Moves, with, sent}
use Rattle.area.specs.Rings.{swap, ranks, Relinked, Leaves, Joins}
use Rattle.ring.specs.Ring.{Arrived}
use Rattle.area.specs.Loose.{Loose}
use Rattle.area.proofs.Stores.{alter_here, alter_own}
use Rattle.area.proofs.Rings.{one_queue}
use Rattle.moves.proofs.Loose.{loose_of, loose_relinked, alter_fields, loose_written, settled}
use Rattle.moves.proofs.Shared.{going}

module _ {n : Shape} {ws : List ℕ} {at_from at_to p waits : ℕ} (m : Moves n ws at_from at_to p waits) where
  pub move_waits : waits < 2
  move_waits = let b = bit_small (is_condition m.to) in let e = m.waits_there in omega arith

  abbrev pub move_leaves : Leaves n ws at_from p
  move_leaves = record {
    parts = laid n m.state;
    queues = m.state.queues;
    queue = m.from;
    rings = (loose_of m.holds).rings;
    given = m.given_from;
    here = m.here_from;
    stood = m.stood;
    stands = m.stands;
  }

  -- where the first queue's tail stands, in other words
  abbrev pub move_from : {i : ℕ} → i ≡ at_from → Moves n ws i at_to p waits
  move_from e = record {
    state = m.state;
    from = m.from;
    to = m.to;
    holds = m.holds;
    given_from = m.given_from;
    given_to = m.given_to;
    here_from = e ∙ m.here_from;
    here_to = m.here_to;
    process = m.process;
    stood = m.stood;
    stands = m.stands;
    waits_there = m.waits_there;
  }

-- ---- p leaves

module _ {n : Shape} {ws : List ℕ} {at_from at_to p waits : ℕ} (m : Moves n ws at_from at_to p waits) (v : ℕ) (ranked : v < 8) (stands : m.stood ≡ true) where
  abbrev s : State model
  s = m.state

  -- the state after the move
  abbrev s' : State model
  s' = sent p m.to (with (priority p) v m.state)

  -- then it stands in no queue
  abbrev without : Queue → List ℕ
  without = swap s.queues m.from (remove p (s.queues m.from))

  pub without_is : (q : Queue) → without q ≡ remove p (s.queues q)
  without_is q = go (same_case m.from q)
    where
      elsewhere : m.from ≢ q → count p (s.queues q) ≡ 0
      elsewhere d = absent_count p (s.queues q) (denied (member p (s.queues q)) (λ k. d (one_queue n s m.holds.placed p m.from q (m.stands ∙ stands) k)))

      go : SameCase m.from q → without q ≡ remove p (s.queues q)
      go (holds e z) = rw z (ap {A = Queue} (λ o. remove p (s.queues o)) e)
      go (fails e z) = rw z (sym (remove_absent p (s.queues q) (elsewhere e)))

  pub without_out : (q : Queue) → member p (without q) ≡ false
  without_out q = rw (without_is q) (member_bit p (remove p (s.queues q)) false (count_remove_same p (s.queues q)))

  pub off : SameOff p (priorities s.fields) (priorities s'.fields)
  off x h = sym (put_away (priority p) v s.fields (priority x) (λ d. h (cc)))

  pub falls_without : (q : Queue) → Falling (priorities s'.fields) (without q)
  falls_without q = rw (without_is q) (falling_remove (priorities s.fields) (priorities s'.fields) p (s.queues q) off (m.holds.placed.falls q))

  module _ {ws₁ ws₂ : List ℕ} (L : Relinked n ws ws₁ (laid n s) s.queues m.from (remove p (s.queues m.from)))
      (W : Stored n ws₁ ws₂ (alter (waiting p) waits (alter (kept (priority p)) v L.parts))) where
    abbrev loose₁ : Loose n ws ws₁ s.fields without
    loose₁ = loose_relinked m.from (remove p (s.queues m.from)) (loose_of m.holds)
        (λ x k. (loose_of m.holds).waits m.from x (remove_member x p (s.queues m.from) k))
        (falling_remove (priorities s.fields) (priorities s.fields) p (s.queues m.from) (λ x h. refl) (m.holds.placed.falls m.from))
        L

    -- ---- it takes its priority and its waiting bit

    abbrev loose₂ : Loose n ws ws₂ s'.fields without
    loose₂ = loose_written (alter (kept (priority p)) v L.parts) s'.fields p waits loose₁ (alter_fields (priority p) v L.parts s.fields loose₁.fields)
        (λ q. refl) (λ x. refl) loose₁.locks (λ x. refl) without_out falls_without W

    pub ranks_are : ranks loose₂.parts ≡ priorities s'.fields
    ranks_are = fun_ext (λ x. loose₂.fields (priority x))

    abbrev pub move_joins : Joins n ws₂ at_to p
    move_joins = record {
      parts = loose₂.parts;
      queues = without;
      queue = m.to;
      rings = loose₂.rings;
      given = m.given_to;
      here = m.here_to;
      process = m.process;
      out = without_out;
      falls = rw ranks_are (falls_without m.to);
    }

    -- ---- it joins

    module _ {ws₃ : List ℕ} (J : Relinked n ws₂ ws₃ loose₂.parts without m.to (insert (ranks loose₂.parts) p (without m.to))) where
      abbrev there : List ℕ
      there = insert (priorities s'.fields) p (without m.to)

      joined_is : (q : Queue) → swap without m.to there q ≡ s'.queues q
      joined_is q = go (same_case m.to q)
        where
          go : SameCase m.to q → swap without m.to there q ≡ s'.queues q
          go (holds e z) = rw z (ap (insert (priorities s'.fields) p) (without_is m.to ∙ ap {A = Queue} (λ o. remove p (s.queues o)) e))
          go (fails e z) = rw z (without_is q)

      pub arrived : {t k : ℕ} → Arrived p (insert (ranks loose₂.parts) p (without m.to)) t k → Arrived p (s'.queues m.to) t k
      arrived {t} {k} A = subst (λ (ys : List ℕ). Arrived p ys t k) (rw (ranks_are, without_is m.to, same_yes m.to m.to refl)) A

      placed' : Placed n s'
      placed' = record {
        counts = m.holds.placed.counts;
        range = λ f. range_at f (put_case (priority p) f);
        place = places.sent m.holds.placed.place (p, m.to);
        real = λ x h. real_at x h (eqb_case p x);
        once = stands_move n.processes (priorities s'.fields) (p, m.to) s.queues m.holds.placed.place m.holds.placed.once m.process;
        falls = falling_moves (priorities s.fields) (priorities s'.fields) ((p, m.to) ∷ []) s.queues (lead off) m.holds.placed.falls;
      }
        where
          range_at : (f : Field) → PutCase (priority p) f → put (priority p) v s.fields f < room n f
          range_at f (holds e z) = rw (z, ← e, m.process) ranked
          range_at f (fails e z) = rw z (m.holds.placed.range f)

          real_at : (x : ℕ) → inside n.processes x ≡ true → EqCase p x → exists n (places.sent m.holds.placed.place (p, m.to) x) ≡ true
          real_at x h (holds e z) = rw z m.given_to
          real_at x h (fails e z) = rw z (m.holds.placed.real x h)

      waits_there : (x : ℕ) → member x there ≡ true → EqCase p x → loose₂.parts (waiting x) ≡ bit (is_condition m.to)
      waits_there x k (holds e z) = rw (← e) (alter_here (waiting p) waits (alter (kept (priority p)) v L.parts) ∙ m.waits_there)
      waits_there x k (fails e z) = loose₂.waits m.to x (insert_member (priorities s'.fields) x p (without m.to) z k)

      pub moved : Becomes n ws ws₃ s'
      moved =
          settled s' placed'
          (subst (Loose n ws ws₃ s'.fields) (fun_ext joined_is)
          (loose_relinked m.to there loose₂
          (λ x k. waits_there x k (eqb_case p x))
          (falling_insert (priorities s'.fields) p (without m.to) (falls_without m.to))
          (subst (λ (pr : ℕ → ℕ). Relinked n ws₂ ws₃ loose₂.parts without m.to (insert pr p (without m.to))) ranks_are J)))

-- ---- with the priority that it has

module _ {n : Shape} {ws : List ℕ} {at_from at_to p waits : ℕ} (m : Moves n ws at_from at_to p waits) where
  abbrev pub own_rank : ℕ
  own_rank = m.state.fields (priority p)

  pub own_small : own_rank < 8
  own_small = rw m.process at (m.holds.placed.range (priority p))

  pub own_waiting : {ws₁ ws₂ : List ℕ} (L : Relinked n ws ws₁ (laid n m.state) m.state.queues m.from (remove p (m.state.queues m.from)))
      → Stored n ws₁ ws₂ (alter (waiting p) waits L.parts) → Stored n ws₁ ws₂ (alter (waiting p) waits (alter (kept (priority p)) own_rank L.parts))
  own_waiting {ws₁} {ws₂} L st = subst (λ (t : Parts). Stored n ws₁ ws₂ (alter (waiting p) waits t)) (sym (alter_own (kept (priority p)) own_rank L.parts (L.others (kept (priority p)) refl))) st

  pub sent_own : {new : List ℕ} → Becomes n ws new (sent p m.to (with (priority p) own_rank m.state)) → Becomes n ws new (sent p m.to m.state)
  sent_own {new} b =
      subst (λ (f : Fields). Becomes n ws new (record { fields = f; queues = move (priorities f) m.state.queues p m.to })) (put_own (priority p) _ m.state.fields refl) b

  pub arrived_own : {t k : ℕ} → Arrived p ((sent p m.to (with (priority p) own_rank m.state)).queues m.to) t k → Arrived p ((sent p m.to m.state).queues m.to) t k
  arrived_own {t} {k} A =
      subst (λ (f : Fields). Arrived p (move (priorities f) m.state.queues p m.to m.to) t k) (put_own (priority p) _ m.state.fields refl) A

-- ---- in ready, with another

module _ {n : Shape} {ws : List ℕ} {s : State model} {p : ℕ} (H : Holds n ws s) (stands : member p (s.queues ready) ≡ true) where
  -- from ready to ready
  abbrev pub in_ready_lem : {i : ℕ} → i ≡ at n (Tail ready) → Moves n ws i i p 0
  in_ready_lem e = going H ready ready refl refl e e stands refl

  pub own_rest : {ws₁ ws₂ : List ℕ} (v : ℕ) (L : Relinked n ws ws₁ (laid n s) s.queues ready (remove p (s.queues ready)))
      → Stored n ws₁ ws₂ (alter (kept (priority p)) v L.parts) → Stored n ws₁ ws₂ (alter (waiting p) 0 (alter (kept (priority p)) v L.parts))
  own_rest {ws₁} {ws₂} v L st = subst (λ (t : Parts). Stored n ws₁ ws₂ t) (sym (alter_own (waiting p) 0 (alter (kept (priority p)) v L.parts) (L.others (waiting p) refl ∙ (loose_of H).waits ready p stands))) st
