-- Many wake at once: what Broadcast comes to by its tests, and the state in which all of some have woken. Who wakes from a condition was not in
-- ready, so it arrives there. Assumes nothing.
use Rattle.std.proofs.Common.{◌≡◌, ℕ, ◌≤◌, true, false, not, eqb, ◌≢◌, List, [], ◌∷◌, length, sym, refl, ap, ◌∙◌, subst}
use mathlib.Core.Path.{fun_ext}
use Rattle.model.specs.declared.Shape.{Shape}
use Rattle.model.specs.declared.Answer.{Answer}
use Rattle.model.specs.declared.Call.TheVariants.{Broadcast}
use Rattle.model.specs.Queue.{Queue, outside, inside, member, count, first, joined, to_ready}
use Rattle.model.specs.Queue.Queue.{ready, condition}
use Rattle.model.specs.Field.{priorities}
use Rattle.model.specs.Field.Field.{running}
use Rattle.model.specs.Rules.{when, calm, wake, decide}
use Rattle.model.specs.Machine.{State, model, arrivals, finish, refusal}
use Rattle.model.proofs.Tests.{holds, fails, SameCase, same_case, denied}
use Rattle.model.proofs.Fields.{calm_priorities}
use Rattle.model.proofs.Loops.{apart, queue_moved}
use Rattle.model.proofs.Many.{without, filter_all, filter_none, many_others, many_ready, placed_woken}
use Rattle.links.specs.Link as link
use Rattle.ring.specs.Ring.{Linked}
use Rattle.area.specs.State.{last}
use Rattle.area.specs.Holds.{Holds, Becomes, Gives}
use Rattle.area.specs.Rings.{records, swap}
use Rattle.area.specs.Loose.{Loose}
use Rattle.crowds.specs.Crowds.{Emptied, Crowd, Woken, Chain}
use Rattle.area.specs.Calls.{Does, Calling, woken}
use Rattle.area.proofs.Puts.{becomes_none}
use Rattle.area.proofs.Rings.{member_inside, one_queue, queue_once}
use Rattle.area.proofs.Records.{queue_ring}
use Rattle.moves.proofs.Numbers.{nobody_first}
use Rattle.outcomes.proofs.Outcomes.{Tested, calling_tested, refuses_by, accepts_ready}
use Rattle.moves.proofs.Loose.{settled}

-- ---- Broadcast, with r the running process and k the code of the tests on the numbers

module _ {n : Shape} {old : List ℕ} {s : State model} (H : Holds n old s) (c : ℕ) {r k : ℕ} (runs : r ≡ s.fields running) (ek : Calling r n.conditions c k) where
  tested : Tested k (λ e. when (eqb (s.fields running) 0) 6 (when (outside n.conditions c) 7 e))
  tested = rw (← runs) (calling_tested ek)

  pub broadcast_refused : {a : Answer} → k ≢ 0 → a ≡ refusal k → Does (Broadcast c) n old old s a
  unfolding decide
  broadcast_refused = refuses_by H (Broadcast c) _ refl tested

  broadcast_0 : k ≡ 0 → decide n s.fields s.queues (Broadcast c) ≡ wake (s.queues (condition c)) s.fields
  unfolding decide
  broadcast_0 z = tested.passed z _

  all_arrive : arrivals (s.queues ready) (to_ready (s.queues (condition c))) ≡ length (s.queues (condition c))
  all_arrive = queue_moved n.processes s.queues H.placed.place H.placed.once (condition c) (apart c)

  -- all wake
  pub broadcast_all_lem : {a : Answer} {m : ℕ} {mid new : List ℕ} → k ≡ 0 → m ≡ length (s.queues (condition c)) → Becomes n old mid (woken (s.queues (condition c)) s)
      → Gives n mid new a (finish model (woken (s.queues (condition c)) s).fields (woken (s.queues (condition c)) s).queues 0 m 0) → Does (Broadcast c) n old new s a
  broadcast_all_lem {m = m} z e b g =
      accepts_ready H (Broadcast c) (calm (s.queues (condition c)) s.fields) (s.queues (condition c)) 0 m (broadcast_0 z) (e ∙ sym all_arrive) b g

-- ---- several wake

-- an area whose queues are without them, and ready with them joined, holds that state
module _ {n : Shape} {old : List ℕ} {s : State model} (H : Holds n old s) (ps : List ℕ) (base : Queue → List ℕ) (once : (p : ℕ) → count p ps ≤ 1)
    (own : (p : ℕ) → member p ps ≡ true → inside n.processes p ≡ true) (out : (p : ℕ) → member p ps ≡ true → member p (s.queues ready) ≡ false)
    (stays : base ready ≡ s.queues ready) (leaves : (q : Queue) → ready ≢ q → base q ≡ without ps (s.queues q)) where
  queue_is : (q : Queue) → SameCase ready q → swap base ready (joined (priorities s.fields) ps (base ready)) q ≡ (woken ps s).queues q
  queue_is q (holds e z) =
      rw (z, ← e, calm_priorities ps s.fields)
      (ap (joined (priorities s.fields) ps) stays ∙ sym (many_ready (priorities s.fields) ps s.queues once out))
  queue_is q (fails e z) = rw z (leaves q e ∙ sym (many_others (priorities (calm ps s.fields)) ps s.queues q e))

  pub woken_becomes : {new : List ℕ} → Loose n old new (calm ps s.fields) (swap base ready (joined (priorities s.fields) ps (base ready))) → Becomes n old new (woken ps s)
  woken_becomes {new} L =
      settled (woken ps s) (placed_woken n s ps H.placed own) (subst (Loose n old new (calm ps s.fields)) (fun_ext (λ q. queue_is q (same_case ready q))) L)

-- ---- all of a condition wake

linked_chain : (nx : ℕ → ℕ) (a : ℕ) (xs : List ℕ) → Linked nx a xs → Chain nx (nx a) xs
linked_chain nx a [] h = tt
linked_chain nx a (x ∷ xs) h = (h.0, linked_chain nx x xs h.1)

module _ {n : Shape} {old mid : List ℕ} {s : State model} (H : Holds n old s) (c : ℕ) {t : ℕ} (E : Emptied n old mid s (condition c) t) where
  abbrev sleepers : List ℕ
  sleepers = s.queues (condition c)

  -- they stand nowhere else
  pub elsewhere : (p : ℕ) (q : Queue) → member p sleepers ≡ true → SameCase (condition c) q → member p (swap s.queues (condition c) [] q) ≡ false
  elsewhere p q m (holds e z) = rw z
  elsewhere p q m (fails e z) = rw z (denied (member p (s.queues q)) (λ k. e (one_queue n s H.placed p (condition c) q m k)))

  abbrev pub sleepers_wake : Crowd n mid sleepers
  sleepers_wake = record {
    old = old;
    fields = s.fields;
    queues = swap s.queues (condition c) [];
    loose = E.loose;
    once = queue_once n s H.placed (condition c);
    process = λ p m. member_inside n s H.placed p (condition c) m;
    out = λ p q m. elsewhere p q m (same_case (condition c) q);
  }

  -- each leads on to the next
  pub sleepers_chain : inside n.conditions c ≡ true → {f : ℕ} → f ≡ first sleepers → Chain (link.next (records n mid)) f sleepers
  sleepers_chain i {f} e = go sleepers (queue_ring H (condition c) i).linked e
    where
      go : (xs : List ℕ) → Linked (link.next (records n old)) (last sleepers) xs → f ≡ first xs → Chain (link.next (records n mid)) f xs
      go [] l d = tt
      go (x ∷ xs) l d = (d, subst (λ (r : List ℕ). Chain (link.next r) (link.next r x) xs) (sym E.same) (linked_chain (link.next (records n old)) x xs l.1))

  pub sleepers_woken : {new : List ℕ} → Woken n mid sleepers sleepers_wake new → Becomes n old new (woken sleepers s)
  sleepers_woken =
      woken_becomes H sleepers (swap s.queues (condition c) []) (queue_once n s H.placed (condition c)) (λ p m. member_inside n s H.placed p (condition c) m)
      (λ p m. denied (member p (s.queues ready)) (λ k. apart c (one_queue n s H.placed p (condition c) ready m k)))
      refl (λ q o. left q (same_case (condition c) q))
    where
      left : (q : Queue) → SameCase (condition c) q → swap s.queues (condition c) [] q ≡ without sleepers (s.queues q)
      left q (holds e z) = rw (z, ← e) (sym (filter_none (λ x. not (member x sleepers)) sleepers (λ x m. rw m)))
      left q (fails e z) = rw z (sym (filter_all (λ x. not (member x sleepers)) (s.queues q) (λ x m. rw (denied (member x sleepers) (λ k. e (one_queue n s H.placed x (condition c) q k m))))))

-- nobody waits there
pub nobody_woken : {n : Shape} {ws : List ℕ} {s : State model} → Holds n ws s → (c : ℕ) {f : ℕ} → f ≡ first (s.queues (condition c)) → f ≡ 0
    → (0 ≡ length (s.queues (condition c))) × Becomes n ws ws (woken (s.queues (condition c)) s)
nobody_woken H c e z = let k = nobody_first H (condition c) e z in (rw k, rw k (becomes_none H))
