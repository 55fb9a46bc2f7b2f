-- Start's line: the links are written with their priorities, and the rings promise that they lead through all processes as the model's ready
-- queue does. Every other word is still the one of an area where nobody stands in a queue, so the words are the ones that the model's state
-- prescribes. Assumes nothing.
use Prim.Native.Nat.{ℕ, ◌+◌, ◌-◌, ◌*◌, ◌/◌, ◌%◌, ◌≤◌, ◌<◌}
use native.Mathlib.Omega.{arith}
use borrow.Rule.Slice.PartMut.{mid_of, put_mid}
use mathlib.Core.Path.{◌≡◌, refl, sym, ap, ◌∙◌, subst, fun_ext}
use mathlib.Core.Bool.{Bool, true}
use mathlib.Core.Logic.{◌≢◌}
use mathlib.Core.List.{List, [], ◌++◌}
use lib.ListN.{length, get_or, drop, take, set, length-append, length-drop, length-set}
use lib.Seq.{ext_get_or, get_or-append-add, get_or-drop, get_or-set_same, get_or-set_other, length-take-le}
use Rattle.model.specs.declared.Shape.{Shape}
use Rattle.model.specs.Queue.{Queue, inside, up_to, member, any_of, bit, to_ready}
use Rattle.model.specs.Queue.Queue.{ready, park, lock, condition}
use Rattle.model.specs.Field.{priorities}
use Rattle.model.specs.Rules.{start_code, fresh}
use Rattle.model.specs.Ledger.{by_priority}
use Rattle.model.specs.Machine.{State, model}
use Rattle.model.specs.Valid.{Placed}
use Rattle.model.proofs.Tests.{holds, fails, SameCase, same_case, inside_bounds}
use Rattle.model.proofs.Places.{stands_start, falling_all}
use Rattle.model.proofs.Kept.{given, fresh_bounded, fresh_range}
use Rattle.model.proofs.Loops.{start_others, start_ready}
use Rattle.links.specs.Link as link
use Rattle.links.specs.Link.{slot}
use Rattle.ring.specs.Ring.{Linked, Ring}
use Rattle.ring.proofs.Rings.{ring_tail_small}
use Rattle.many.specs.Bands.{Ranked, Gathered}
use Rattle.area.specs.Layout.{Slot, word, records_at, size, at, has, Image}
use Rattle.area.specs.Layout.Part.{waiting}
use Rattle.area.specs.Layout.Slot.{Processes, LocksConditions, Parks, Clock, Running, Tail, Holder, Link, Flags, Timer}
use Rattle.area.specs.State.{last, queues, next_in, laid}
use Rattle.area.specs.Holds.{Becomes}
use Rattle.start.specs.Start.{lined}
use Rattle.area.specs.Rings.{records}
use Rattle.area.proofs.Whole.{counts_in}
use Rattle.area.proofs.Rings.{rings_laid}
use Rattle.area.proofs.States.{laid_spans}
use Rattle.area.proofs.Records.{part_lent, part_back, split, records_long, front_at}

module _ (n : Shape) (bytes ws : List ℕ) (ok : start_code n bytes ≡ 0) (im : Image n ws (laid n (lined [] 0))) (a : ℕ) (at_records : a ≡ records_at n) where
  -- the state with everybody in ready
  abbrev s : State model
  s = lined bytes n.processes

  lent : mid_of a (length ws - a) ws ≡ records n ws
  lent = part_lent a ws ∙ ap (λ k. drop k ws) at_records

  pub line_ranked : Ranked (mid_of a (length ws - a) ws) bytes
  line_ranked =
      let g = given n bytes ok in
      let c = counts_in n g.counts in
      rw lent
      record {
        few = omega (arith, g.long, c.processes);
        room = omega (arith, g.long, im.long, records_long n ws (laid n (lined [] 0)) im);
        low = λ p. omega (arith, fresh_bounded bytes g.low p);
      }

  pub line_placed : Placed n s
  line_placed = record {
    counts = (given n bytes ok).counts;
    range = fresh_range n bytes (given n bytes ok);
    place = λ p. ready;
    real = λ p h. refl;
    once = stands_start (priorities (fresh bytes)) n.processes;
    falls = falling_all (priorities (fresh bytes)) (to_ready (up_to n.processes)) (λ q. []) (λ q. tt);
  }

  -- nobody stands elsewhere
  others : (q : Queue) → ready ≢ q → s.queues q ≡ []
  others q o = start_others (priorities (fresh bytes)) n.processes q o

  waits : (x : ℕ) → laid n (lined [] 0) (waiting x) ≡ laid n s (waiting x)
  waits x = ap (λ (t : ℕ → Bool). bit (any_of n.conditions t)) (fun_ext (λ c. ap (member x) (sym (others (condition c) (λ e. let w : ◌≡◌ {A = ℕ} 0 1 = cc in omega arith)))))

  -- the records are back, and the tail of ready is written
  module _ (r : List ℕ) (t : ℕ) (G' : Gathered (mid_of a (length ws - a) ws) r bytes t) where
    G : Gathered (records n ws) r bytes t
    G = subst (λ (old : List ℕ). Gathered old r bytes t) lent G'

    pub line_small : t < 1024
    line_small = ring_tail_small (by_priority (priorities (fresh bytes)) 7 (up_to (length bytes))) G.ring

    abbrev front : List ℕ
    front = take (records_at n) ws ++ r

    front_long : length (take (records_at n) ws) ≡ records_at n
    front_long = length-take-le (records_at n) ws (omega (arith, im.long))

    r_long : length r ≡ length ws - records_at n
    r_long = G.filled.long ∙ records_long n ws (laid n (lined [] 0)) im

    same_long : length front ≡ length ws
    same_long = simp length-append (omega (arith, front_long, r_long, im.long))

    pub line_below : 5 < length (put_mid a (length ws - a) ws r)
    line_below = rw (part_back a ws r, at_records) (omega (arith, same_long, im.long))

    ring : Ring r t (s.queues ready)
    ring =
        subst (Ring r t)
        (ap (λ (k : ℕ). by_priority (priorities (fresh bytes)) 7 (up_to k)) (given n bytes ok).long
        ∙ sym (start_ready (priorities (fresh bytes)) (fresh_bounded bytes (given n bytes ok).low) n.processes)) G.ring

    nexts : (x : ℕ) → inside n.processes x ≡ true → link.next r x ≡ next_in s.queues (queues n) x
    nexts = rings_laid n s line_placed (link.next r) (λ q v. ring_at q (same_case ready q))
      where
        ring_at : (q : Queue) → SameCase ready q → Linked (link.next r) (last (s.queues q)) (s.queues q)
        ring_at q (holds e z) = subst (λ (o : Queue). Linked (link.next r) (last (s.queues o)) (s.queues o)) e (rw ring.ends ring.linked)
        ring_at q (fails e z) = rw (others q e) tt

    abbrev new : List ℕ
    new = set front 5 (t * 8)

    -- a word before the records, another than the tail of ready
    before : (i : ℕ) → i < records_at n → i ≢ 5 → get_or new i 0 ≡ get_or ws i 0
    before i h d = get_or-set_other front 5 i (t * 8) 0 d ∙ front_at n ws (laid n (lined [] 0)) im r i h

    -- a word of the records, and one that is no process's link
    within : (i o : ℕ) → o ≡ records_at n + i → get_or new o 0 ≡ get_or r i 0
    within i o e =
        get_or-set_other front 5 o (t * 8) 0 (omega arith)
        ∙ ap (λ k. get_or front k 0) (let k : o ≡ length (take (records_at n) ws) + i = omega (arith, front_long) in k)
        ∙ get_or-append-add (take (records_at n) ws) r i 0

    beside : (i o : ℕ) → o ≡ records_at n + i → ((p : ℕ) → 1 ≤ p → p ≤ n.processes → i ≢ slot p) → get_or new o 0 ≡ get_or ws o 0
    beside i o e h =
        within i o e ∙ G.filled.words i (λ p x y. h p x (omega (arith, (given n bytes ok).long)))
        ∙ get_or-drop (records_at n) ws i 0 ∙ ap (λ k. get_or ws k 0) (sym e)

    link_at : (p : ℕ) → inside n.processes p ≡ true → get_or r (slot p) 0 ≡ word n (laid n s) (Link p)
    unfolding link.priority link.next
    link_at p h =
        let b = inside_bounds n.processes p h in
        let w : ℕ = get_or r (slot p) 0 in
        go (w / 8192) (w / 8 % 1024) (w % 8) (split w)
        (G.filled.ranks p b.0 (omega (arith, (given n bytes ok).long))) (nexts p h) (G.filled.low p b.0 (omega (arith, (given n bytes ok).long)))
      where
        go : (x y z : ℕ) → get_or r (slot p) 0 ≡ x * 8192 + y * 8 + z → x ≡ priorities (fresh bytes) p → y ≡ next_in s.queues (queues n) p → z ≡ 0
            → get_or r (slot p) 0 ≡ priorities (fresh bytes) p * 8192 + next_in s.queues (queues n) p * 8 + 0 * 4
        go x y z e c d f = rw (← c, ← d) (omega arith)

    words_at : (o : Slot) → has n o ≡ true → get_or new (at n o) 0 ≡ word n (laid n s) o
    words_at Processes h = before 0 (omega arith) (omega arith) ∙ im.words Processes h
    words_at LocksConditions h = before 1 (omega arith) (omega arith) ∙ im.words LocksConditions h
    words_at Parks h = before 2 (omega arith) (omega arith) ∙ im.words Parks h
    words_at Clock h = before 3 (omega arith) (omega arith) ∙ im.words Clock h
    words_at Running h = before 4 (omega arith) (omega arith) ∙ im.words Running h
    words_at (Tail ready) h = get_or-set_same front 5 (t * 8) 0 (omega (arith, same_long, im.long)) ∙ ap (λ k. k * 8) (sym ring.ends)
    words_at (Tail (park k)) h =
        rw (others (park k) (λ e. let w : ◌≡◌ {A = ℕ} 0 1 = cc in omega arith))
        (before (at n (Tail (park k))) (omega (arith, inside_bounds n.parks k h)) (omega arith) ∙ im.words (Tail (park k)) h)
    words_at (Tail (lock l)) h =
        rw (others (lock l) (λ e. let w : ◌≡◌ {A = ℕ} 0 1 = cc in omega arith))
        (before (at n (Tail (lock l))) (omega (arith, inside_bounds n.locks l h)) (omega arith) ∙ im.words (Tail (lock l)) h)
    words_at (Tail (condition c)) h =
        rw (others (condition c) (λ e. let w : ◌≡◌ {A = ℕ} 0 1 = cc in omega arith))
        (before (at n (Tail (condition c))) (omega (arith, inside_bounds n.conditions c h)) (omega arith) ∙ im.words (Tail (condition c)) h)
    words_at (Holder l) h = before (at n (Holder l)) (omega (arith, inside_bounds n.locks l h)) (omega arith) ∙ im.words (Holder l) h
    words_at (Link p) h = within (slot p) (at n (Link p)) refl ∙ link_at p h
    words_at (Flags p) h = beside (slot p + 1) (at n (Flags p)) (omega arith) (λ x y z. omega arith) ∙ im.words (Flags p) h ∙ ap (λ k. 0 * 4 + k * 2 + 0) (waits p)
    words_at (Timer p) h = beside (slot p + 2) (at n (Timer p)) (omega arith) (λ x y z. omega arith) ∙ im.words (Timer p) h

    beyond : drop (size n) new ≡ drop (size n) ws
    beyond =
        ext_get_or 0 (drop (size n) new) (drop (size n) ws) (simp (length-drop, length-set) (omega (arith, same_long)))
        (λ i h. get_or-drop (size n) new i 0 ∙ beside (3 * n.processes + i) (size n + i) (omega arith) (λ x y z. omega arith) ∙ sym (get_or-drop (size n) ws i 0))

    pub line_becomes : Becomes n ws (set (put_mid a (length ws - a) ws r) 5 (t * 8)) s
    line_becomes =
        rw (part_back a ws r, at_records)
        record {
          holds = record {
            placed = line_placed;
            image = record {
              counts = im.counts;
              long = simp length-set (omega (arith, same_long, im.long));
              words = words_at;
              spans = laid_spans n s line_placed;
            };
          };
          beyond = beyond;
        }
