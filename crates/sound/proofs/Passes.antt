-- A sound area passes: each clause of its soundness gives what one part of the check asks for. Assumes nothing.
use Prim.Native.Nat.{ℕ, ◌/◌, ◌%◌, ◌≤◌, ◌<◌}
use native.Mathlib.Decide.{ℕ_discrete}
use native.Mathlib.Omega.{arith}
use mathlib.Core.Path.{◌≡◌, refl, sym, ◌∙◌, ap, subst}
use mathlib.Core.Logic.{inl, inr}
use mathlib.Core.Bool.{Bool, true, false, not, cond, true≢false}
use mathlib.Core.List.{List, [], ◌∷◌}
use lib.Dec.{eqb}
use lib.ListN.{get_or}
use Rattle.model.specs.declared.Shape.{Shape}
use Rattle.model.specs.Queue.{Queue, inside, bit, exists, member, first, is_condition}
use Rattle.model.specs.Queue.Queue.{ready, park, lock, condition}
use Rattle.model.specs.Field.{priorities}
use Rattle.model.specs.Field.Field.{priority, holder, wakeup}
use Rattle.model.specs.Machine as machine
use Rattle.model.proofs.Tests.{eqb_yes, eqb_no, inside_bounds}
use Rattle.model.proofs.Lists.{member_here, all_members}
use Rattle.model.proofs.Places.{stands_at, waiting_is}
use Rattle.links.specs.Link as links
use Rattle.ring.specs.Ring.{last_of, Linked}
use Rattle.ring.proofs.Lists.{member_last}
use Rattle.ring.proofs.Places.{falling_agree}
use Rattle.area.specs.Layout.{at}
use Rattle.area.specs.Layout.Part.{kept, tail, next}
use Rattle.area.specs.Layout.Slot.{Parks, Running, Tail, Holder, Link, Flags, Timer}
use Rattle.area.specs.State.{last}
use Rattle.area.specs.Reading.{shape_of, parts_of, read_from, state_of}
use Rattle.area.specs.Rings.{records}
use Rattle.area.specs.Sound.{Sound}
use Rattle.area.proofs.Whole.{Counts, counts_in}
use Rattle.area.proofs.Rings.{ring_ext, member_inside}
use Rattle.area.proofs.States.{chain_read}
use Rattle.heads.specs.First.{Counted, Runs}
use Rattle.heads.proofs.Tests.{Headed}
use Rattle.members.proofs.Tests.{Asleep, Fits}
use Rattle.members.proofs.Chains.{Words, Member}
use Rattle.sound.proofs.Queues.{kind_of, tail_word, holder_word}
use Rattle.sound.proofs.Lists.{hits, every, every_once}
use Rattle.sound.proofs.Visits.{reading, total, Visited, link_word, flags_word, timer_word, next_part, priority_part, total_hits}
use Rattle.sound.proofs.Whole.{Whole}

module _ (ws : List ℕ) (small : Words ws) (S : Sound ws) where
  abbrev n : Shape
  n = shape_of ws

  abbrev P : ℕ
  P = get_or ws 0 0

  abbrev rs : List ℕ
  rs = records (shape_of ws) ws

  -- the words of a record
  abbrev link : ℕ → ℕ
  link x = get_or ws (at n (Link x)) 0

  abbrev flags : ℕ → ℕ
  flags x = get_or ws (at n (Flags x)) 0

  abbrev timer : ℕ → ℕ
  timer x = get_or ws (at n (Timer x)) 0

  counts : Counts n
  counts = counts_in n S.valid.placed.counts

  counted : Counted ws
  counted =
      let c = counts in let l = S.long in
      record { header = omega arith; some_process = c.some; processes = c.processes; unnamed = omega (arith, S.tidy Parks refl); parks = c.parks; long = l }

  -- ---- the words of a queue

  tail_whole : (q : Queue) → exists n q ≡ true → tail_word ws q / 8 ≡ parts_of n ws (tail q)
  tail_whole ready h = omega (arith, S.tidy (Tail ready) refl)
  tail_whole (park k) h = let t = rw h at (S.tidy (Tail (park k)) h) in rw h (omega arith)
  tail_whole (lock l) h = let t = rw h at (S.tidy (Tail (lock l)) h) in rw h (omega arith)
  tail_whole (condition c) h = let t = rw h at (S.tidy (Tail (condition c)) h) in rw h (omega arith)

  ends : (q : Queue) → exists n q ≡ true → last (reading ws q) ≡ tail_word ws q / 8
  ends q h = S.closed q ∙ sym (tail_whole q h)

  tail_small : (q : Queue) → exists n q ≡ true → tail_word ws q / 8 ≤ P
  tail_small q h = rw (tail_whole q h) (S.tails q)

  headed : (q : Queue) → exists n q ≡ true → Headed P (kind_of q) (tail_word ws q) (holder_word ws q)
  headed ready h =
      let t = S.tidy (Tail ready) refl in
      record { tail = tail_small ready h; holder = omega arith; whole = refl; held = λ z. absurd (z refl); plain = λ e z. omega arith; wakes = λ e z. absurd (omega arith) }
  headed (park k) h =
      let t = rw h at (S.tidy (Tail (park k)) h) in
      record { tail = tail_small (park k) h; holder = omega arith; whole = refl; held = λ z. absurd (z refl); plain = λ e z. omega arith; wakes = λ e z. absurd (omega arith) }
  headed (lock l) h =
      let t = rw h at (S.tidy (Tail (lock l)) h) in
      let v = rw h at (S.tidy (Holder l) h) in
      let r = rw h at (S.valid.placed.range (holder l)) in
      let b : tail_word ws (lock l) / 1 % 2 ≡ bit (not (eqb (holder_word ws (lock l) / 8 % 1024) 0)) = rw h at (S.locks l) in
      record {
        tail = tail_small (lock l) h;
        holder = omega arith;
        whole = omega arith;
        held = λ z. let o : tail_word ws (lock l) / 1 % 2 ≡ 1 = b ∙ rw (eqb_no (holder_word ws (lock l) / 8 % 1024) 0 (λ e. z (omega arith))) in omega arith;
        plain = λ e z. let o : tail_word ws (lock l) / 1 % 2 ≡ 0 = b ∙ rw (eqb_yes (holder_word ws (lock l) / 8 % 1024) 0 (omega arith)) in omega arith;
        wakes = λ e z. absurd (omega arith);
      }
  headed (condition c) h =
      let t = rw h at (S.tidy (Tail (condition c)) h) in
      record {
        tail = tail_small (condition c) h;
        holder = omega arith;
        whole = refl;
        held = λ z. absurd (z refl);
        plain = λ e z. absurd (z refl);
        wakes = λ e z. (omega arith, woken);
      }
    where
      woken : tail_word ws (condition c) % 2 ≡ 1 → tail_word ws (condition c) < 8
      woken e =
          let o : parts_of n ws (kept (wakeup c)) ≡ 1 = rw h (omega arith) in
          let empty : reading ws (condition c) ≡ [] = S.valid.wakeups c (rw (eqb_no (parts_of n ws (kept (wakeup c))) 0 (λ z. omega arith))) in
          let z : 0 ≡ tail_word ws (condition c) / 8 = ap last (sym empty) ∙ ends (condition c) h in
          omega arith

  -- ---- its ring

  is_inside : (x : ℕ) (q : Queue) → member x (reading ws q) ≡ true → inside P x ≡ true
  is_inside x q m = member_inside n (state_of ws) S.valid.placed x q m

  linked : (q : Queue) → exists n q ≡ true → Linked (links.next rs) (tail_word ws q / 8) (reading ws q)
  linked q h =
      subst (λ (t : ℕ). Linked (links.next rs) t (reading ws q)) (ends q h)
      (ring_ext nx (links.next rs) (reading ws q) (λ x m. next_part ws x (is_inside x q m))
      (subst (λ (t : ℕ). Linked nx t (reading ws q)) (sym (S.closed q)) (go (eqb (parts_of n ws (tail q)) 0))))
    where
      nx : ℕ → ℕ
      nx x = parts_of n ws (next x)

      go : (b : Bool) → Linked nx (parts_of n ws (tail q)) (cond b [] (read_from nx (parts_of n ws (tail q)) P (nx (parts_of n ws (tail q)))))
      go true = tt
      go false = chain_read nx (parts_of n ws (tail q)) P (parts_of n ws (tail q)) (nx (parts_of n ws (tail q))) refl

  -- waiting, armed, timer and failed of a member
  waits_is : (x : ℕ) (q : Queue) → member x (reading ws q) ≡ true → machine.waiting n (reading ws) x ≡ is_condition q
  waits_is x q m =
      let p = S.valid.placed in
      let s = stands_at P (reading ws) p.place p.once x q m in
      waiting_is n (reading ws) p.place p.once x (p.real x) ∙ rw (s.0, s.1)

  flag : (x : ℕ) (q : Queue) → member x (reading ws q) ≡ true → flags x / 2 % 2 ≡ bit (is_condition q)
  flag x q m = let e : flags x / 2 % 2 ≡ bit (machine.waiting n (reading ws) x) = rw (is_inside x q m) at (S.waits x) in e ∙ ap bit (waits_is x q m)

  link_low : (x : ℕ) → inside P x ≡ true → link x % 4 ≡ 0
  link_low x i = let t = rw i at (S.tidy (Link x) i) in omega arith

  -- without armed there is no timer
  untimed : (x : ℕ) → inside P x ≡ true → flags x / 4 % 2 ≡ 0 → timer x ≡ 0
  untimed x i a =
      let t : timer x / 1 % 65536 ≡ 0 = rw i at (S.valid.timers x (rw i a)) in
      let s = small (at n (Timer x)) in
      omega arith

  idle : (x : ℕ) (q : Queue) → member x (reading ws q) ≡ true → is_condition q ≡ false → ((flags x / 2 ≡ 0) × (timer x ≡ 0)) × (link x % 4 ≡ 0)
  idle x q m e =
      let i = is_inside x q m in
      let f = rw i at (S.tidy (Flags x) i) in
      let b : flags x / 2 % 2 ≡ 0 = flag x q m ∙ rw e in
      let a : flags x / 4 % 2 ≡ 0 = rw i at (S.valid.arms x (waits_is x q m ∙ e)) in
      ((omega arith, untimed x i a), link_low x i)

  -- armed, or not
  waits : (x c : ℕ) → member x (reading ws (condition c)) ≡ true → Asleep (flags x) (timer x)
  waits x c m =
      let i = is_inside x (condition c) m in
      let f = rw i at (S.tidy (Flags x) i) in
      let g : flags x / 2 % 2 ≡ 1 = flag x (condition c) m in
      elim (ℕ_discrete (flags x / 4 % 2) 0) [ yes a ↦ inr (omega arith, untimed x i a) | no a ↦ inl (omega arith) ]

  fits : (x : ℕ) (q : Queue) → member x (reading ws q) ≡ true → Fits (kind_of q) (link x) (flags x) (timer x)
  fits x ready m = record { waits = λ z. absurd (omega arith); idle = λ z. idle x ready m refl; blocked = λ z. absurd (omega arith) }
  fits x (park k) m = record { waits = λ z. absurd (omega arith); idle = λ z. idle x (park k) m refl; blocked = λ z. absurd (omega arith) }
  fits x (lock l) m =
      let i = is_inside x (lock l) m in
      let b : link x / 4 % 2 ≡ 1 = rw i at (S.valid.blocked l x m) in
      let t = link_low x i in
      record { waits = λ z. absurd (omega arith); idle = λ z. idle x (lock l) m refl; blocked = λ z. omega arith }
  fits x (condition c) m =
      let i = is_inside x (condition c) m in
      let b : link x / 4 % 2 ≡ 0 = rw i at (S.valid.asleep c x m) in
      let t = link_low x i in
      record { waits = λ z. (waits x c m, omega arith); idle = λ z. absurd (z refl); blocked = λ z. absurd (omega arith) }

  not_zero : (x : ℕ) (q : Queue) → member x (reading ws q) ≡ true → x ≡ 0 → ⊥
  not_zero x q m e = let b = inside_bounds P x (is_inside x q m) in omega arith

  free : (x : ℕ) (q : Queue) → exists n q ≡ true → member x (reading ws q) ≡ true → x ≡ holder_word ws q / 8 → ⊥
  free x ready h m e = not_zero x ready m e
  free x (park k) h m e = not_zero x (park k) m e
  free x (lock l) h m e =
      let v = rw h at (S.tidy (Holder l) h) in
      let o : parts_of n ws (kept (holder l)) ≡ x = rw h (omega arith) in
      true≢false (sym m ∙ rw o at (S.valid.holders l))
  free x (condition c) h m e = not_zero x (condition c) m e

  visited : (q : Queue) → exists n q ≡ true → Visited ws q
  visited q h = record {
    head = headed q h;
    ring = record {
      linked = linked q h;
      ends = ends q h;
      members = all_members (Member rs P (kind_of q) (holder_word ws q / 8)) (reading ws q) (λ x m. record { within = is_inside x q m; free = free x q h m; fits = rw (link_word ws x, flags_word ws x, timer_word ws x) (fits x q m) });
      falls = falling_agree (priorities (state_of ws).fields) (links.priority rs) (reading ws q) (λ p m. sym (level p m)) (S.valid.placed.falls q);
    };
  }
    where
      level : (x : ℕ) → member x (reading ws q) ≡ true → parts_of n ws (kept (priority x)) ≡ links.priority rs x
      level x m = priority_part ws x small (is_inside x q m)

  -- ---- running

  runs : Runs ws rs
  runs = go (reading ws ready) (linked ready refl) (ends ready refl) (λ x m. is_inside x ready m) S.valid.runs
    where
      go : (ys : List ℕ) → Linked (links.next rs) (get_or ws 5 0 / 8) ys → last_of 0 ys ≡ get_or ws 5 0 / 8 → ((x : ℕ) → member x ys ≡ true → inside P x ≡ true) → get_or ws 4 0 / 8 % 1024 ≡ first ys → Runs ws rs
      go [] l e m f =
          let t = S.tidy Running refl in
          record { nobody = λ z. omega arith; somebody = λ z. absurd (z (sym e)) }
      go (y ∷ ys) l e m f =
          let t = S.tidy Running refl in
          let i = m y (member_here y ys) in
          let u = inside_bounds P y i in
          let last_in = inside_bounds P (last_of y ys) (m (last_of y ys) (member_last y ys)) in
          let o = l.0 in
          let still : links.link rs y / 4 % 2 ≡ 0 = rw (link_word ws y) (rw (f, i) at S.valid.steady) in
          record { nobody = λ z. absurd (omega arith); somebody = λ z. record { first = omega arith; clear = rw o still } }

  -- ---- all together

  once : (x : ℕ) → total ws x (every n) ≡ bit (inside P x)
  once x = total_hits ws x (inside P x) (S.valid.placed.place x) (S.valid.placed.once x) (every n) ∙ go (inside P x) refl
    where
      go : (b : Bool) → inside P x ≡ b → cond (inside P x) (hits (S.valid.placed.place x) (every n)) 0 ≡ bit (inside P x)
      go true i = rw i (every_once n (S.valid.placed.place x) (S.valid.placed.real x i))
      go false i = rw i

  pub sound_whole : Whole ws
  sound_whole = record { counts = counted; runs = runs; each = visited; once = once }
