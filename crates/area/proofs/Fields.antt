-- A part of a word, and a field that takes a value, whichever it is: what the reads and writes of the crate stand on. Assumes nothing.
use Prim.Native.Nat.{ℕ, suc, ◌+◌, ◌*◌, ◌/◌, ◌%◌, ◌^◌, ◌≤◌, ◌<◌}
use native.Mathlib.Omega.{arith}
use native.Mathlib.Nat.{mod-lt, div-add-mod', mul_assoc}
use mathlib.Core.Path.{◌≡◌, refl, sym, ap, ◌∙◌, subst}
use mathlib.Core.Bool.{Bool, true, false, cond, true≢false}
use mathlib.Core.List.{List}
use lib.Arith.{mod-mul}
use lib.Pow.{pow_pos}
use lib.Bits.{bit_or, or_shifted}
use lib.ListN.{length, get_or, set}
use Rattle.model.specs.declared.Shape.{Shape}
use Rattle.model.specs.Queue.{inside, bit}
use Rattle.model.specs.Field.{Field, some}
use Rattle.model.specs.Field.Field.{clock, running, priority, armed, timer, failed, abort, holder, wakeup, abortable}
use Rattle.model.specs.Rules.{counted}
use Rattle.model.specs.Machine.{State, model}
use Rattle.model.specs.Valid.{room}
use Rattle.area.specs.declared.places.Place.{Place}
use Rattle.area.specs.Layout.{Part, Parts, alter, Slot, home, span, at, has, Image, Stored}
use Rattle.area.specs.Layout.Part.{kept, tail, next, locked, waiting}
use Rattle.area.specs.Layout.Slot.{Running}
use Rattle.area.specs.State.{laid}
use Rattle.area.specs.Holds.{Holds, Becomes, Takes, plain, with}
use Rattle.area.proofs.Stores.{image_ext, within, store}
use Rattle.area.proofs.Puts.{becomes_with, becomes_holder}
use Rattle.area.proofs.Whole.{counts_in}

-- ---- addresses

-- the words of an area are there
pub below : {n : Shape} {ws : List ℕ} {t : Parts} → Image n ws t → (a : Slot) {i : ℕ} → has n a ≡ true → i ≡ at n a → i < length ws
below {n} {ws} {t} im a ok here = rw here (within n ws t im a ok)

-- ---- a part of a word

-- a word w is what stands above a part, what the part counts, and what stands below; v takes the place of what it counts
swapped : (w h p l v : ℕ) → h + (p + l) ≡ w → w + v < 65536 + p → (h + l + v < 65536) × (h + l + v + p ≡ w + v)
swapped w h p l v e room = (omega arith, omega arith)

module _ (w u k x : ℕ) (hk : 0 < k) (power : (i : ℕ) × (u ≡ 2 ^ i)) where
  unit_some : 0 < u
  unit_some = rw power.1 (pow_pos power.0)

  split : w / (k * u) * (k * u) + (w / u % k * u + w % u) ≡ w
  split = ap (λ z. w / (k * u) * (k * u) + z) (sym (mod-mul w {m = k} {c = u} hk unit_some)) ∙ div-add-mod' w (k * u)

  -- no bit stands both above and below
  apart : bit_or (w / (k * u) * (k * u)) (w % u) ≡ w / (k * u) * (k * u) + w % u
  apart =
      let l = mod-lt w {m = u} unit_some in
      rw (← mul_assoc (w / (k * u)) k u) (subst (λ (z : ℕ). w % u < z → bit_or (w / (k * u) * k * z) (w % u) ≡ w / (k * u) * k * z + w % u) (sym power.1) (or_shifted (w / (k * u) * k) power.0 (w % u)) l)

  pub part_swapped : w + x * u < 65536 + w / u % k * u → (bit_or (w / (k * u) * (k * u)) (w % u) + x * u < 65536) × (bit_or (w / (k * u) * (k * u)) (w % u) + x * u + w / u % k * u ≡ w + x * u)
  part_swapped room = rw apart (swapped w (w / (k * u) * (k * u)) (w / u % k * u) (w % u) (x * u) split room)

-- ---- writes

-- a field that the counts give has no more values than its bits, and any other is 0
pub room_span : (n : Shape) → counted n ≡ true → (f : Field) → room n f ≤ cond (has n (home (kept f))) (span (kept f)) 1
room_span n k clock = omega arith
room_span n k running = omega (arith, (counts_in n k).processes)
room_span n k (priority p) = omega arith
room_span n k (armed p) = omega arith
room_span n k (timer p) = omega arith
room_span n k (failed p) = omega arith
room_span n k (abort p) = omega arith
room_span n k (holder l) = go (inside n.locks l)
  where
    go : (b : Bool) → cond b (suc n.processes) 1 ≤ cond b 1024 1
    go true = omega (arith, (counts_in n k).processes)
    go false = omega arith
room_span n k (wakeup c) = omega arith
room_span n k (abortable c) = omega arith

module _ {n : Shape} {ws : List ℕ} {s : State model} (H : Holds n ws s) where
  -- a plain field
  module _ (f : Field) {p : Place} {x : ℕ} (T : Takes n f p x) where
    pub takes_fits : x < span (kept f)
    takes_fits =
        let r : room n f ≤ span (kept f) = rw T.lies.0 at (room_span n H.image.counts f) in
        omega (arith, T.fits)

    pub takes : {new : List ℕ} → Stored n ws new (alter (kept f) x (laid n s)) → Becomes n ws new (with f x s)
    takes st = becomes_with H f x T.fits (λ q e. true≢false (sym T.free ∙ ap plain e)) (λ l e. true≢false (sym T.free ∙ ap plain e)) st

  -- who runs, in a word that has nothing else
  module _ (p : ℕ) (fits : p ≤ n.processes) where
    pub runner_small : p < span (kept running)
    runner_small = omega (arith, (counts_in n H.image.counts).processes)

    pub takes_runner : Becomes n ws (set ws 4 (p * 8)) (with running p s)
    takes_runner =
        let w = H.image.words Running refl in
        becomes_with H running p (omega arith) (λ q e. true≢false (ap plain e)) (λ l e. true≢false (ap plain e))
        (store n ws (laid n s) H.image (kept running) p 4 refl runner_small refl 8 1024 (p * 8) (get_or ws 4 0) refl refl refl (omega (arith, H.image.spans (kept running) refl)))

  -- a lock's holder, with its locked bit
  module _ (l p : ℕ) (ok : inside n.locks l ≡ true) (fits : p ≤ n.processes) where
    pub holder_fits : p < span (kept (holder l))
    holder_fits = omega (arith, (counts_in n H.image.counts).processes)

    pub takes_holder : {new : List ℕ} {b : ℕ} → b ≡ bit (some p) → Stored n ws new (alter (kept (holder l)) p (alter (locked l) b (laid n s))) → Becomes n ws new (with (holder l) p s)
    takes_holder {new} {b} e st =
        becomes_holder H l p (rw ok (omega arith)) (record { image = image_ext n new _ _ st.image (λ f h. swapped f); beyond = st.beyond })
      where
        swapped : (f : Part) → alter (kept (holder l)) p (alter (locked l) b (laid n s)) f ≡ alter (locked l) (bit (some p)) (alter (kept (holder l)) p (laid n s)) f
        swapped (kept f) = refl
        swapped (tail q) = refl
        swapped (next q) = refl
        swapped (locked m) = rw e
        swapped (waiting q) = refl
