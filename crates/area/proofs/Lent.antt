-- The records, lent as a part: a word of it is a word of the area behind the front, so a part is read and written there as in the area. Assumes nothing.
use Prim.Native.Nat.{ℕ, suc, ◌+◌, ◌*◌, ◌/◌, ◌%◌, ◌^◌, ◌≤◌, ◌<◌}
use native.Mathlib.Omega.{arith}
use mathlib.Core.Path.{◌≡◌, refl, sym, ap, ◌∙◌}
use mathlib.Core.Bool.{true}
use mathlib.Core.List.{List, [], ◌∷◌, ◌++◌}
use lib.ListN.{length, get_or, set}
use lib.Seq.{get_or-append-add}
use Rattle.model.specs.declared.Shape.{Shape}
use Rattle.model.specs.Queue.{inside}
use Rattle.model.specs.Field.Field.{priority, timer}
use Rattle.links.specs.Link.{slot}
use Rattle.area.specs.Layout.{Part, Parts, alter, unit, span, home, has, at, records_at, Lies, Flag, Image, Stored}
use Rattle.area.specs.Layout.Part.{kept}
use Rattle.area.specs.Layout.Slot.{Timer}
use Rattle.area.proofs.Stores.{store, place_power, place_fits, place_room}

set_behind : (xs ys : List ℕ) (j v : ℕ) → set (xs ++ ys) (length xs + j) v ≡ xs ++ set ys j v
set_behind [] ys j v = ap (λ i. set ys i v) (let e : 0 + j ≡ j = omega arith in e)
set_behind (x ∷ xs) ys j v =
    ap (λ i. set (x ∷ (xs ++ ys)) i v) (let e : length (x ∷ xs) + j ≡ suc (length xs + j) = omega arith in e) ∙ ap (λ (l : List ℕ). x ∷ l) (set_behind xs ys j v)

module _ {n : Shape} (front r : List ℕ) {t : Parts} (fits : length front ≡ records_at n) (im : Image n (front ++ r) t) where
  lent_word : (j i : ℕ) → i ≡ records_at n + j → get_or (front ++ r) i 0 ≡ get_or r j 0
  lent_word j i e = ap (λ k. get_or (front ++ r) k 0) (let k : i ≡ length front + j = omega arith in k) ∙ get_or-append-add front r j 0

  lent_timer : {p : ℕ} → inside n.processes p ≡ true → get_or r (slot p + 2) 0 ≡ t (kept (timer p))
  lent_timer {p} h = sym (lent_word (slot p + 2) (at n (Timer p)) (omega arith)) ∙ im.words (Timer p) h

  lent_store : (f : Part) (x j v u k : ℕ) → has n (home f) ≡ true → at n (home f) ≡ records_at n + j → x < span f → unit f ≡ u → span f ≡ k → v + get_or r j 0 / u % k * u ≡ get_or r j 0 + x * u
      → Stored n (front ++ r) (front ++ set r j v) (alter f x t)
  lent_store f x j v u k ok here small eu ek e =
      rw (← set_behind front r j v, fits)
      (store n (front ++ r) t im f x (records_at n + j) ok small (sym here) u k v (get_or r j 0) eu ek (sym (lent_word j (records_at n + j) refl)) e)

  module _ {p : ℕ} (h : inside n.processes p ≡ true) where
    pub lent_calm : (j : ℕ) → j ≡ slot p + 2 → Stored n (front ++ r) (front ++ set r j 0) (alter (kept (timer p)) 0 t)
    lent_calm j here =
        let w : get_or r (slot p + 2) 0 < 65536 = rw (lent_timer h) (im.spans (kept (timer p)) h) in
        rw here (lent_store (kept (timer p)) 0 (slot p + 2) 0 1 65536 h (omega arith) (omega arith) refl refl (omega arith))

    -- a bit of the flags takes a value, for which the word has room
    module _ (f : Part) {u x : ℕ} (F : Flag p f u) (small : x < 2) where
      here : Lies n f (record { at = records_at n + (slot p + 1); unit = u; span = 2 })
      here = (rw F.0 h, rw F.0 (omega arith), sym F.1, sym F.2)

      fits_in : x < span f
      fits_in = rw F.2 small

      pub lent_flag_room : (2 * u ≤ 65536) × ((i : ℕ) × (u ≡ 2 ^ i)) × (get_or r (slot p + 1) 0 + x * u < 65536 + get_or r (slot p + 1) 0 / u % 2 * u)
      lent_flag_room = (place_fits im f here, place_power im f here, rw (lent_word (slot p + 1) (records_at n + (slot p + 1)) refl) at (place_room im f here fits_in))

      pub lent_flag : (v : ℕ) → v + get_or r (slot p + 1) 0 / u % 2 * u ≡ get_or r (slot p + 1) 0 + x * u → Stored n (front ++ r) (front ++ set r (slot p + 1) v) (alter f x t)
      lent_flag v e = lent_store f x (slot p + 1) v u 2 here.0 (sym here.1) fits_in F.1 F.2 e

    pub lent_rank : (x v : ℕ) → x < 8 → v + get_or r (slot p) 0 / 8192 % 8 * 8192 ≡ get_or r (slot p) 0 + x * 8192 → Stored n (front ++ r) (front ++ set r (slot p) v) (alter (kept (priority p)) x t)
    lent_rank x v small e = lent_store (kept (priority p)) x (slot p) v 8192 8 h (omega arith) small refl refl e
