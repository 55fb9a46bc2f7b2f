-- The whole list: an area is the words of its parts and what lies beyond, since every index below the size is a slot's. Assumes nothing.
use Prim.Native.Nat.{ℕ, zero, suc, ◌/◌, ◌%◌, ◌≤◌, ◌<◌}
use native.Mathlib.Omega.{arith}
use mathlib.Core.Path.{◌≡◌, refl, sym, ap, ap₂, ◌∙◌}
use mathlib.Core.Bool.{true, not, ◌&&◌}
use mathlib.Core.List.{List, [], ◌∷◌, ◌++◌, map}
use lib.Dec.{ltb}
use lib.ListN.{length, get_or, drop, take, length-append, length-drop, length-map, take-append-drop, get_or-append}
use lib.Seq.{ext_get_or, get_or-take, length-take-le, take-append_seam, drop-append_seam}
use Rattle.model.specs.declared.Shape.{Shape}
use Rattle.model.specs.Queue.{inside}
use Rattle.model.specs.Machine.{State, model}
use Rattle.model.specs.Rules.{counted}
use Rattle.model.proofs.Tests.{and_split, not_true, not_below, inside_bounds}
use Rattle.area.specs.Layout.{Part, Parts, Slot, slots, word, span, home, size, at, has, Image, Stored}
use Rattle.area.specs.Layout.Slot.{Processes, LocksConditions, Parks, Clock}
use Rattle.area.specs.State.{laid, write}
use Rattle.area.specs.Reading.{shape_of}
use Rattle.area.proofs.Addresses.{slots_long, slot_at, at_below, cover}

-- ---- the counts

pub record Counts (n : Shape) : Type 0 where
  pub some : 1 ≤ n.processes
  pub processes : n.processes ≤ 1023
  pub locks : n.locks ≤ 255
  pub conditions : n.conditions ≤ 255
  pub parks : n.parks ≤ 8

pub counts_in : (n : Shape) → counted n ≡ true → Counts n
counts_in n e =
    let a = and_split (inside 1023 n.processes && not (ltb 255 n.locks) && not (ltb 255 n.conditions)) (not (ltb 8 n.parks)) e in
    let b = and_split (inside 1023 n.processes && not (ltb 255 n.locks)) (not (ltb 255 n.conditions)) a.0 in
    let c = and_split (inside 1023 n.processes) (not (ltb 255 n.locks)) b.0 in
    let p = inside_bounds 1023 n.processes c.0 in
    record {
      some = p.0;
      processes = p.1;
      locks = not_below 255 n.locks (not_true (ltb 255 n.locks) c.1);
      conditions = not_below 255 n.conditions (not_true (ltb 255 n.conditions) b.1);
      parks = not_below 8 n.parks (not_true (ltb 8 n.parks) a.1);
    }

-- an area says its own counts
pub image_shape : (n : Shape) (ws : List ℕ) (t : Parts) → Image n ws t → shape_of ws ≡ n
image_shape n ws t im = λ i. record {
  processes = im.words Processes refl i;
  locks = locks_said i;
  conditions = conditions_said i;
  parks = parks_said i;
}
  where
    c : Counts n
    c = counts_in n im.counts

    locks_said : get_or ws 1 0 / 256 ≡ n.locks
    locks_said = omega (arith, im.words LocksConditions refl, c.conditions)

    conditions_said : get_or ws 1 0 % 256 ≡ n.conditions
    conditions_said = omega (arith, im.words LocksConditions refl, c.conditions)

    parks_said : get_or ws 2 0 / 4096 ≡ n.parks
    parks_said = omega (arith, im.words Parks refl)

-- ---- every word

get_d_mapped : (g : Slot → ℕ) (l : List Slot) (i : ℕ) → i < length l → get_or (map g l) i 0 ≡ g (get_or l i Clock)
get_d_mapped g [] i h = absurd (omega arith)
get_d_mapped g (x ∷ xs) zero h = refl
get_d_mapped g (x ∷ xs) (suc i) h = get_d_mapped g xs i (omega arith)

module _ (n : Shape) (t : Parts) where
  mapped_long : length (map (word n t) (slots n)) ≡ size n
  mapped_long = length-map (slots n) (word n t) ∙ slots_long n

  mapped_at : (a : Slot) → has n a ≡ true → get_or (map (word n t) (slots n)) (at n a) 0 ≡ word n t a
  mapped_at a v =
      get_d_mapped (word n t) (slots n) (at n a) (omega (arith, slots_long n, at_below n a v)) ∙ ap (word n t) (slot_at n a v)

  -- an area is the words of its parts, and what lies beyond
  pub image_whole : (ws : List ℕ) → Image n ws t → take (size n) ws ≡ map (word n t) (slots n)
  image_whole ws im =
      let k : length (take (size n) ws) ≡ size n = length-take-le (size n) ws im.long in
      ext_get_or 0 (take (size n) ws) (map (word n t) (slots n)) (k ∙ sym mapped_long) (λ i h. each_word i (rw k at h))
    where
      each_word : (i : ℕ) → i < size n → get_or (take (size n) ws) i 0 ≡ get_or (map (word n t) (slots n)) i 0
      each_word i h =
          let c = cover n i h in
          get_or-take (size n) ws i 0 h ∙ rw (← c.2) (im.words c.0 c.1 ∙ sym (mapped_at c.0 c.1))

-- a stored state is every word
pub stored_write : (n : Shape) (old new : List ℕ) (s : State model) → Stored n old new (laid n s) → new ≡ write n s old
unfolding write
stored_write n old new s st =
    sym (take-append-drop (size n) new) ∙ ap₂ (λ (x y : List ℕ). x ++ y) (image_whole n (laid n s) new st.image) st.beyond

-- the words of a state stand below the size, and what lies beyond stays
pub write_below : (n : Shape) (s : State model) (ws : List ℕ) → take (size n) (write n s ws) ≡ map (word n (laid n s)) (slots n)
unfolding write
write_below n s ws =
    ap (λ (k : ℕ). take k (map (word n (laid n s)) (slots n) ++ drop (size n) ws)) (sym (mapped_long n (laid n s)))
    ∙ take-append_seam (map (word n (laid n s)) (slots n)) (drop (size n) ws)

pub write_beyond : (n : Shape) (s : State model) (ws : List ℕ) → drop (size n) (write n s ws) ≡ drop (size n) ws
unfolding write
write_beyond n s ws =
    ap (λ (k : ℕ). drop k (map (word n (laid n s)) (slots n) ++ drop (size n) ws)) (sym (mapped_long n (laid n s)))
    ∙ drop-append_seam (map (word n (laid n s)) (slots n)) (drop (size n) ws)

-- the words of a state are an area that holds it
pub write_image : (n : Shape) (old : List ℕ) (s : State model) → counted n ≡ true → size n ≤ length old → ((f : Part) → has n (home f) ≡ true → laid n s f < span f) → Image n (write n s old) (laid n s)
unfolding write
write_image n old s k h sp =
    let l = mapped_long n (laid n s) in
    record {
      counts = k;
      long = simp (length-append, length-drop) (omega arith);
      words = λ a va.
          let b : at n a < size n = at_below n a va in
          get_or-append (map (word n (laid n s)) (slots n)) (drop (size n) old) 0 (at n a) (omega arith) ∙ mapped_at n (laid n s) a va;
      spans = sp;
    }
