-- Laws of bytes that are written on a page: some behind others, one over another, and a number over blank columns. Assumes nothing.
use Prim.Native.Nat.{ℕ, suc, ◌+◌, ◌-◌, ◌≤◌, ◌<◌}
use native.Mathlib.Omega.{arith}
use native.Mathlib.Nat.{add_assoc, add-zero}
use native.Mathlib.Numerals.{add-one}
use mathlib.Core.Path.{◌≡◌, refl, sym, ap, subst, ◌∙◌}
use mathlib.Core.List.{List, [], ◌∷◌, ◌++◌, append_assoc}
use lib.ListN.{length, take, drop, set, get_or, length-append, length-drop, take-append-drop}
use lib.Seq.{length-take-le, take_at, drop_at, take-suc, drop-drop, set_at, set_split, append_snoc}
use Rattle.rows.specs.Printed.{Written}

-- ---- any bytes

-- none
pub written_none : (at : ℕ) (old : List ℕ) → at ≤ length old → Written at [] old old
written_none at old h = record { room = simp add-zero h; bytes = sym (rw (add-zero at) (take-append-drop at old)) }

-- one
pub written_one : (at b : ℕ) (old : List ℕ) → at < length old → Written at (b ∷ []) old (set old at b)
written_one at b old h = record { room = omega arith; bytes = rw (add-one at) (set_split old at b h) }

-- those that stand there already
pub written_same : (at : ℕ) (xs old : List ℕ) → at + length xs ≤ length old → take (length xs) (drop at old) ≡ xs → Written at xs old old
written_same at xs old h e = record {
  room = h;
  bytes = sym (take-append-drop at old) ∙ ap (λ (l : List ℕ). take at old ++ l) (sym (take-append-drop (length xs) (drop at old)) ∙ (λ i. e i ++ drop-drop (length xs) at old i));
}

-- one more before them
pub written_before : (i b : ℕ) (xs : List ℕ) {old new : List ℕ} → 0 < i → Written i xs old new → Written (i - 1) (b ∷ xs) old (set new (i - 1) b)
written_before i b xs {old} {new} h w = go (i - 1) (subst (λ (k : ℕ). Written k xs old new) next w)
  where
    next : i ≡ suc (i - 1)
    next = omega arith

    go : (j : ℕ) → Written (suc j) xs old new → Written j (b ∷ xs) old (set new j b)
    go j v = record {
      room = let r = v.room in omega arith;
      bytes = ap (λ (l : List ℕ). set l j b) there ∙ set_at (take j old) (get_or old j 0) (xs ++ drop (suc j + length xs) old) b j (length-take-le j old (let r = v.room in omega arith)) ∙ ap (λ (m : ℕ). take j old ++ (b ∷ (xs ++ drop m old))) along;
    }
      where
        along : suc j + length xs ≡ j + suc (length xs)
        along = omega arith

        there : new ≡ take j old ++ (get_or old j 0 ∷ (xs ++ drop (suc j + length xs) old))
        there = v.bytes ∙ rw (take-suc old j 0 (let r = v.room in omega arith)) (append_snoc (take j old) (get_or old j 0) (xs ++ drop (suc j + length xs) old))

module _ {at : ℕ} {xs old new : List ℕ} (w : Written at xs old new) where
  -- they stand behind what was there
  ahead_long : length (take at old ++ xs) ≡ at + length xs
  ahead_long = let r = w.room in length-append (take at old) xs ∙ rw (length-take-le at old (omega arith))

  split : new ≡ (take at old ++ xs) ++ drop (at + length xs) old
  split = w.bytes ∙ sym (append_assoc (take at old) xs (drop (at + length xs) old))

  -- the page is as long as it was
  pub written_long : length new ≡ length old
  written_long = ap length split ∙ rw (length-append, ahead_long, length-drop) (let r = w.room in omega arith)

  front : take (at + length xs) new ≡ take at old ++ xs
  front = ap (take (at + length xs)) split ∙ take_at (take at old ++ xs) (drop (at + length xs) old) (at + length xs) ahead_long

  -- past them all is as it was
  past : (k : ℕ) → drop (at + length xs + k) new ≡ drop (at + length xs + k) old
  past k = sym (drop-drop k (at + length xs) new) ∙ ap (drop k) (ap (drop (at + length xs)) split ∙ drop_at (take at old ++ xs) (drop (at + length xs) old) (at + length xs) ahead_long) ∙ drop-drop k (at + length xs) old

-- some behind others
pub written_then : {at : ℕ} {xs ys old mid new : List ℕ} {next : ℕ} → next ≡ at + length xs → Written at xs old mid → Written next ys mid new → Written at (xs ++ ys) old new
written_then {at} {xs} {ys} {old} {mid} e v w' = go (rw e at w')
  where
    go : {new : List ℕ} → Written (at + length xs) ys mid new → Written at (xs ++ ys) old new
    go w = record {
      room = rw (length-append) (let r = w.room in let l = written_long v in omega arith);
      bytes = w.bytes ∙ (λ i. front v i ++ (ys ++ past v (length ys) i)) ∙ append_assoc (take at old) xs (ys ++ drop (at + length xs + length ys) old)
          ∙ ap (λ (l : List ℕ). take at old ++ l) (sym (append_assoc xs ys (drop (at + length xs + length ys) old)) ∙ ap (λ (m : ℕ). (xs ++ ys) ++ drop m old) (add_assoc at (length xs) (length ys) ∙ ap (λ (m : ℕ). at + m) (sym (length-append xs ys))));
    }

-- some over others of the same length
module _ (at : ℕ) (xs us ys zs : List ℕ) {old mid : List ℕ} (v : Written at (xs ++ (us ++ ys)) old mid) where
  abbrev rest : List ℕ
  rest = ys ++ drop (at + length (xs ++ (us ++ ys))) old

  parted : mid ≡ (take at old ++ xs) ++ (us ++ rest)
  parted = v.bytes ∙ simp append_assoc

  reach : length (take at old ++ xs) ≡ at + length xs
  reach = length-append (take at old) xs ∙ rw (length-take-le at old (let r = v.room in omega arith))

  -- the others stand there
  pub written_there : take (length us) (drop (at + length xs) mid) ≡ us
  written_there = ap (λ (l : List ℕ). take (length us) (drop (at + length xs) l)) parted ∙ ap (take (length us)) (drop_at (take at old ++ xs) (us ++ rest) (at + length xs) reach) ∙ take_at us rest (length us) refl

  pub written_over : {new : List ℕ} → length zs ≡ length us → Written (at + length xs) zs mid new → Written at (xs ++ (zs ++ ys)) old new
  written_over {new} e w = record {
    room = simp (length-append, e) (simp length-append at v.room);
    bytes = w.bytes ∙ (λ i. head i ++ (zs ++ tail i)) ∙ same;
  }
    where
      head : take (at + length xs) mid ≡ take at old ++ xs
      head = ap (take (at + length xs)) parted ∙ take_at (take at old ++ xs) (us ++ rest) (at + length xs) reach

      tail : drop (at + length xs + length zs) mid ≡ rest
      tail = sym (drop-drop (length zs) (at + length xs) mid) ∙ ap (λ (l : List ℕ). drop (length zs) (drop (at + length xs) l)) parted ∙ ap (drop (length zs)) (drop_at (take at old ++ xs) (us ++ rest) (at + length xs) reach) ∙ drop_at us rest (length zs) (sym e)

      lengths : length (xs ++ (us ++ ys)) ≡ length (xs ++ (zs ++ ys))
      lengths = simp (length-append, e)

      same : (take at old ++ xs) ++ (zs ++ rest) ≡ take at old ++ ((xs ++ (zs ++ ys)) ++ drop (at + length (xs ++ (zs ++ ys))) old)
      same = rw (← lengths) (simp append_assoc)
