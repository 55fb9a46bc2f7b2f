-- Cutting goes on where it stopped, and room for more than 8,192 bytes keeps of a line all that its meaning asks for. By induction on the bytes.
-- Assumes nothing.
use Prim.Native.Nat.{ℕ, suc, ◌≤◌, ◌<◌}
use native.Mathlib.Decide.{dec_lt}
use native.Mathlib.Omega.{arith}
use mathlib.Core.Path.{◌≡◌, refl, sym, ap, ◌∙◌}
use mathlib.Core.Bool.{Bool, true, false, not, cond}
use mathlib.Core.List.{List, [], ◌∷◌, ◌++◌, append_assoc, append-nil}
use lib.Dec.{eqb}
use lib.ListN.{length, get_or, take, length-take}
use lib.Seq.{length-take-le, take_all, take-append-le}
use Rattle.std.specs.Prelude.{Some, None}
use Rattle.std.specs.List.{position, position_or_len}
use Rattle.std.proofs.lemmas.List.Sums.{prefix_len_passes}
use Rattle.std.proofs.lemmas.Bool.Decides.{nat_tests}
use Rattle.std.proofs.lemmas.Bool.{eqb-true}
use Rattle.std.proofs.lemmas.List.{get_or-take}
use Rattle.std.proofs.lemmas.List.Quantifiers.{position-Some}
use Rattle.model.proofs.Tests.{eqb_yes, leb_no}
use Rattle.script.specs.Line.{meaning}
use Rattle.lines.specs.Lines.{ended, rest, last, joined}

-- ---- more bytes

pub ended_append : (line xs ys : List ℕ) → ended line (xs ++ ys) ≡ ended line xs ++ ended (rest line xs) ys
ended_append line [] ys = refl
ended_append line (x ∷ xs) ys = go (eqb x 10) (ended_append [] xs ys) (ended_append (line ++ (x ∷ [])) xs ys)
  where
    go : (b : Bool) → ended [] (xs ++ ys) ≡ ended [] xs ++ ended (rest [] xs) ys
        → ended (line ++ (x ∷ [])) (xs ++ ys) ≡ ended (line ++ (x ∷ [])) xs ++ ended (rest (line ++ (x ∷ [])) xs) ys
        → cond b (line ∷ ended [] (xs ++ ys)) (ended (line ++ (x ∷ [])) (xs ++ ys)) ≡ cond b (line ∷ ended [] xs) (ended (line ++ (x ∷ [])) xs) ++ ended (cond b (rest [] xs) (rest (line ++ (x ∷ [])) xs)) ys
    go true e d = ap (λ (ls : List (List ℕ)). line ∷ ls) e
    go false e d = d

pub rest_append : (line xs ys : List ℕ) → rest line (xs ++ ys) ≡ rest (rest line xs) ys
rest_append line [] ys = refl
rest_append line (x ∷ xs) ys = go (eqb x 10) (rest_append [] xs ys) (rest_append (line ++ (x ∷ [])) xs ys)
  where
    go : (b : Bool) → rest [] (xs ++ ys) ≡ rest (rest [] xs) ys → rest (line ++ (x ∷ [])) (xs ++ ys) ≡ rest (rest (line ++ (x ∷ [])) xs) ys
        → cond b (rest [] (xs ++ ys)) (rest (line ++ (x ∷ [])) (xs ++ ys)) ≡ rest (cond b (rest [] xs) (rest (line ++ (x ∷ [])) xs)) ys
    go true e d = e
    go false e d = d

-- no newline is among them
abbrev pub Plain : List ℕ → Type 0
Plain bs = (i : ℕ) → i < length bs → eqb (get_or bs i 0) 10 ≡ false

plain_bytes : (line bs : List ℕ) → Plain bs → (ended line bs ≡ []) × (rest line bs ≡ line ++ bs)
plain_bytes line [] P = (refl, sym (append-nil line))
plain_bytes line (b ∷ bs) P =
    let e = P 0 (omega arith) in
    let r = plain_bytes (line ++ (b ∷ [])) bs (λ i h. P (suc i) (omega arith)) in
    (rw e r.0, rw e (r.1 ∙ append_assoc line (b ∷ []) bs))

-- such bytes end no line and go on the open one
module _ (line xs bs : List ℕ) (P : Plain bs) where
  pub ended_plain : ended line (xs ++ bs) ≡ ended line xs
  ended_plain = ended_append line xs bs ∙ rw ((plain_bytes (rest line xs) bs P).0) (append-nil (ended line xs))

  pub rest_plain : rest line (xs ++ bs) ≡ rest line xs ++ bs
  rest_plain = rest_append line xs bs ∙ (plain_bytes (rest line xs) bs P).1

-- a newline ends the open line
module _ (line xs : List ℕ) (b : ℕ) (h : b ≡ 10) where
  pub ended_newline : ended line (xs ++ (b ∷ [])) ≡ ended line xs ++ (rest line xs ∷ [])
  ended_newline = ended_append line xs (b ∷ []) ∙ rw (eqb_yes b 10 h)

  pub rest_newline : rest line (xs ++ (b ∷ [])) ≡ []
  rest_newline = rest_append line xs (b ∷ []) ∙ rw (eqb_yes b 10 h)

pub joined_append : (xs ys : List (List ℕ)) → joined (xs ++ ys) ≡ joined xs ++ joined ys
joined_append [] ys = refl
joined_append (x ∷ xs) ys = ap (λ (l : List ℕ). x ++ l) (joined_append xs ys) ∙ sym (append_assoc x (joined xs) (joined ys))

-- ---- where the first newline stands

pub newline_some : (bs : List ℕ) {i : ℕ} → Some i ≡ position (λ b. eqb b 10) bs → (i < length bs) × (get_or bs i 0 ≡ 10) × Plain (take i bs)
newline_some bs {i} e =
    let p = position-Some (λ (b : ℕ). eqb b 10) bs i 0 (sym e) in
    (p.0, eqb-true (get_or bs i 0) 10 p.1, λ j h. let l : j < i = omega (arith, length-take i bs) in rw (get_or-take i bs j 0 l) (p.2 j l))

pub newline_none : (bs : List ℕ) → None ≡ position (λ b. eqb b 10) bs → Plain bs
newline_none bs e i h =
    let all : length bs ≤ position_or_len (λ b. eqb b 10) bs = grind (arith, nat_tests) in
    let p = prefix_len_passes (λ (b : ℕ). not (eqb b 10)) bs i 0 (omega arith) in
    grind (arith, nat_tests)

-- ---- the open line in its room

-- what is cut off twice is cut off once
take_again : (n : ℕ) (xs ys : List ℕ) → take n (take n xs ++ ys) ≡ take n (xs ++ ys)
take_again n xs ys = elim (dec_lt (length xs) n) [
  | yes h ↦ ap (λ (zs : List ℕ). take n (zs ++ ys)) (take_all n xs (omega arith))
  | no h ↦ let l : length (take n xs) ≡ n = length-take-le n xs (omega arith) in
      take-append-le n (take n xs) ys (omega arith) ∙ take_all n (take n xs) (omega arith) ∙ sym (take-append-le n xs ys (omega arith))
]

-- so many bytes at the front of room are those of the open line, as far as there is room
module _ (room line : List ℕ) (fill : ℕ) (k : take fill room ≡ take (length room) line) where
  -- and as far as there is room, bytes go on it
  pub kept_more : (bs : List ℕ) → take (length room) (take fill room ++ bs) ≡ take (length room) (line ++ bs)
  kept_more bs = ap (λ (l : List ℕ). take (length room) (l ++ bs)) k ∙ take_again (length room) line bs

  -- what is kept has the line's meaning: where it is cut short, both are too long
  pub kept_meaning : 8192 < length room → meaning (take fill room) ≡ meaning line
  kept_meaning h = elim (dec_lt (length room) (length line)) [
    | yes l ↦ let m : length (take (length room) line) ≡ length room = length-take-le (length room) line (omega arith) in
        rw (k, leb_no (length (take (length room) line)) 8192 (omega arith), leb_no (length line) 8192 (omega arith))
    | no l ↦ ap meaning (k ∙ take_all (length room) line (omega arith))
  ]

  pub kept_some : 0 < fill → fill ≤ length room → last line ≡ line ∷ []
  kept_some h l = full line (ap length k)
    where
      full : (o : List ℕ) → length (take fill room) ≡ length (take (length room) o) → last o ≡ o ∷ []
      full [] e = let w : ⊥ = omega (arith, length-take-le fill room l, length-take {A = ℕ} (length room) []) in absurd w
      full (b ∷ bs) e = refl
