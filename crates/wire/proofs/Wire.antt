-- The law of packing, over every width and every list of fields: fields of w bits come back, and with them the answer whose fields they are.
-- Assumes nothing.
use Prim.Native.Nat.{ℕ, ◌+◌, ◌*◌, ◌/◌, ◌%◌, ◌^◌, ◌<◌, ◌≤◌}
use native.Mathlib.Omega.{arith}
use native.Mathlib.Nat.{zero-add, mul-suc, mul-le-mul_left, mul-lt-mul_of_pos_left, mod-lt, pow-le-pow_right, mod-eq_of_lt, div-eq_of_lt, div-div-eq-div-mul, add-mul-mod_self_left, add-mul-div_left}
use mathlib.Core.Path.{◌≡◌, refl, sym, ap, ◌∙◌}
use mathlib.Core.List.{List, [], ◌∷◌, ◌++◌, append_assoc, append-nil}
use lib.ListN.{length, get_or, length-append}
use lib.Pow.{pow_pos, pow-add}
use Rattle.std.proofs.lemmas.Nat.{one_shl}
use Rattle.model.specs.declared.Answer.{Answer}
use Rattle.model.specs.declared.Report.{Report}
use Rattle.model.specs.Queue.{All}
use Rattle.model.specs.Machine.{fields_of}
use Rattle.timers.specs.declared.Earliest.{Earliest}
use Rattle.wire.specs.Wire.{packed, unpacked, Carries, report_fields, nearest_fields, answer_of, report_of, nearest_of}

-- ---- the last field first

-- how many numbers at most twenty bits hold is shifted in 64
pub room_of : (w : ℕ) → w ≤ 20 → 1 * 2 ^ w % 2 ^ 64 ≡ 2 ^ w
room_of w h = one_shl w 64 (omega arith)

-- fields have no more bits than theirs together
packed_small : (w : ℕ) (xs : List ℕ) → packed w xs < 2 ^ (w * length xs)
packed_small w [] = pow_pos (w * 0)
packed_small w (x ∷ xs) = rw (mul-suc, pow-add) (go (packed_small w xs) (mod-lt x (pow_pos w)))
  where
    go : packed w xs < 2 ^ (w * length xs) → x % 2 ^ w < 2 ^ w → x % 2 ^ w + 2 ^ w * packed w xs < 2 ^ (w * length xs) * 2 ^ w
    go h l = omega (arith, l, mul-le-mul_left (2 ^ w) h)

-- of the fields, the rest are to come, and the others are in the number
pub record Partly (w : ℕ) (fields rest : List ℕ) (number : ℕ) : Type 0 where
  pub done : List ℕ
  pub whole : fields ≡ rest ++ done
  pub made : number ≡ packed w done

-- none is in it yet
pub partly_start : (w : ℕ) {fields rest : List ℕ} → rest ≡ fields → Partly w fields rest 0
partly_start w e = record { done = []; whole = sym (append-nil _ ∙ e); made = refl }

module _ {w : ℕ} {fields rest : List ℕ} {number : ℕ} (p : Partly w fields rest number) where
  -- one more comes below
  pub partly_on : (x : ℕ) {left : List ℕ} → rest ≡ left ++ (x ∷ []) → Partly w fields left (x % 2 ^ w + 2 ^ w * number)
  partly_on x {left} e = record { done = x ∷ p.done; whole = p.whole ∙ rw e (append_assoc left (x ∷ []) p.done); made = ap (λ (m : ℕ). x % 2 ^ w + 2 ^ w * m) p.made }

  -- there is room for it
  pub partly_room : (x : ℕ) (left : List ℕ) → rest ≡ left ++ (x ∷ []) → w ≤ 20 → w * length fields ≤ 60 → (0 < 2 ^ w) × (2 ^ w ≤ 2 ^ 20) × (2 ^ w * number < 2 ^ 60)
  partly_room x left e h fits = (pow_pos w, pow-le-pow_right (omega arith) h, omega (arith, less, most))
    where
      less : 2 ^ w * number < 2 ^ (w + w * length p.done)
      less = rw (pow-add, p.made) (mul-lt-mul_of_pos_left (packed_small w p.done) (pow_pos w))

      long : length fields ≡ length left + 1 + length p.done
      long = ap length p.whole ∙ rw (e, length-append, length-append) refl

      bits : w + w * length p.done ≤ 60
      bits = let more = mul-le-mul_left {m = 1 + length p.done} {n = length left + 1 + length p.done} w (omega arith) in omega (arith, rw long at fits, more)

      most : 2 ^ (w + w * length p.done) ≤ 2 ^ 60
      most = pow-le-pow_right {n = 2} (omega arith) bits

-- all are
pub partly_end : {w : ℕ} {fields rest : List ℕ} {number : ℕ} → length rest ≡ 0 → Partly w fields rest number → number ≡ packed w fields
partly_end {w} {rest = []} e p = p.made ∙ ap (packed w) (sym p.whole)
partly_end {rest = x ∷ xs} e p = absurd (omega arith)

-- each field has w bits
abbrev pub Fit : ℕ → List ℕ → Type 0
Fit w = All (λ x. x < 2 ^ w)

-- fields of w bits come back out of their number
comes_back : (w : ℕ) (xs : List ℕ) → Fit w xs → unpacked w (length xs) (packed w xs) ≡ xs
unfolding unpacked
comes_back w [] h = refl
comes_back w (x ∷ xs) (h, hs) = λ i. low i ∷ (ap (unpacked w (length xs)) rest ∙ comes_back w xs hs) i
  where
    whole : x % 2 ^ w ≡ x
    whole = mod-eq_of_lt h

    low : (x % 2 ^ w + 2 ^ w * packed w xs) % 2 ^ w ≡ x
    low = rw whole (add-mul-mod_self_left x (2 ^ w) (packed w xs) ∙ whole)

    rest : (x % 2 ^ w + 2 ^ w * packed w xs) / 2 ^ w ≡ packed w xs
    rest = rw whole (add-mul-div_left x (packed w xs) (pow_pos w) ∙ rw (div-eq_of_lt h) (zero-add (packed w xs)))

-- the number carries them
pub carries : (w : ℕ) {r : ℕ} (xs : List ℕ) → r ≡ packed w xs → Fit w xs → Carries w r xs
carries w xs e h = record { number = e; back = ap (unpacked w (length xs)) e ∙ comes_back w xs h }

-- ---- an answer is made of its fields again, the first of a list

abbrev pub answer_from : List ℕ → Answer
answer_from l = record { code = get_or l 0 0; running = get_or l 1 0; retry = get_or l 2 0; mark = get_or l 3 0; moved = get_or l 4 0; ahead = get_or l 5 0 }

abbrev pub report_from : List ℕ → Report
report_from l = record { code = get_or l 0 0; count = get_or l 1 0 }

abbrev pub earliest_from : List ℕ → Earliest
earliest_from l = record { code = get_or l 0 0; process = get_or l 1 0; left = get_or l 2 0 }

-- and so comes back out of its number
pub read_answer : {r : ℕ} {a : Answer} → Carries 10 r (fields_of a) → a ≡ answer_of r
unfolding unpacked
read_answer {r} C = ap answer_from (sym C.back) ∙ simp div-div-eq-div-mul

pub read_report : (w : ℕ) {r : ℕ} {a : Report} → Carries w r (report_fields a) → a ≡ report_of w r
unfolding unpacked
read_report w C = ap report_from (sym C.back)

pub read_nearest : {r : ℕ} {a : Earliest} → Carries 20 r (nearest_fields a) → a ≡ nearest_of r
unfolding unpacked
read_nearest {r} C = ap earliest_from (sym C.back) ∙ simp div-div-eq-div-mul
