-- What bytes without a newline, a newline and the end of the input make of the progress so far, over all that was fed before. Assumes nothing.
use Prim.Native.Nat.{ℕ, zero, suc, ◌+◌, ◌-◌, ◌≤◌, ◌<◌, min}
use native.Mathlib.Omega.{arith}
use mathlib.Core.Path.{◌≡◌, refl, sym, ap, ◌∙◌, subst}
use mathlib.Core.Logic.{◌≢◌}
use Rattle.std.specs.Prelude.{Some}
use mathlib.Core.List.{List, [], ◌∷◌, ◌++◌, append_assoc, append-nil}
use lib.ListN.{length, get_or, take, drop}
use lib.Seq.{length-take-le, take-nil, take-suc, take-append-le, take-append-add}
use borrow.Rule.Slice.PartMut.{post_of, put_mid}
use Rattle.std.proofs.lemmas.List.{take-append-drop, take_min}
use Rattle.model.specs.Run.Run.{none, then}
use Rattle.model.proofs.Runs.{run_append}
use Rattle.script.specs.Line.{Meaning, meaning}
use Rattle.serve.specs.Serve.{Serves}
use Rattle.lines.specs.Lines.{ended, rest, last, joined, Answered, Puts, Progress, progress, After, Feeds, Closes, TakesIn}
use Rattle.lines.proofs.Cuts.{Plain, ended_plain, rest_plain, ended_newline, rest_newline, joined_append, kept_more, kept_meaning, kept_some}

-- ---- parts of a list

-- what was put at the front of the part stands behind what stood before it
pub part_front : (a k n : ℕ) (xs ys : List ℕ) → a ≤ length xs → n ≤ length ys → take (a + n) (put_mid a k xs ys) ≡ take a xs ++ take n ys
part_front a k n xs ys h l =
    subst (λ (m : ℕ). take (m + n) (put_mid a k xs ys) ≡ take a xs ++ take n ys) (length-take-le a xs h)
    (take-append-add (take a xs) (ys ++ post_of a k xs) n ∙ ap (λ (zs : List ℕ). take a xs ++ zs) (take-append-le n ys (post_of a k xs) l))

-- as many are put behind those that are there as there is room for
pub filled : (fill n : ℕ) (room bytes : List ℕ) → n ≡ min (length bytes) (length room - fill) → fill ≤ length room → take fill room ++ take n bytes ≡ take (length room) (take fill room ++ bytes)
filled fill n room bytes e h =
    let m = length room - fill in
    let l : length (take fill room) + m ≡ length room = omega (arith, length-take-le fill room h) in
    let c : min m (length bytes) ≡ n = omega arith in
    ap (λ (ys : List ℕ). take fill room ++ ys) (ap (λ (k : ℕ). take k bytes) (sym c) ∙ take_min m bytes) ∙ sym (take-append-add (take fill room) bytes m) ∙ ap (λ (k : ℕ). take k (take fill room ++ bytes)) l

-- ---- answers

-- one line more is answered
pub answered_more : {ls : List (List ℕ)} {begun area told : List ℕ} (l new out : List ℕ) → Answered ls begun area told → Serves (meaning l) area new out → Answered (ls ++ (l ∷ [])) begun new (told ++ out)
answered_more l new out (outs, R, e) S =
    (outs ++ (out ∷ []), run_append R (then S none), ap (λ (t : List ℕ). t ++ out) e ∙ sym (joined_append outs (out ∷ []) ∙ ap (λ (t : List ℕ). joined outs ++ t) (append-nil out)))

-- ---- after some input

-- before any
pub after_none : (line area : List ℕ) → After area [] (progress line 0 area) []
after_none line area = record { answered = ([], none, refl); kept = sym (take-nil (length line)) }

module _ {begun input told line area : List ℕ} {fill : ℕ} (A : After begun input (progress line fill area) told) where
  after_plain : (bs : List ℕ) (h : Progress) → Plain bs → h.area ≡ area → length h.line ≡ length line → take h.fill h.line ≡ take (length line) (take fill line ++ bs) → After begun (input ++ bs) h told
  after_plain bs h P a n k = record {
    answered = rw (a, ended_plain [] input bs P) A.answered;
    kept = rw (n, rest_plain [] input bs P) (k ∙ kept_more line (rest [] input) fill A.kept bs);
  }

  -- what is kept is served as the open line is
  as_open : (new out : List ℕ) → 8192 < length line → Serves (meaning (take fill line)) area new out → Serves (meaning (rest [] input)) area new out
  as_open new out h S = subst (λ (m : Meaning). Serves m area new out) (kept_meaning line (rest [] input) fill A.kept h) S

  after_newline : (b : ℕ) (h : Progress) (out : List ℕ) → h.fill ≡ 0 → b ≡ 10 → 8192 < length line → Serves (meaning (take fill line)) area h.area out → After begun (input ++ (b ∷ [])) h (told ++ out)
  after_newline b h out z e l S = record {
    answered = subst (λ (ls : List (List ℕ)). Answered ls begun h.area (told ++ out)) (sym (ended_newline [] input b e)) (answered_more (rest [] input) h.area out A.answered (as_open h.area out l S));
    kept = rw (z, rest_newline [] input b e) (sym (take-nil (length h.line)));
  }

-- ---- a piece, line by line

-- no byte yet
pub feeds_none : {h : Progress} {out : List ℕ} → out ≡ [] → Feeds [] h h out
feeds_none {h} {out} e begun input told A =
    subst (λ (i : List ℕ). After begun i h (told ++ out)) (sym (append-nil input)) (subst (After begun input h) (sym (ap (λ (o : List ℕ). told ++ o) e ∙ append-nil told)) A)

module _ {h₀ : Progress} {xs line area out : List ℕ} {fill : ℕ} (F : Feeds xs h₀ (progress line fill area) out) where
  pub feeds_plain : (bs : List ℕ) (h : Progress) → Plain bs → h.area ≡ area → length h.line ≡ length line → take h.fill h.line ≡ take (length line) (take fill line ++ bs) → Feeds (xs ++ bs) h₀ h out
  feeds_plain bs h P a n k begun input told A =
      subst (λ (i : List ℕ). After begun i h (told ++ out)) (append_assoc input xs bs) (after_plain (F begun input told A) bs h P a n k)

  pub feeds_newline : (b : ℕ) (h : Progress) (out' : List ℕ) → h.fill ≡ 0 → b ≡ 10 → 8192 < length line → Puts (take fill line) area h.area out out' → Feeds (xs ++ (b ∷ [])) h₀ h out'
  feeds_newline b h out' z e l (o, S, d) begun input told A =
      subst (λ (i : List ℕ). After begun i h (told ++ out')) (append_assoc input xs (b ∷ []))
      (subst (After begun (input ++ xs ++ (b ∷ [])) h) (append_assoc told out o ∙ ap (λ (t : List ℕ). told ++ t) (sym d)) (after_newline (F begun input told A) b h o z e l S))

-- what is left behind the byte at i, behind what was fed with it
pub left_on : (xs left : List ℕ) (i : ℕ) → i < length left → (xs ++ take i left ++ (get_or left i 0 ∷ [])) ++ drop (i + 1) left ≡ xs ++ left
left_on xs left i l =
    let e : i + 1 ≡ suc i = omega arith in
    ap (λ (ys : List ℕ). ys ++ drop (i + 1) left) (append_assoc xs (take i left) (get_or left i 0 ∷ []) ∙ ap (λ (ys : List ℕ). xs ++ ys) (sym (ap (λ (n : ℕ). take n left) e ∙ take-suc left i 0 l)))
    ∙ append_assoc xs (take (i + 1) left) (drop (i + 1) left) ∙ ap (λ (ys : List ℕ). xs ++ ys) (take-append-drop (i + 1) left)

-- ---- the end of the input

module _ (line area : List ℕ) (fill : ℕ) where
  pub closes_some : (h' : Progress) (out : List ℕ) → 0 < fill → fill ≤ length line → 8192 < length line → Puts (take fill line) area h'.area [] out → Closes (progress line fill area) h' out
  closes_some h' out h l k (o, S, d) begun input told A =
      let new = h'.area in
      subst (Answered (ended [] input ++ last (rest [] input)) begun new) (ap (λ (t : List ℕ). told ++ t) (sym d))
      (subst (λ (ls : List (List ℕ)). Answered ls begun new (told ++ o)) (ap (λ (ls : List (List ℕ)). ended [] input ++ ls) (sym (kept_some line (rest [] input) fill A.kept h l)))
      (answered_more (rest [] input) new o A.answered (as_open A new o k S)))

-- ---- what a read answered

pub takes_piece : {h h' : Progress} {out : List ℕ} (chunk : List ℕ) (n : ℕ) → n ≢ 0 → Feeds (take (min n (length chunk)) chunk) h h' out → TakesIn (Some n) chunk h h' out
takes_piece chunk zero z F = absurd (z refl)
takes_piece {h} {h'} {out} chunk (suc k) z F = subst (λ (xs : List ℕ). Feeds xs h h' out) (take_min (suc k) chunk) F
