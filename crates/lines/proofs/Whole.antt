-- Over a whole input: piece by piece what was fed and told grows, and a line's answer and the area after it are decided by the line and the area
-- before it. Assumes nothing.
use Prim.Native.Nat.{ℕ, zero, suc}
use native.Mathlib.Decide.{ℕ_discrete}
use mathlib.Core.Path.{◌≡◌, refl, sym, ap, ◌∙◌, subst}
use mathlib.Core.Logic.Dec
use mathlib.Core.Logic.{◌≢◌, inl, inr}
use mathlib.Core.List.{List, [], ◌∷◌, ◌++◌, append_assoc, append-nil}
use Rattle.std.specs.Prelude.{Option, Some, None}
use lib.ListN.{length, take}
use Rattle.model.specs.Run.{Run}
use Rattle.model.specs.Run.Run.{none, then}
use Rattle.model.proofs.Tests.{settle}
use Rattle.model.proofs.Lists.{lists?}
use Rattle.start.specs.Start.{start_on}
use Rattle.script.specs.Line.{Meaning, meaning}
use Rattle.script.specs.Line.Meaning.{call, start, none as nothing}
use Rattle.print.specs.Print.{printed}
use Rattle.serve.specs.Serve.{Serves, Played}
use Rattle.lines.specs.Lines.{lines_of, joined, Answered, Progress, progress, After, Feeds, TakesIn, Rehearsal, Whole, Rehearsed}
use Rattle.lines.proofs.Feeding.{after_none}

-- ---- piece by piece

fed_after : {pieces : List (List ℕ)} {h h' : Progress} {outs : List (List ℕ)} {begun input told : List ℕ}
    → Run Feeds pieces h h' outs → After begun input h told → After begun (input ++ joined pieces) h' (told ++ joined outs)
fed_after {h = h} {begun = begun} {input} {told} none A = subst (λ (i : List ℕ). After begun i h (told ++ [])) (sym (append-nil input)) (subst (After begun input h) (sym (append-nil told)) A)
fed_after {h' = h'} {begun = begun} {input} {told} (then {c = p} {cs = ps} {a = o} {rs = os} F R) A =
    subst (λ (i : List ℕ). After begun i h' (told ++ (o ++ joined os))) (append_assoc input p (joined ps))
    (subst (After begun (input ++ p ++ joined ps) h') (append_assoc told o (joined os)) (fed_after R (F begun input told A)))

so_far : {pieces outs : List (List ℕ)} {h h' : Progress} → h.fill ≡ 0 → Run Feeds pieces h h' outs → After h.area (joined pieces) h' (joined outs)
so_far {h = h} z R = fed_after R (subst (λ (k : ℕ). After h.area [] (progress h.line k h.area) []) (sym z) (after_none h.line h.area))

all_answered : {pieces : List (List ℕ)} {begun area told : List ℕ} → Rehearsal pieces begun area told → Answered (lines_of (joined pieces)) begun area told
all_answered {pieces} {begun} {area} {told} R =
    subst (Answered (lines_of (joined pieces)) begun area) (sym R.tells)
    (subst (λ (ws : List ℕ). Answered (lines_of (joined pieces)) begun ws (joined R.outs ++ R.out)) R.leaves
    (R.ends begun (joined pieces) (joined R.outs)
    (subst (λ (ws : List ℕ). After ws (joined pieces) R.final (joined R.outs)) R.begins.1 (so_far R.begins.0 R.fed))))

-- ---- line by line

serves_alike : (m : Meaning) (old a b t u : List ℕ) → Serves m old a t → Serves m old b u → (a ≡ b) × (t ≡ u)
serves_alike (call c) old a b t u (x, (P, e)) (y, (Q, d)) =
    settle (Dec.and (lists? a b) (lists? t u))
    (λ S. let p = P.sound S in let q = Q.sound S in (p.1 ∙ sym q.1, e ∙ ap printed (p.0 ∙ sym q.0) ∙ sym d))
    (λ s. let p = P.unsound s in let q = Q.unsound s in (p.1 ∙ sym q.1, e ∙ ap printed (p.0 ∙ sym q.0) ∙ sym d))
serves_alike (start n bytes) old a b t u (x, (P, e)) (y, (Q, d)) = elim (ℕ_discrete (start_on n bytes (length old)) 0) [
  | yes z ↦ let p = P.accepted z in let q = Q.accepted z in (p.1 ∙ sym q.1, e ∙ ap printed (p.0 ∙ sym q.0) ∙ sym d)
  | no z ↦ let p = P.refused z in let q = Q.refused z in (p.1 ∙ sym q.1, e ∙ ap printed (p.0 ∙ sym q.0) ∙ sym d)
]
serves_alike nothing old a b t u (p, e) (q, d) = (p ∙ sym q, e ∙ sym d)

played_alike : {ls : List (List ℕ)} {old a b : List ℕ} {ts us : List (List ℕ)} → Played ls old a ts → Played ls old b us → (a ≡ b) × (ts ≡ us)
played_alike none none = (refl, refl)
played_alike {b = b} (then {c = l} {cs = ls} P R) (then {rs = us} Q T) =
    let one = serves_alike (meaning l) _ _ _ _ _ P Q in
    let more = played_alike R (subst (λ (ws : List ℕ). Played ls ws b us) (sym one.0) T) in
    (more.0, λ i. one.1 i ∷ more.1 i)

answered_alike : {ls : List (List ℕ)} {old a b t u : List ℕ} → Answered ls old a t → Answered ls old b u → (a ≡ b) × (t ≡ u)
answered_alike (ts, R, e) (us, T, d) = let p = played_alike R T in (p.0, e ∙ ap joined p.1 ∙ sym d)

pub whole : Whole
whole = record {
  so_far = so_far;
  answers = all_answered;
  alike = λ {begun = begun} {b = b} {u = u} e R T. answered_alike (all_answered R) (subst (λ (i : List ℕ). Answered (lines_of i) begun b u) (sym e) (all_answered T));
}

-- ---- read by read

-- between two reads: some input was fed, and it is open still
abbrev pub Open : List ℕ → Progress → Type 0
Open begun h = (input told : List ℕ) × After begun input h told

pub open_first : (h : Progress) → h.fill ≡ 0 → Open h.area h
open_first h z = ([], [], subst (λ (k : ℕ). After h.area [] (progress h.line k h.area) []) (sym z) (after_none h.line h.area))

pub open_left : (begun : List ℕ) (h : Progress) → Open begun h → Rehearsed begun h.area
open_left begun h (input, told, A) = (input, told, inr A.answered)

module _ (begun bytes out : List ℕ) (h h' : Progress) (O : Open begun h) where
  -- a piece leaves it open
  pub open_next : (n : ℕ) → n ≢ 0 → TakesIn (Some n) bytes h h' out → Open begun h'
  open_next zero z T = absurd (z refl)
  open_next (suc k) z T = (O.0 ++ take (suc k) bytes, O.1 ++ out, T begun O.0 O.1 O.2)

  -- and whatever a read answers, what it leaves is what one input leaves
  pub read_left : (got : Option ℕ) → TakesIn got bytes h h' out → Rehearsed begun h'.area
  read_left (Some zero) T = (O.0, O.1 ++ out, inl (T begun O.0 O.1 O.2))
  read_left (Some (suc k)) T = open_left begun h' (O.0 ++ take (suc k) bytes, O.1 ++ out, T begun O.0 O.1 O.2)
  read_left None T = subst (λ (x : Progress). Rehearsed begun x.area) (sym T.0) (open_left begun h O)
