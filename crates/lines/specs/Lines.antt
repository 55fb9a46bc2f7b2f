-- How input is cut into lines, and what Rehearse promises of it: of each piece that is fed, and of a whole input. Assumes nothing.
use Rattle.std.specs.Prelude.{ℕ, zero, suc, ◌≡◌, ◌⊎◌, cond, Option, Some, None, List, [], ◌∷◌, ◌++◌, eqb, length, take}
use Rattle.model.specs.Run.{Run}
use Rattle.script.specs.Line.{meaning}
use Rattle.serve.specs.Serve.{Serves, Played}

-- ---- lines

-- a newline (10) ends a line and is no part of it: the lines that these bytes end, with `line` before them
abbrev pub ended : List ℕ → List ℕ → List (List ℕ)
ended line [] = []
ended line (b ∷ bs) = cond (eqb b 10) (line ∷ ended [] bs) (ended (line ++ (b ∷ [])) bs)

-- and the line that stays open behind them
abbrev pub rest : List ℕ → List ℕ → List ℕ
rest line [] = line
rest line (b ∷ bs) = cond (eqb b 10) (rest [] bs) (rest (line ++ (b ∷ [])) bs)

-- at the end of the input the open line is a line too, unless it is empty: the last line may lack its newline
abbrev pub last : List ℕ → List (List ℕ)
last [] = []
last (b ∷ bs) = (b ∷ bs) ∷ []

-- the lines of a whole input; one above 8,192 bytes is a line like any other, and means nothing (`meaning`)
abbrev pub lines_of : List ℕ → List (List ℕ)
lines_of input = ended [] input ++ last (rest [] input)

-- ---- what was put out

-- the bytes of each, in order
abbrev pub joined : List (List ℕ) → List ℕ
joined [] = []
joined (xs ∷ xss) = xs ++ joined xss

-- lines were served from the area begun on, and the bytes told are their answers
abbrev pub Answered : List (List ℕ) → List ℕ → List ℕ → List ℕ → Type 0
Answered lines begun area told = (outs : List (List ℕ)) × Played lines begun area outs × (told ≡ joined outs)

-- ---- what is promised

-- a line is served, and its answer put behind what is there
abbrev pub Puts : List ℕ → List ℕ → List ℕ → List ℕ → List ℕ → Type 0
Puts line old new told told' = (out : List ℕ) × Serves (meaning line) old new out × (told' ≡ told ++ out)

-- how far it has come, between two pieces: the area, and of the open line so many bytes at the front of `line`
pub record Progress : Type 0 where
  pub line : List ℕ
  pub fill : ℕ
  pub area : List ℕ

abbrev pub progress : List ℕ → ℕ → List ℕ → Progress
progress line fill area = record { line = line; fill = fill; area = area }

-- so it stands after this input: the lines that it ended are answered, and the open line is kept, as far as there is room
pub record After (begun input : List ℕ) (h : Progress) (told : List ℕ) : Type 0 where
  pub answered : Answered (ended [] input) begun h.area told
  pub kept : take h.fill h.line ≡ take (length h.line) (rest [] input)

-- a piece is fed, and `out` put out: over all that was fed before
abbrev pub Feeds : List ℕ → Progress → Progress → List ℕ → Type 0
Feeds piece h h' out = (begun input told : List ℕ) → After begun input h told → After begun (input ++ piece) h' (told ++ out)

-- the input ends, and `out` is put out: all of its lines are answered
abbrev pub Closes : Progress → Progress → List ℕ → Type 0
Closes h h' out = (begun input told : List ℕ) → After begun input h told → Answered (lines_of input) begun h'.area (told ++ out)

-- what a read answered, with the bytes that it was lent: so many of them are a piece; none is the end of the input; a read that failed
-- brings nothing and ends no line
abbrev pub TakesIn : Option ℕ → List ℕ → Progress → Progress → List ℕ → Type 0
TakesIn (Some zero) bytes h h' out = Closes h h' out
TakesIn (Some (suc k)) bytes h h' out = Feeds (take (suc k) bytes) h h' out
TakesIn None bytes h h' out = (h' ≡ h) × (out ≡ [])

-- ---- a whole input

-- an input is fed in these pieces and ends; of the area begun comes another, and these bytes are put out
pub record Rehearsal (pieces : List (List ℕ)) (begun area told : List ℕ) : Type 0 where
  pub first : Progress
  pub final : Progress
  pub closed : Progress
  pub outs : List (List ℕ)
  pub out : List ℕ
  pub begins : (first.fill ≡ 0) × (first.area ≡ begun)
  pub fed : Run Feeds pieces first final outs
  pub ends : Closes final closed out
  pub leaves : closed.area ≡ area
  pub tells : told ≡ joined outs ++ out

-- whatever the pieces: so far the lines that they ended are answered, and at the end all lines of their bytes; the bytes alone decide what is put
-- out and what is left
pub record Whole : Type 0 where
  pub so_far : {pieces outs : List (List ℕ)} {h h' : Progress} → h.fill ≡ 0 → Run Feeds pieces h h' outs → After h.area (joined pieces) h' (joined outs)
  pub answers : {pieces : List (List ℕ)} {begun area told : List ℕ} → Rehearsal pieces begun area told → Answered (lines_of (joined pieces)) begun area told
  pub alike : {ps qs : List (List ℕ)} {begun a b t u : List ℕ} → joined ps ≡ joined qs → Rehearsal ps begun a t → Rehearsal qs begun b u → (a ≡ b) × (t ≡ u)

-- the area begun has become what one input leaves, all of its lines answered or, where it broke off, those that it ended. Which input, only C's
-- read knows
abbrev pub Rehearsed : List ℕ → List ℕ → Type 0
Rehearsed begun area = (input told : List ℕ) × (Answered (lines_of input) begun area told ⊎ Answered (ended [] input) begun area told)
