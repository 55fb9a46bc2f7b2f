-- Inputs and the lines into which they are cut, computed. Assumes nothing.
use Prim.Native.String.{String}
use Rattle.std.specs.Prelude.{◌≡◌, refl, List, [], ◌∷◌, map}
use Rattle.model.specs.Text.{bytes_of}
use Rattle.lines.specs.Lines.{ended, rest, lines_of}

-- inputs and their lines
abbrev rows : List (String × List String)
rows =
    ("", [])
    ∷ ("tick\n", "tick" ∷ [])
    ∷ ("tick", "tick" ∷ [])
    ∷ ("tick\nenter 1\n", "tick" ∷ "enter 1" ∷ [])
    ∷ ("tick\nenter 1", "tick" ∷ "enter 1" ∷ [])
    ∷ ("\n", "" ∷ [])
    ∷ ("\n\ntick\n\n", "" ∷ "" ∷ "tick" ∷ "" ∷ [])
    ∷ ("\ntick ", "" ∷ "tick " ∷ [])
    ∷ []

pub cut : map (λ (r : String × List String). lines_of (bytes_of r.0)) rows ≡ map (λ (r : String × List String). map bytes_of r.1) rows
cut = refl

-- "enter 12" over three pieces is one line, and the pieces' ends end none
pub pieces : (ended (bytes_of "en") (bytes_of "ter 1") ≡ []) × (rest (bytes_of "en") (bytes_of "ter 1") ≡ bytes_of "enter 1") × (ended (bytes_of "enter 1") (bytes_of "2\nti") ≡ bytes_of "enter 12" ∷ []) × (rest (bytes_of "enter 1") (bytes_of "2\nti") ≡ bytes_of "ti")
pieces = (refl, refl, refl, refl)
