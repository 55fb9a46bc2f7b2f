-- Texts as bytes: so the lines of Rehearse, which are lists of bytes, are written as 01 has them. Assumes nothing.
use Rattle.std.specs.Prelude.{ℕ, List, [] as []ᴸ, ◌∷◌ as ◌∷ᴸ◌}
use Prim.Native.Char.{code}
use Prim.Native.String.{String, [], ◌∷◌}

-- the bytes of a text of ASCII characters, a byte for each
abbrev pub bytes_of : String → List ℕ
bytes_of [] = []ᴸ
bytes_of (c ∷ s) = code c ∷ᴸ bytes_of s
