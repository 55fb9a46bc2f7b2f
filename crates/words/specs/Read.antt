-- What the functions that read words and numbers promise. Assumes nothing.
use Rattle.std.specs.Prelude.{ℕ, ◌≤◌, ◌≡◌, Bool, true, false, cond, List, [], ◌∷◌, Option, Some, None, map, eqb, length, take}
use Rattle.words.specs.Words.{fields, number, within}

-- the bytes before the first space
abbrev pub word : List ℕ → List ℕ
word [] = []
word (b ∷ bs) = cond (eqb b 32) [] (b ∷ word bs)

-- the numbers of the words that follow the end of a word
abbrev pub after : List ℕ → List ℕ
after [] = []
after (b ∷ bs) = map number (fields bs)

-- these numbers, so many, stand at the front of the table; or one of them is above 65,535
abbrev pub Reads : Option ℕ → List ℕ → List ℕ → Type 0
Reads (Some n) table ns = (n ≤ 8192) × ((take n table ≡ ns) × (within 65535 ns ≡ true))
Reads None table ns = within 65535 ns ≡ false

-- each of these numbers is a byte, and they stand at the front of the buffer; or one of them is above 255
abbrev pub Bytes : Bool → List ℕ → List ℕ → Type 0
Bytes true ns bytes = (within 255 ns ≡ true) × (take (length ns) bytes ≡ ns)
Bytes false ns bytes = within 255 ns ≡ false
