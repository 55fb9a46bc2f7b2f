-- The words of a line between its spaces, and the numbers that they are: a line is a list of bytes, without its newline. Assumes nothing.
use Rattle.std.specs.Prelude.{ℕ, ◌+◌, ◌-◌, ◌*◌, Bool, true, false, ◌&&◌, cond, List, [], ◌∷◌, eqb, leb}

-- ---- words

-- b at the front of the first of these words
abbrev pub join : ℕ → List (List ℕ) → List (List ℕ)
join b [] = (b ∷ []) ∷ []
join b (w ∷ ws) = (b ∷ w) ∷ ws

-- the words between spaces (byte 32); two spaces side by side, or one at an end, have an empty word
abbrev pub fields : List ℕ → List (List ℕ)
fields [] = [] ∷ []
fields (b ∷ bs) = cond (eqb b 32) ([] ∷ fields bs) (join b (fields bs))

-- the same bytes
abbrev pub same : List ℕ → List ℕ → Bool
same [] [] = true
same [] (y ∷ ys) = false
same (x ∷ xs) [] = false
same (x ∷ xs) (y ∷ ys) = eqb x y && same xs ys

-- ---- numbers

-- the bytes 0 to 9
abbrev pub digit : ℕ → Bool
digit b = leb 48 b && leb b 57

-- n with these digits behind it; 65,536, which is above each limit, where one is no digit
abbrev pub value_from : ℕ → List ℕ → ℕ
value_from n [] = n
value_from n (b ∷ bs) = cond (digit b) (value_from (n * 10 + (b - 48)) bs) 65536

-- the value of a row of digits; 65,536 where it is empty or not all digits
abbrev pub number : List ℕ → ℕ
number [] = 65536
number (b ∷ bs) = value_from 0 (b ∷ bs)

-- each is at most the limit
abbrev pub within : ℕ → List ℕ → Bool
within limit [] = true
within limit (n ∷ ns) = leb n limit && within limit ns
