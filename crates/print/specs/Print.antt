-- The line of an answer, as bytes with its newline. Assumes nothing.
use Rattle.std.specs.Prelude.{ℕ, zero, suc, ◌+◌, ◌/◌, ◌%◌, ◌≤◌, ◌≡◌, cond, List, [], ◌∷◌, ◌++◌, ltb, take}
use Rattle.model.specs.declared.Answer.{Answer}

-- the last k digits of n, as bytes, the highest first
abbrev pub digits : ℕ → ℕ → List ℕ
digits zero n = []
digits (suc k) n = digits k (n / 10) ++ ((48 + n % 10) ∷ [])

-- how many digits a number of at most 65,535 has
abbrev pub width : ℕ → ℕ
width n = cond (ltb n 10) 1 (cond (ltb n 100) 2 (cond (ltb n 1000) 3 (cond (ltb n 10000) 4 5)))

-- a number of at most 65,535 in decimal, without leading zeros
abbrev pub decimal : ℕ → List ℕ
decimal n = digits (width n) n

-- a number and the byte after it
abbrev pub field : ℕ → ℕ → List ℕ
field n b = decimal n ++ (b ∷ [])

-- the six fields in their order, a space (32) between and a newline (10) after
abbrev pub printed : Answer → List ℕ
printed a = field a.code 32 ++ (field a.running 32 ++ (field a.retry 32 ++ (field a.mark 32 ++ (field a.moved 32 ++ field a.ahead 10))))

-- how many bytes the longest has: five digits and one byte more, six times
abbrev pub longest : ℕ
longest = 36

-- a row was put at a place of the buffer, behind what stood before it; next is the place after the row, at most six on
pub record Put (old : List ℕ) (at : ℕ) (row new : List ℕ) (next : ℕ) : Type 0 where
  pub bytes : take next new ≡ take at old ++ row
  pub near : next ≤ at + 6
