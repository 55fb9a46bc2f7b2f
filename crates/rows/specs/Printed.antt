-- A row of the yard sheet, as bytes: a name, and numbers, each right-aligned in its columns. Assumes nothing.
use Rattle.std.specs.Prelude.{ℕ, zero, suc, ◌+◌, ◌/◌, ◌%◌, ◌≤◌, ◌≡◌, cond, List, [], ◌∷◌, ◌++◌, ltb, length, take, drop, replicate}
use Rattle.model.specs.Text.{bytes_of}
use Rattle.rows.specs.declared.Row.{Row}

-- so many spaces
abbrev pub spaces : ℕ → List ℕ
spaces k = replicate k 32

-- a number in decimal, right-aligned in so many columns: its last digit in the last of them, before it what is left of the number, and spaces
-- where nothing is left
unfoldable pub aligned : ℕ → ℕ → List ℕ
aligned zero m = []
aligned (suc k) m = cond (ltb m 10) (spaces k) (aligned k (m / 10)) ++ ((48 + m % 10) ∷ [])

-- each number in its columns, with a space before them, and a newline (10) behind the last
abbrev pub spread : List (ℕ × ℕ) → List ℕ
spread [] = 10 ∷ []
spread (c ∷ cs) = 32 ∷ (aligned c.0 c.1 ++ spread cs)

-- the name of a kind
abbrev pub name : ℕ → List ℕ
name zero = bytes_of "RD"
name (suc zero) = bytes_of "PK"
name (suc (suc zero)) = bytes_of "LK"
name (suc (suc (suc k))) = bytes_of "CN"

-- the numbers of a row: in columns 4 to 6, 8 to 11, 13 to 16, 18 to 21, 23 to 26 and 28
abbrev pub numbers : Row → List (ℕ × ℕ)
numbers r = (3, r.number) ∷ (4, r.count) ∷ (4, r.first) ∷ (4, r.last) ∷ (4, r.holder) ∷ (1, r.wakeup) ∷ []

-- the name in columns 1 and 2, and the numbers
unfoldable pub printed : Row → List ℕ
printed r = name r.kind ++ spread (numbers r)

-- ---- what is promised of a page

-- what a row begins with: its name, and its number behind a space
abbrev pub label : ℕ → ℕ → List ℕ
label kind m = name kind ++ (32 ∷ aligned 3 m)

-- xs have been written on the page from `at` on, where there is room for them, and every other byte is as it was
pub record Written (at : ℕ) (xs old new : List ℕ) : Type 0 where
  pub room : at + length xs ≤ length old
  pub bytes : new ≡ take at old ++ (xs ++ drop (at + length xs) old)
