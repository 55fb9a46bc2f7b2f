-- The table of the processes met: process p is bit p % 64 of word p / 64. Assumes nothing.
use Rattle.std.specs.Prelude.{ℕ, ◌*◌, ◌/◌, ◌%◌, ◌^◌, ◌<◌, ◌≡◌, Bool, List, eqb, length, get_or, set}
use Rattle.std.specs.Int.Bits.{bit_or}
use Rattle.model.specs.Queue.{member}

-- whether p is met
unfoldable pub met_in : List ℕ → ℕ → Bool
met_in ms p = eqb (get_or ms (p / 64) 0 / 2 ^ (p % 64) % 2) 1

-- the table with p met besides
unfoldable pub marked : List ℕ → ℕ → List ℕ
marked ms p = set ms (p / 64) (bit_or (get_or ms (p / 64) 0) (1 * 2 ^ (p % 64) % 2 ^ 64))

-- the table says of every number that it has room for whether it is among js
pub record Table (ms js : List ℕ) : Type 0 where
  pub long : length ms ≡ 16
  pub says : (p : ℕ) → p < 1024 → met_in ms p ≡ member p js
