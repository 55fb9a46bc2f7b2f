-- What a read into a lent buffer promises of its report and of the buffer, whatever it tells. Assumes nothing.
use Rattle.std.specs.Prelude.{ℕ, ◌≤◌, ◌<◌, ◌≡◌, List, ◌++◌, length, drop}
use Rattle.model.specs.declared.Report.{Report}

-- a refusal's code with count 0, and the buffer as it was
pub record Refused (old new : List ℕ) (r : Report) (k : ℕ) : Type 0 where
  pub code : r.code ≡ k
  pub count : r.count ≡ 0
  pub buffer : new ≡ old

-- xs at the front of the buffer, and m as the count; the rest of the buffer as it was
pub record Filled (m : ℕ) (xs old new : List ℕ) (r : Report) : Type 0 where
  pub code : r.code ≡ 0
  pub count : r.count ≡ m
  pub buffer : new ≡ xs ++ drop (length xs) old

-- xs are to be told, m of them by the count: a buffer too short is 5
pub record Reports (m : ℕ) (xs old new : List ℕ) (r : Report) : Type 0 where
  pub short : length old < length xs → Refused old new r 5
  pub whole : length xs ≤ length old → Filled m xs old new r
