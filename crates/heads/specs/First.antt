-- What the checks of the first words decide: the counts, and running. Assumes nothing.
use Rattle.std.specs.Prelude.{ℕ, ◌*◌, ◌/◌, ◌%◌, ◌≤◌, ◌≡◌, Bool, true, false, List, length, get_or}
use Rattle.links.specs.Link.{Stands, link, next}
use Rattle.area.specs.Layout.{size}
use Rattle.area.specs.Reading.{shape_of}

-- an answer decides a statement
abbrev pub Decides : Bool → Type 0 → Type 0
Decides true A = A
Decides false A = A → ⊥

-- long enough, and the counts in range
pub record Counted (ws : List ℕ) : Type 0 where
  pub header : 6 ≤ length ws
  pub some_process : 1 ≤ get_or ws 0 0
  pub processes : get_or ws 0 0 ≤ 1023
  pub unnamed : get_or ws 2 0 % 4096 ≡ 0
  pub parks : get_or ws 2 0 / 4096 ≤ 8
  pub long : size (shape_of ws) ≤ length ws

-- the tail of ready, if it has one, and who comes after it have records
abbrev pub Led : List ℕ → List ℕ → Type 0
Led ws rs = (get_or ws 5 0 / 8 ≡ 0 → ⊥) → Stands rs (get_or ws 5 0 / 8) × Stands rs (next rs (get_or ws 5 0 / 8))

-- where t is the tail of ready: running is who comes after it and is not failed
pub record Follows (ws rs : List ℕ) (t : ℕ) : Type 0 where
  pub first : get_or ws 4 0 ≡ next rs t * 8
  pub clear : link rs (next rs t) / 4 % 2 ≡ 0

-- running is the first of ready, 0 if ready is empty, and is not failed: by the words ws and the records rs
pub record Runs (ws rs : List ℕ) : Type 0 where
  pub nobody : get_or ws 5 0 / 8 ≡ 0 → get_or ws 4 0 ≡ 0
  pub somebody : (get_or ws 5 0 / 8 ≡ 0 → ⊥) → Follows ws rs (get_or ws 5 0 / 8)
