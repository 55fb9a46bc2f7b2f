-- The process records: three words for each process, its link, its flags and its timer. Assumes nothing.
use Rattle.std.specs.Prelude.{ℕ, ◌+◌, ◌-◌, ◌*◌, ◌/◌, ◌%◌, ◌≤◌, ◌<◌, Bool, ◌&&◌, List, eqb, length, get_or, set}

-- p is a process whose three words r has
pub record Stands (r : List ℕ) (p : ℕ) : Type 0 where
  pub low : 1 ≤ p
  pub high : p < 1024
  pub within : p * 3 ≤ length r

-- where p's link stands
abbrev pub slot : ℕ → ℕ
slot p = (p - 1) * 3

-- p's link: priority in bits 0 to 2, next in bits 3 to 12, failed in bit 13
abbrev pub link : List ℕ → ℕ → ℕ
link r p = get_or r (slot p) 0

-- the process behind p in its ring
unfoldable pub next : List ℕ → ℕ → ℕ
next r p = link r p / 8 % 1024

-- p's priority
unfoldable pub priority : List ℕ → ℕ → ℕ
priority r p = link r p / 8192

-- p is armed, which is bit 13 of its flags, and its timer is at this time
unfoldable pub rings : List ℕ → ℕ → ℕ → Bool
rings r time p = eqb (get_or r (slot p + 1) 0 / 4 % 2) 1 && eqb (get_or r (slot p + 2) 0) time

-- a link with another next, and every other bit as it was
abbrev pub relink : ℕ → ℕ → ℕ
relink w n = w / 8192 * 8192 + n * 8 + w % 8

-- r, but that n is behind p
unfoldable pub point : List ℕ → ℕ → ℕ → List ℕ
point r p n = set r (slot p) (relink (link r p) n)

-- r, but that p is behind q, and before whoever was behind q
abbrev pub wedge : List ℕ → ℕ → ℕ → List ℕ
wedge r q p = point (point r p (next r q)) q p
