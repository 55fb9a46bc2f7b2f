-- What a desk keeps of what was lent to it. Assumes nothing.
use Rattle.std.specs.Prelude.{ℕ, ◌≡◌, List, length}
use Rattle.std.specs.Borrow.{MutBor}
use Rattle.serve.specs.declared.Desk.{Desk}

-- the same slice is lent, as long as before
abbrev pub SameSlice : MutBor (List ℕ) → MutBor (List ℕ) → Type 0
SameSlice r s = (s.ghost_name ≡ r.ghost_name) × (length s.now ≡ length r.now)

-- so it is with each slice of a desk
abbrev pub SameDesk : Desk → Desk → Type 0
SameDesk d e = SameSlice d.area e.area × SameSlice d.table e.table × SameSlice d.bytes e.bytes
