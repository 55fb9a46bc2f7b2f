-- When an area is sound: 01's sentence, clause by clause. The clauses that speak of words and bits stand here; those that speak of queues
-- and fields are the validity of the state that the words say. Assumes nothing.
use Rattle.std.specs.Prelude.{ℕ, ◌≤◌, ◌≡◌, true, List, length, get_or}
use Rattle.model.specs.declared.Shape.{Shape}
use Rattle.model.specs.Queue.{Queue, bit}
use Rattle.model.specs.Machine as machine
use Rattle.model.specs.Machine.{State, model}
use Rattle.model.specs.Valid.{Valid}
use Rattle.area.specs.Layout.{Slot, word, at, has, size}
use Rattle.area.specs.Layout.Part.{tail, next, locked, waiting}
use Rattle.area.specs.State.{last}
use Rattle.area.specs.Reading.{shape_of, parts_of, state_of}

-- the words ws of an area with these counts say this state soundly
pub record Says (n : Shape) (s : State model) (ws : List ℕ) : Type 0 where
  -- it is long enough
  pub long : size n ≤ length ws
  -- every field is in range: a tail and a next are a process or 0; the counts and the fields that the state keeps are so by its validity
  pub tails : (q : Queue) → parts_of n ws (tail q) ≤ n.processes
  pub nexts : (p : ℕ) → parts_of n ws (next p) ≤ n.processes
  -- every unnamed bit is zero: each word is made of its parts, by the layout, and of nothing else
  pub tidy : (a : Slot) → has n a ≡ true → get_or ws (at n a) 0 ≡ word n (parts_of n ws) a
  -- a queue is a ring: from its first, next by next, it comes to its tail
  pub closed : (q : Queue) → last (s.queues q) ≡ parts_of n ws (tail q)
  -- waiting is set exactly in condition rings
  pub waits : (p : ℕ) → parts_of n ws (waiting p) ≡ bit (machine.waiting n s.queues p)
  -- locked is set exactly when the holder is not 0
  pub locks : (l : ℕ) → parts_of n ws (locked l) ≡ bit (machine.locked s.fields l)
  -- the clauses that speak of queues and fields
  pub valid : Valid n s

-- an area is sound: it says its own state
abbrev pub Sound : List ℕ → Type 0
Sound ws = Says (shape_of ws) (state_of ws) ws
