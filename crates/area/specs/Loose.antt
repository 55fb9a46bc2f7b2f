-- In the midst of a move or of a wake: words whose rings are these queues, while somebody may stand in none of them. Assumes nothing.
use Rattle.std.specs.Prelude.{ℕ, ◌≡◌, true, List, drop}
use Rattle.model.specs.declared.Shape.{Shape}
use Rattle.model.specs.Queue.{Queue, bit, is_condition, member, Falling}
use Rattle.model.specs.Field.{Field, Fields, priorities}
use Rattle.model.specs.Machine as machine
use Rattle.area.specs.Layout.{Parts, size}
use Rattle.area.specs.Layout.Part.{kept, locked, waiting}
use Rattle.area.specs.Rings.{Rings}

-- from old to new: an area with these fields, whose rings are these queues, each falling; the members of conditions are those of them who are waiting. Whether each process stands in one is not said. Nothing beyond has changed
pub record Loose (n : Shape) (old new : List ℕ) (f : Fields) (qs : Queue → List ℕ) : Type 0 where
  pub parts : Parts
  pub rings : Rings n new parts qs
  pub fields : (x : Field) → parts (kept x) ≡ f x
  pub locks : (l : ℕ) → parts (locked l) ≡ bit (machine.locked f l)
  pub waits : (q : Queue) (x : ℕ) → member x (qs q) ≡ true → parts (waiting x) ≡ bit (is_condition q)
  pub falls : (q : Queue) → Falling (priorities f) (qs q)
  pub beyond : drop (size n) new ≡ drop (size n) old
