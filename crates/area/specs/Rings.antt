-- In the midst of a move: words whose rings are these queues, whether or not each process stands in one. Assumes nothing.
use Rattle.std.specs.Prelude.{ℕ, ◌≡◌, Bool, true, false, cond, List, drop}
use Rattle.model.specs.declared.Shape.{Shape}
use Rattle.model.specs.Queue.{Queue, inside, exists, same, member, Falling}
use Rattle.model.specs.Field.Field.{priority}
use Rattle.ring.specs.Ring.{Ring}
use Rattle.area.specs.Layout.{Part, Parts, records_at, at, Image, Stored}
use Rattle.area.specs.Layout.Part.{kept, tail, next, locked, waiting}
use Rattle.area.specs.Layout.Slot.{Tail}
use Rattle.area.specs.State.{last}

-- the records of an area
abbrev pub records : Shape → List ℕ → List ℕ
records n ws = drop (records_at n) ws

-- an area with these parts, whose rings are these queues; each of their members is a process, and no two of them share one
pub record Rings (n : Shape) (ws : List ℕ) (t : Parts) (qs : Queue → List ℕ) : Type 0 where
  pub image : Image n ws t
  pub tails : (q : Queue) → exists n q ≡ true → t (tail q) ≡ last (qs q)
  pub rings : (q : Queue) → exists n q ≡ true → Ring (records n ws) (last (qs q)) (qs q)
  pub own : (q : Queue) (x : ℕ) → member x (qs q) ≡ true → inside n.processes x ≡ true
  pub one : (q r : Queue) (x : ℕ) → member x (qs q) ≡ true → member x (qs r) ≡ true → q ≡ r

-- a tail or a next, by which the rings go
abbrev pub is_ring : Part → Bool
is_ring (kept f) = false
is_ring (tail q) = true
is_ring (next p) = true
is_ring (locked l) = false
is_ring (waiting p) = false

-- the queues with xs for that of q
abbrev pub swap : (Queue → List ℕ) → Queue → List ℕ → Queue → List ℕ
swap qs q xs r = cond (same q r) xs (qs r)

-- each process's priority
abbrev pub ranks : Parts → ℕ → ℕ
ranks t x = t (kept (priority x))

-- from old to new the ring of q has become xs, and nothing but tails and nexts has changed
pub record Relinked (n : Shape) (old new : List ℕ) (t : Parts) (qs : Queue → List ℕ) (q : Queue) (xs : List ℕ) : Type 0 where
  pub parts : Parts
  pub stored : Stored n old new parts
  pub others : (f : Part) → is_ring f ≡ false → parts f ≡ t f
  pub rings : Rings n new parts (swap qs q xs)

-- p is to leave the ring whose tail stands at i, where it stands or not
pub record Leaves (n : Shape) (ws : List ℕ) (i p : ℕ) : Type 0 where
  pub parts : Parts
  pub queues : Queue → List ℕ
  pub queue : Queue
  pub rings : Rings n ws parts queues
  pub given : exists n queue ≡ true
  pub here : i ≡ at n (Tail queue)
  pub stood : Bool
  pub stands : member p (queues queue) ≡ stood

-- p stands in no ring, and is to join the one whose tail stands at i
pub record Joins (n : Shape) (ws : List ℕ) (i p : ℕ) : Type 0 where
  pub parts : Parts
  pub queues : Queue → List ℕ
  pub queue : Queue
  pub rings : Rings n ws parts queues
  pub given : exists n queue ≡ true
  pub here : i ≡ at n (Tail queue)
  pub process : inside n.processes p ≡ true
  pub out : (q : Queue) → member p (queues q) ≡ false
  pub falls : Falling (ranks parts) (queues queue)
