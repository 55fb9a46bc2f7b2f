-- What the functions of this crate promise: an area that holds a state becomes one that holds another. Assumes nothing.
use Rattle.std.specs.Prelude.{ℕ, ◌<◌, ◌≡◌, Bool, true, false, List, drop}
use Rattle.model.specs.declared.Shape.{Shape}
use Rattle.model.specs.declared.Answer.{Answer}
use Rattle.model.specs.Queue.{Queue, bit, inside, exists, member, move, is_condition}
use Rattle.model.specs.Queue.Queue.{ready}
use Rattle.model.specs.Field.{Field, put, priorities}
use Rattle.model.specs.Field.Field.{clock, running, priority, armed, timer, failed, abort, holder, wakeup, abortable}
use Rattle.model.specs.Machine.{State, model, dispatch}
use Rattle.model.specs.Valid.{room, Placed}
use Rattle.area.specs.declared.places.Place.{Place}
use Rattle.area.specs.Layout.{at, size, Lies, Image}
use Rattle.area.specs.Layout.Part.{kept}
use Rattle.area.specs.Layout.Slot.{Tail}
use Rattle.area.specs.State.{laid}

-- the words ws are an area of these counts that holds the state
pub record Holds (n : Shape) (ws : List ℕ) (s : State model) : Type 0 where
  pub placed : Placed n s
  pub image : Image n ws (laid n s)

-- the words ws are an area of these counts
abbrev pub Held : Shape → List ℕ → Type 0
Held n ws = (s : State model) × Holds n ws s

-- from one list of words to another that holds the state, with nothing changed beyond
pub record Becomes (n : Shape) (old new : List ℕ) (s : State model) : Type 0 where
  pub holds : Holds n new s
  pub beyond : drop (size n) new ≡ drop (size n) old

-- the answer and the area that a pair of state and answer asks for
pub record Gives (n : Shape) (old new : List ℕ) (a : Answer) (r : State model × Answer) : Type 0 where
  pub answer : a ≡ r.1
  pub becomes : Becomes n old new r.0

-- a try that succeeds where b: r says whether it did; A holds if it did, and no word has changed if it did not
pub record Tried (b r : Bool) (old new : List ℕ) (A : Type 0) : Type 0 where
  pub told : r ≡ b
  pub done : b ≡ true → A
  pub kept : b ≡ false → new ≡ old

-- the state with one field changed
abbrev pub with : Field → ℕ → State model → State model
with f v s = record { fields = put f v s.fields; queues = s.queues }

-- a field by which nothing else goes: a priority has the queues' order go by it, and a holder its lock's locked bit
abbrev pub plain : Field → Bool
plain clock = true
plain running = true
plain (priority p) = false
plain (armed p) = true
plain (timer p) = true
plain (failed p) = true
plain (abort p) = true
plain (holder l) = false
plain (wakeup c) = true
plain (abortable c) = true

-- a plain field lies at this place, and the value is in its range
pub record Takes (n : Shape) (f : Field) (p : Place) (v : ℕ) : Type 0 where
  pub lies : Lies n (kept f) p
  pub free : plain f ≡ true
  pub fits : v < room n f

-- the state with p moved to q, by the priorities that its fields now have
abbrev pub sent : ℕ → Queue → State model → State model
sent p q s = record { fields = s.fields; queues = move (priorities s.fields) s.queues p q }

-- the state after dispatch
abbrev pub dispatched : State model → State model
dispatched s = record { fields = dispatch (s.queues ready) s.fields; queues = s.queues }

-- p is to move from one queue of a state, where it stands or not, to another, whose tails stand at these places; waits is its waiting bit there
pub record Moves (n : Shape) (ws : List ℕ) (at_from at_to p waits : ℕ) : Type 0 where
  pub state : State model
  pub from : Queue
  pub to : Queue
  pub holds : Holds n ws state
  pub given_from : exists n from ≡ true
  pub given_to : exists n to ≡ true
  pub here_from : at_from ≡ at n (Tail from)
  pub here_to : at_to ≡ at n (Tail to)
  pub process : inside n.processes p ≡ true
  pub stood : Bool
  pub stands : member p (state.queues from) ≡ stood
  pub waits_there : waits ≡ bit (is_condition to)
