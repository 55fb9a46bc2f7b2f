-- What the two reads of timers promise on an area that holds a valid state: who is due, in a lent buffer, and who is the nearest. Assumes nothing.
use Rattle.std.specs.Prelude.{ℕ, ◌≡◌, cond, eqb, Bool, true, Option, Some, None, List, [], ◌∷◌, ltb, length}
use Rattle.model.specs.declared.Shape.{Shape}
use Rattle.model.specs.declared.Report.{Report}
use Rattle.model.specs.Queue.{inside, up_to, filter}
use Rattle.model.specs.Field.Field.{clock}
use Rattle.model.specs.Machine.{State, model}
use Rattle.model.specs.Valid.{Valid}
use Rattle.model.specs.Timers.{Entry, left, due_within, nearest}
use Rattle.model.specs.Reports.{Reports}
use Rattle.area.specs.Holds.{Holds}
use Rattle.order.specs.Order.{Timers}
use Rattle.timers.specs.declared.Earliest.{Earliest}

-- the words are an area that holds this valid state, and the clock is the one that it has
pub record Shows (t : Timers) (s : State model) : Type 0 where
  pub holds : Holds t.shape t.words s
  pub valid : Valid t.shape s
  pub now : t.clock ≡ s.fields clock

-- a number, where it is not 0
abbrev pub nonzero : ℕ → Option ℕ
nonzero d = cond (eqb d 0) None (Some d)

-- two words each, process and ticks left
abbrev pub in_words : List Entry → List ℕ
in_words [] = []
in_words (e ∷ es) = e.0 ∷ e.1 ∷ in_words es

-- those due within k ticks, in process order
unfoldable pub due_ones : ℕ → Shape → State model → List ℕ
due_ones k n s = filter (λ p. inside k (left n s p)) (up_to n.processes)

-- whether so many ticks left are fewer than those of the nearest so far, if there is one
abbrev pub fewer : ℕ → Option ℕ → Bool
fewer d None = true
fewer d (Some l) = ltb d l

-- who is due within k ticks, of a state, into a buffer: fewer than two words for each process told is 5; the count is of processes
abbrev pub Tells : ℕ → Shape → State model → List ℕ → List ℕ → Report → Type 0
Tells k n s old new r = Reports (length (due_within n s k)) (in_words (due_within n s k)) old new r

-- the nearest of a state, with its ticks left
abbrev pub nearest_in : Shape → State model → Earliest
nearest_in n s = record { code = 0; process = (nearest n s).0; left = (nearest n s).1 }
