-- The yard sheet, as bytes: a page with a row for each queue. Assumes nothing.
use Rattle.std.specs.Prelude.{ℕ, zero, suc, ◌+◌, ◌*◌, ◌≡◌, List, ◌++◌, length}
use Rattle.model.specs.declared.Shape.{Shape}
use Rattle.model.specs.declared.Report.{Report}
use Rattle.model.specs.Queue.{Queue, kind_of, number_of, first}
use Rattle.model.specs.Queue.Queue.{ready, park, lock, condition}
use Rattle.model.specs.Field.Field.{holder, wakeup}
use Rattle.model.specs.Machine.{State, model}
use Rattle.model.specs.Reports.{Reports}
use Rattle.area.specs.Layout.{for_each}
use Rattle.area.specs.State.{last}
use Rattle.area.specs.Holds.{Holds}
use Rattle.rows.specs.declared.Row.{Row}
use Rattle.rows.specs.Printed.{printed, Written}

-- the words of an area, and the counts by which it is laid out
pub record Area : Type 0 where
  pub words : List ℕ
  pub shape : Shape

-- it holds the state
abbrev pub Shows : Area → State model → Type 0
Shows a s = Holds a.shape a.words s

-- ---- what a row says

-- a lock's holder; no other queue has one
abbrev pub holder_of : State model → Queue → ℕ
holder_of s (lock l) = s.fields (holder l)
holder_of s ready = 0
holder_of s (park k) = 0
holder_of s (condition c) = 0

-- a condition's wakeup; no other queue has one
abbrev pub wakeup_of : State model → Queue → ℕ
wakeup_of s (condition c) = s.fields (wakeup c)
wakeup_of s ready = 0
wakeup_of s (park k) = 0
wakeup_of s (lock l) = 0

-- what the row of a queue says
abbrev pub row_of : State model → Queue → Row
row_of s q = record { kind = kind_of q; number = number_of q; count = length (s.queues q); first = first (s.queues q); last = last (s.queues q); holder = holder_of s q; wakeup = wakeup_of s q }

-- ---- the page

-- the row of a queue
abbrev pub row : State model → Queue → List ℕ
row s q = printed (row_of s q)

-- the rows of the queues of a kind, m of them, in number order
abbrev pub rows : State model → (ℕ → Queue) → ℕ → List ℕ
rows s queue m = for_each m (λ i. row s (queue i))

-- how many queues of a kind are numbered from 1 on; ready is not
abbrev pub count_of : Shape → ℕ → ℕ
count_of n zero = 0
count_of n (suc zero) = n.parks
count_of n (suc (suc zero)) = n.locks
count_of n (suc (suc (suc zero))) = n.conditions
count_of n (suc (suc (suc (suc k)))) = 0

-- ready, parks, locks, conditions
unfoldable pub page : Shape → State model → List ℕ
page n s = row s ready ++ (rows s park n.parks ++ (rows s lock n.locks ++ rows s condition n.conditions))

-- ---- what is promised of a page

-- the sheet of a state on a page: too short a page is 5; else the bytes of the sheet, which are counted, and those past it as they were
abbrev pub Sheets : Shape → State model → List ℕ → List ℕ → Report → Type 0
Sheets n s old new r = Reports (length (page n s)) (page n s) old new r

-- m rows of a kind have been written from `at` on, and the next row goes to r
pub record Rows (a : Area) (queue : ℕ → Queue) (m at : ℕ) (old new : List ℕ) (r : ℕ) : Type 0 where
  pub next : r ≡ at + 29 * m
  pub written : (s : State model) → Shows a s → Written at (rows s queue m) old new
