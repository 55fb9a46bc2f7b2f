-- The walk of a ring as a function on the records, with the tests that the code has. What it hands on are the processes met, the
-- last one first; None where a test fails. The kind of the ring's queue is a number: 0 ready and the parks, 1 the locks, 2 the conditions. Assumes nothing.
use Rattle.std.specs.Prelude.{ℕ, zero, suc, ◌+◌, ◌-◌, ◌/◌, ◌%◌, ◌≤◌, ◌≡◌, Bool, not, ◌&&◌, ◌||◌, cond, List, ◌∷◌, Option, None, Some, eqb, leb, length, get_or}
use Rattle.model.specs.Queue.{inside, member}
use Rattle.links.specs.Link.{slot, link, next, priority}
use Rattle.members.specs.Marks.{Table}

-- p is a process, and not the holder o
unfoldable pub is_eligible : ℕ → ℕ → ℕ → Bool
is_eligible P o p = inside P p && not (eqb p o)

-- p is eligible, and not yet met
unfoldable pub is_fresh : ℕ → ℕ → ℕ → List ℕ → Bool
is_fresh P o p js = is_eligible P o p && not (member p js)

-- the flags f, whatever abort, their lowest bit, and the timer t of a process in a condition: waiting and armed, or waiting alone and no timer
unfoldable pub is_asleep : ℕ → ℕ → Bool
is_asleep f t = eqb (f / 2) 3 || (eqb (f / 2) 1 && eqb t 0)

-- of a process in any other queue: neither, and no timer
unfoldable pub is_idle : ℕ → ℕ → Bool
is_idle f t = eqb (f / 2) 0 && eqb t 0

-- the low bits of a link w in a queue of kind k other than a condition's: failed in a lock's, and elsewhere either
unfoldable pub is_tidy : ℕ → ℕ → Bool
is_tidy k w = cond (eqb k 1) (eqb (w % 8) 4) (eqb (w % 4) 0)

-- a record fits a queue of kind k: its link w, its flags f, its timer t
unfoldable pub fitting : ℕ → ℕ → ℕ → ℕ → Bool
fitting k w f t = cond (eqb k 2) (is_asleep f t && eqb (w % 8) 0) (is_tidy k w && is_idle f t)

-- p's record fits, behind a process of priority b
abbrev pub fits_in : List ℕ → ℕ → ℕ → ℕ → Bool
fits_in rs k b p = fitting k (link rs p) (get_or rs (slot p + 1) 0) (get_or rs (slot p + 2) 0) && leb (link rs p / 8192) b

-- from p on to the tail t, at most n processes, behind a priority b
unfoldable pub walked : List ℕ → ℕ → ℕ → ℕ → ℕ → ℕ → ℕ → ℕ → List ℕ → Option (List ℕ)
walked rs P k o t zero p b js = None
walked rs P k o t (suc n) p b js =
    cond (is_fresh P o p js && fits_in rs k b p)
    (cond (eqb p t) (Some (p ∷ js)) (walked rs P k o t n (next rs p) (priority rs p) (p ∷ js))) None

-- a whole ring, by its tail
unfoldable pub ringed : List ℕ → ℕ → ℕ → ℕ → ℕ → List ℕ → Option (List ℕ)
ringed rs P k o t js = cond (eqb t 0) (Some js) (walked rs P k o t (P - length js) (next rs t) 7 js)

-- ---- answers

-- of P processes those in js are met, m in number, and the table ms tells which
pub record Met (P : ℕ) (ms js : List ℕ) (m : ℕ) : Type 0 where
  pub table : Table ms js
  pub counts : m ≡ length js
  pub few : m ≤ P

-- the answer of a check, and the table that it leaves: the number of processes met, if no test fails
abbrev pub Told : ℕ → Option ℕ → List ℕ → Option (List ℕ) → Type 0
Told P r ms None = r ≡ None
Told P r ms (Some js) = (m : ℕ) × (r ≡ Some m) × Met P ms js m
