-- The arrival ledger (01's term): a machine that keeps no queues, only notes of who went where, oldest first. Assumes nothing.
use Rattle.std.specs.Prelude.{ℕ, zero, suc, Bool, false, ◌&&◌, ◌||◌, cond, List, [], ◌∷◌, ◌++◌, eqb}
use Rattle.model.specs.Queue.{Queue, Note, same}
use Rattle.model.specs.Machine.{Machine}

-- whether a note is about p
abbrev pub noted : ℕ → List Note → Bool
noted p [] = false
noted p (m ∷ ms) = eqb m.0 p || noted p ms

-- each process's newest note, older first
abbrev pub newest : List Note → List Note
newest [] = []
newest (m ∷ ms) = cond (noted m.0 ms) (newest ms) (m ∷ newest ms)

-- the processes that notes send to q
abbrev pub sent_to : Queue → List Note → List ℕ
sent_to q [] = []
sent_to q (m ∷ ms) = cond (same m.1 q) (m.0 ∷ sent_to q ms) (sent_to q ms)

-- a process lies where its newest note says: those that lie in q, older note first
abbrev pub lying : Queue → List Note → List ℕ
lying q ms = sent_to q (newest ms)

-- those of priority v
abbrev pub of_priority : (ℕ → ℕ) → ℕ → List ℕ → List ℕ
of_priority pr v [] = []
of_priority pr v (x ∷ xs) = cond (eqb (pr x) v) (x ∷ of_priority pr v xs) (of_priority pr v xs)

-- those of priority v, then those of v - 1, down to those of 0, each time in the list's order
abbrev pub by_priority : (ℕ → ℕ) → ℕ → List ℕ → List ℕ
by_priority pr zero xs = of_priority pr zero xs
by_priority pr (suc v) xs = of_priority pr (suc v) xs ++ by_priority pr v xs

-- a queue reads: those that lie there, by falling priority, then by newest note, older first
unfoldable pub reading : (ℕ → ℕ) → List Note → Queue → List ℕ
reading pr ms q = by_priority pr 7 (lying q ms)

-- a move adds one note
abbrev pub ledger : Machine
ledger = record { Queues = List Note; none = []; read = reading; moved = λ pr ms m. ms ++ (m ∷ []) }

-- whether p lies in q: its newest note says so
abbrev pub lies : List Note → ℕ → Queue → Bool
lies [] p q = false
lies (m ∷ ms) p q = cond (noted p ms) (lies ms p q) (eqb m.0 p && same m.1 q)
