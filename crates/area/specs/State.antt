-- The words of a state: the tails and nexts that make rings of its queues, and the bits that it says by them. Assumes nothing.
use Rattle.std.specs.Prelude.{ℕ, cond, List, [], ◌∷◌, ◌++◌, map, eqb, drop}
use Rattle.model.specs.declared.Shape.{Shape}
use Rattle.model.specs.Queue.{Queue, bit, member, first}
use Rattle.model.specs.Queue.Queue.{ready, park, lock, condition}
use Rattle.model.specs.Machine as machine
use Rattle.model.specs.Machine.{State, model}
use Rattle.ring.specs.Ring.{last_of}
use Rattle.area.specs.Layout.{Parts, for_each, slots, word, size}
use Rattle.area.specs.Layout.Part.{kept, tail, next, locked, waiting}

-- the tail of a queue, 0 if it is empty
abbrev pub last : List ℕ → ℕ
last xs = last_of 0 xs

-- the first of a list, x if it is empty
abbrev pub first_or : ℕ → List ℕ → ℕ
first_or x [] = x
first_or x (y ∷ ys) = y

-- who comes after p in xs, where h comes after the last; 0 if p is not in xs
abbrev pub after_in : ℕ → List ℕ → ℕ → ℕ
after_in h [] p = 0
after_in h (x ∷ xs) p = cond (eqb x p) (first_or h xs) (after_in h xs p)

-- the queues that the counts give
abbrev pub queues : Shape → List Queue
queues n =
    ready ∷ (for_each n.parks (λ k. park k ∷ []) ++ (for_each n.locks (λ l. lock l ∷ []) ++ for_each n.conditions (λ c. condition c ∷ [])))

-- who comes after p in its queue, the first after the last
abbrev pub next_in : (Queue → List ℕ) → List Queue → ℕ → ℕ
next_in qs [] p = 0
next_in qs (q ∷ rest) p = cond (member p (qs q)) (after_in (first (qs q)) (qs q) p) (next_in qs rest p)

-- the parts of a state
abbrev pub laid : Shape → State model → Parts
laid n s (kept f) = s.fields f
laid n s (tail q) = last (s.queues q)
laid n s (next p) = next_in s.queues (queues n) p
laid n s (locked l) = bit (machine.locked s.fields l)
laid n s (waiting p) = bit (machine.waiting n s.queues p)

-- the area that holds a state, with what lies beyond its words as it is in ws
unfoldable pub write : Shape → State model → List ℕ → List ℕ
write n s ws = map (word n (laid n s)) (slots n) ++ drop (size n) ws
