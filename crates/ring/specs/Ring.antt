-- What a ring of processes is, and what joining and leaving it promise. Assumes nothing.
use Rattle.std.specs.Prelude.{◌≡◌, ◌≢◌, true, false, List, [], ◌∷◌, ℕ, zero, suc, ◌/◌, ◌%◌, ◌≤◌, leb, length, get_or}
use Rattle.model.specs.Queue.{member, count, take_while, ahead_of, remove, insert}
use Rattle.links.specs.Link.{Stands, link, next, priority, point, wedge}

-- ---- rings

-- the last of a ∷ xs
abbrev pub last_of : ℕ → List ℕ → ℕ
last_of a [] = a
last_of a (x ∷ xs) = last_of x xs

-- next by next, the first of xs comes after a, and each other of xs after the one before it
abbrev pub Linked : (ℕ → ℕ) → ℕ → List ℕ → Type 0
Linked nx a [] = Unit {0}
Linked nx a (x ∷ xs) = (nx a ≡ x) × Linked nx x xs

-- xs are the processes of the ring of tail in r, from the first to the last; tail is the last, 0 if there is none
pub record Ring (r : List ℕ) (tail : ℕ) (xs : List ℕ) : Type 0 where
  pub linked : Linked (next r) tail xs
  pub ends : last_of 0 xs ≡ tail
  pub stand : (x : ℕ) → member x xs ≡ true → Stands r x
  pub once : (x : ℕ) → count x xs ≤ 1

-- ---- places in a ring

-- the processes ahead of p once it has joined: those before the first that is lower than p
abbrev pub ahead_for : (ℕ → ℕ) → ℕ → List ℕ → List ℕ
ahead_for pr p xs = take_while (λ x. leb (pr p) (pr x)) xs

-- ---- moves

-- r' has the words of r but for the next fields of zs
pub record Kept (r r' zs : List ℕ) : Type 0 where
  pub long : length r' ≡ length r
  pub high : (i : ℕ) → get_or r' i 0 / 8192 ≡ get_or r i 0 / 8192
  pub low : (i : ℕ) → get_or r' i 0 % 8 ≡ get_or r i 0 % 8
  pub words : (i : ℕ) → i % 3 ≢ 0 → get_or r' i 0 ≡ get_or r i 0
  pub links : (q : ℕ) → 1 ≤ q → member q zs ≡ false → link r' q ≡ link r q

-- p has left xs: whoever was before it is before whoever was behind it, and t is the new tail
pub record Left (r r' : List ℕ) (tail p t : ℕ) (xs : List ℕ) : Type 0 where
  pub ring : Ring r' t (remove p xs)
  pub words : r' ≡ point r (last_of tail (ahead_of p xs)) (next r p)

-- whom p follows in the ring of tail with the processes us ahead: itself if the ring is empty
abbrev pub leader : ℕ → ℕ → List ℕ → ℕ
leader zero p us = p
leader (suc t) p us = last_of (suc t) us

-- p has joined xs behind every process of equal or higher priority, and t is the new tail
pub record Joined (r r' : List ℕ) (tail p t : ℕ) (xs : List ℕ) : Type 0 where
  pub ring : Ring r' t (insert (priority r) p xs)
  pub words : r' ≡ wedge r (leader tail p (ahead_for (priority r) p xs)) p

-- what a newcomer p is told, now that its ring has xs: tail is the last of them and, unless that is p, ahead are ahead of p
pub record Arrived (p : ℕ) (xs : List ℕ) (tail ahead : ℕ) : Type 0 where
  pub ends : last_of 0 xs ≡ tail
  pub counts : tail ≢ p → ahead ≡ length (ahead_of p xs)
