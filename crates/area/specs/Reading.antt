-- What words say, whatever they are: the counts, and the state that they would hold. Assumes nothing.
use Rattle.std.specs.Prelude.{ℕ, zero, suc, ◌/◌, ◌%◌, ◌≤◌, ◌≡◌, cond, List, [], ◌∷◌, eqb, length, get_or, take}
use Rattle.model.specs.declared.Shape.{Shape}
use Rattle.model.specs.Queue.{Queue}
use Rattle.model.specs.Machine.{State, model}
use Rattle.area.specs.Layout.{Parts, at, has, home, span, unit, size}
use Rattle.area.specs.Layout.Part.{kept, tail, next}

-- the counts
abbrev pub shape_of : List ℕ → Shape
shape_of ws = record { processes = get_or ws 0 0; locks = get_or ws 1 0 / 256; conditions = get_or ws 1 0 % 256; parks = get_or ws 2 0 / 4096 }

-- a part, from its bits; 0 for one that the counts do not give
abbrev pub parts_of : Shape → List ℕ → Parts
parts_of n ws f = cond (has n (home f)) (get_or ws (at n (home f)) 0 / unit f % span f) 0

-- from p on, next by next, to t; at most k of them
abbrev pub read_from : (ℕ → ℕ) → ℕ → ℕ → ℕ → List ℕ
read_from nx t zero p = []
read_from nx t (suc k) p = p ∷ cond (eqb p t) [] (read_from nx t k (nx p))

-- a queue reads from its first, which is the tail's next, to its tail; it is empty where the tail is 0
abbrev pub queue_of : Shape → Parts → Queue → List ℕ
queue_of n t q = cond (eqb (t (tail q)) 0) [] (read_from (λ p. t (next p)) (t (tail q)) n.processes (t (next (t (tail q)))))

-- the state that an area holds
abbrev pub state_of : List ℕ → State model
state_of ws =
    let t = parts_of (shape_of ws) ws in
    record { fields = λ f. t (kept f); queues = queue_of (shape_of ws) t }

-- two areas agree: both are long enough for the counts that the first says, and their words below that size are the same
pub record Agree (a b : List ℕ) : Type 0 where
  pub long : size (shape_of a) ≤ length a
  pub long_too : size (shape_of a) ≤ length b
  pub same : take (size (shape_of a)) a ≡ take (size (shape_of a)) b
