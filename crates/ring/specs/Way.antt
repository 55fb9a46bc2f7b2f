-- The way of a walker along a ring: what it has passed, and what is to come. Assumes nothing.
use Rattle.std.specs.Prelude.{◌≡◌, cond, List, [], ◌∷◌, ◌++◌, ℕ, zero, suc, eqb}
use Rattle.links.specs.Link.{next}
use Rattle.ring.specs.Ring.{last_of, Ring}
use Rattle.ring.specs.declared.walker.Walker.{Walker}

-- from p on, next by next, those before tail, at most so many
abbrev pub run : (ℕ → ℕ) → ℕ → ℕ → ℕ → List ℕ
run nx tail zero p = []
run nx tail (suc most) p = cond (eqb p tail) [] (p ∷ run nx tail most (nx p))

-- from p on, next by next, those before tail: no ring has more than 1,023 before its tail
unfoldable pub way : List ℕ → ℕ → ℕ → List ℕ
way r tail p = run (next r) tail 1023 p

-- those before the tail whom a walker has not passed
abbrev pub to_come : Walker → List ℕ
to_come w = way w.records.now w.tail (next w.records.now w.at)

-- a walker goes along a ring: us are passed, it stands at the last of them, at the tail before any is, and y and ys are to come
pub record Walks (w : Walker) : Type 0 where
  pub us : List ℕ
  pub y : ℕ
  pub ys : List ℕ
  pub ring : Ring w.records.now w.tail (us ++ y ∷ ys)
  pub here : last_of w.tail us ≡ w.at

-- us are those of xs that a walker has passed: those to come and the tail are the others
pub record Passed (w : Walker) (tail : ℕ) (us xs : List ℕ) : Type 0 where
  pub whole : xs ≡ us ++ to_come w ++ tail ∷ []
