-- What several calls share: who runs stands in ready, a field takes a value, and a process on its way from one queue to another. Assumes nothing.
use Prim.Native.Nat.{ℕ, ◌≤◌, ◌<◌}
use native.Mathlib.Omega.{arith}
use mathlib.Core.Path.{◌≡◌, refl, ◌∙◌}
use mathlib.Core.Logic.{◌≢◌}
use mathlib.Core.Bool.{true}
use mathlib.Core.List.{List}
use Rattle.model.specs.declared.Shape.{Shape}
use Rattle.model.specs.Queue.{Queue, bit, inside, exists, member, is_condition}
use Rattle.model.specs.Queue.Queue.{ready}
use Rattle.model.specs.Field.{Field}
use Rattle.model.specs.Field.Field.{running}
use Rattle.model.specs.Machine.{State, model}
use Rattle.model.specs.Valid.{room, Valid}
use Rattle.area.specs.declared.places.Place.{Place}
use Rattle.area.specs.Layout.{at, Lies}
use Rattle.area.specs.Layout.Part.{kept}
use Rattle.area.specs.Layout.Slot.{Tail}
use Rattle.area.specs.Holds.{Holds, Takes, plain, Moves}
use Rattle.area.proofs.Rings.{member_inside}
use Rattle.moves.proofs.Numbers.{first_stands}

-- ---- who runs

module _ {n : Shape} {s : State model} {r : ℕ} (e : r ≡ s.fields running) where
  pub runner_stands : Valid n s → r ≢ 0 → member r (s.queues ready) ≡ true
  runner_stands v z = first_stands (s.queues ready) (e ∙ v.runs) z

  pub runner_small : Valid n s → r ≤ n.processes
  runner_small v = let b = v.placed.range running in omega arith

-- ---- a field that takes a value

pub taking : {n : Shape} (f : Field) {p : Place} {v : ℕ} → Lies n (kept f) p → plain f ≡ true → v < room n f → Takes n f p v
taking f L e h = record { lies = L; free = e; fits = h }

-- ---- a process on its way from a queue to another

module _ {n : Shape} {ws : List ℕ} {s : State model} {i j p waits : ℕ} (H : Holds n ws s) (from to : Queue) (a : exists n from ≡ true) (b : exists n to ≡ true) (d : i ≡ at n (Tail from)) (e : j ≡ at n (Tail to)) where
  -- it may stand there
  abbrev pub trying : inside n.processes p ≡ true → waits ≡ bit (is_condition to) → Moves n ws i j p waits
  trying h w = record { state = s; from = from; to = to; holds = H; given_from = a; given_to = b; here_from = d; here_to = e; process = h; stood = member p (s.queues from); stands = refl; waits_there = w }

  -- it does
  abbrev pub going : member p (s.queues from) ≡ true → waits ≡ bit (is_condition to) → Moves n ws i j p waits
  going m w = record { state = s; from = from; to = to; holds = H; given_from = a; given_to = b; here_from = d; here_to = e; process = member_inside n s H.placed p from m; stood = true; stands = m; waits_there = w }
