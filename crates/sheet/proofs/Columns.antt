-- No digit is lost: each number of a row has as many digits as columns, or fewer, and so is read back out of them. Assumes nothing.
use Prim.Native.Nat.{suc, ◌<◌}
use native.Mathlib.Omega.{arith}
use mathlib.Core.Path.{◌≡◌}
use mathlib.Core.Bool.{true}
use lib.ListN.{length}
use Rattle.model.specs.declared.Shape.{Shape}
use Rattle.model.specs.Queue.{Queue, exists, number_of, first, All}
use Rattle.model.specs.Queue.Queue.{ready, park, lock, condition}
use Rattle.model.specs.Field.Field.{holder, wakeup}
use Rattle.model.specs.Machine.{State, model}
use Rattle.model.specs.Valid.{Placed}
use Rattle.model.proofs.Tests.{inside_bounds}
use Rattle.model.proofs.Places.{queue_length}
use Rattle.model.proofs.Good.{each_most}
use Rattle.area.specs.State.{last}
use Rattle.area.proofs.Whole.{Counts, counts_in}
use Rattle.area.proofs.States.{first_small, last_small, members_small}
use Rattle.rows.specs.Printed.{aligned, numbers}
use Rattle.rows.proofs.Shown.{shown, aligned_shown}
use Rattle.sheet.specs.Sheet.{holder_of, wakeup_of, row_of}

module _ {n : Shape} {s : State model} (P : Placed n s) where
  counts : Counts n
  counts = counts_in n P.counts

  -- a queue's number has at most three digits
  number_small : (q : Queue) → exists n q ≡ true → number_of q < 1000
  number_small ready ok = omega arith
  number_small (park k) ok = omega (arith, inside_bounds n.parks k ok, counts.parks)
  number_small (lock l) ok = omega (arith, inside_bounds n.locks l ok, counts.locks)
  number_small (condition c) ok = omega (arith, inside_bounds n.conditions c ok, counts.conditions)

  -- a holder's at most four, and a wakeup is one
  holder_small : (q : Queue) → holder_of s q < 10000
  holder_small ready = omega arith
  holder_small (park k) = omega arith
  holder_small (lock l) = omega (arith, each_most n.locks l (suc n.processes) (s.fields (holder l)) (P.range (holder l)) (omega arith), counts.processes)
  holder_small (condition c) = omega arith

  wakeup_small : (q : Queue) → wakeup_of s q < 10
  wakeup_small ready = omega arith
  wakeup_small (park k) = omega arith
  wakeup_small (lock l) = omega arith
  wakeup_small (condition c) = omega (arith, each_most n.conditions c 2 (s.fields (wakeup c)) (P.range (wakeup c)) (omega arith))

  -- so every number of a row is read back out of its columns
  pub row_shown : (q : Queue) → exists n q ≡ true → All (λ c. shown 0 (aligned c.0 c.1) ≡ c.1) (numbers (row_of s q))
  row_shown q ok =
      let m = counts.processes in
      let small = members_small n s P q in (
        aligned_shown 3 (number_of q) (number_small q ok),
        (
          aligned_shown 4 (length (s.queues q)) (omega (arith, queue_length n.processes s.queues P.place P.once q)),
          (
            aligned_shown 4 (first (s.queues q)) (omega (arith, first_small n.processes (s.queues q) small)),
            (
              aligned_shown 4 (last (s.queues q)) (omega (arith, last_small n.processes (s.queues q) small)),
              (aligned_shown 4 (holder_of s q) (holder_small q), (aligned_shown 1 (wakeup_of s q) (wakeup_small q), tt)),
            ),
          ),
        ),
      )
