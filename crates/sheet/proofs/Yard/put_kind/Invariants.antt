-- `Yard::put_kind` meets its contract. The loop's invariant: the rows of the queues passed stand on the page. Assumes nothing.
use Prim.Native.Nat.{◌+◌, ◌-◌, ◌≤◌, ◌<◌}
use Rattle.model.specs.Queue.{queue_by}
use Rattle.sheet.specs.Sheet.{Rows}
use Rattle.sheet.proofs.Yard.put_kind.Given as goal

abbrev pub invariant-loop-number : goal.invariant-loop-number
invariant-loop-number g l = (0 < l.number) × (l.number ≤ l.number-end + 1) × Rows l.self (queue_by g.row.KIND) (l.number - 1) l.at l.initial.page l.page l.next
