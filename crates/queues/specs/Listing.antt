-- What List promises on an area that holds a valid state: one queue, first to last, in a lent buffer. Assumes nothing.
use Rattle.std.specs.Prelude.{ℕ, ◌≡◌, true, false, List, length}
use Rattle.model.specs.declared.Shape.{Shape}
use Rattle.model.specs.declared.Report.{Report}
use Rattle.model.specs.Queue.{queue_by, is_queue}
use Rattle.model.specs.Machine.{State, model}
use Rattle.model.specs.Reports.{Refused, Reports}

-- List of a kind and a number, of a state, into a buffer: no such queue is 7, then a buffer too short is 5; the count is of processes
pub record Lists (kind number : ℕ) (n : Shape) (s : State model) (old new : List ℕ) (r : Report) : Type 0 where
  pub missing : is_queue n kind number ≡ false → Refused old new r 7
  pub found : is_queue n kind number ≡ true → Reports (length (s.queues (queue_by kind number))) (s.queues (queue_by kind number)) old new r
