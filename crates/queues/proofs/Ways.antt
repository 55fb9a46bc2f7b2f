-- List's way out with the queue told. Assumes nothing.
use Prim.Native.Nat.{ℕ, ◌≤◌}
use mathlib.Core.Path.{◌≡◌, sym, ◌∙◌}
use mathlib.Core.Bool.{true, true≢false}
use mathlib.Core.List.{List, ◌++◌}
use lib.ListN.{length, drop}
use Rattle.model.specs.declared.Shape.{Shape}
use Rattle.model.specs.Queue.{queue_by, is_queue}
use Rattle.model.specs.Machine.{State, model}
use Rattle.model.proofs.Reports.{reports_whole}
use Rattle.queues.specs.Listing.{Lists}

module _ {kind i : ℕ} {n : Shape} {s : State model} {old : List ℕ} where
  pub list_whole : {k : ℕ} {new : List ℕ} → is_queue n kind i ≡ true → k ≡ length (s.queues (queue_by kind i)) → length (s.queues (queue_by kind i)) ≤ length old → new ≡ s.queues (queue_by kind i) ++ drop (length (s.queues (queue_by kind i))) old → Lists kind i n s old new record { code = 0; count = k }
  list_whole t e l d = record { missing = λ f. absurd (true≢false (sym t ∙ f)); found = λ g. reports_whole e l d }
