-- The bytes before those that are left are fed: that is the invariant, beside the room for the answers to what is left. Assumes nothing.
use Rattle.std.proofs.Common.{◌≡◌, ◌+◌, ◌≤◌, ◌*◌, ℕ, List, ◌++◌, length}
use Rattle.print.specs.Print.{longest}
use Rattle.lines.specs.Lines.{Feeds}
use Rattle.lines.specs.Session.{progress_of, told, SameSlices}
use Rattle.lines.proofs.Session.feed.Given as goal

abbrev pub invariant-loop-at : goal.invariant-loop-at
invariant-loop-at l = record {
  within : l.self.answers.fill + length l.left * longest ≤ length l.self.answers.room.now;
  same_slices : SameSlices l.initial.self l.self;
  fed : (xs : List ℕ) × (xs ++ l.left ≡ l.piece) × Feeds xs (progress_of l.initial.self) (progress_of l.self) (told l.self);
}

abbrev pub decreases-loop-at : goal.decreases-loop-at
decreases-loop-at l = length l.left
