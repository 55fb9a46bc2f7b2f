-- What of a session is promised: how far it has come, and what it has told. Assumes nothing.
use Rattle.std.specs.Prelude.{ℕ, List, take}
use Rattle.serve.specs.Desk.{SameSlice, SameDesk}
use Rattle.lines.specs.Lines.{Progress, progress}
use Rattle.lines.specs.declared.Session.{Session}

-- the area and the open line
abbrev pub progress_of : Session → Progress
progress_of s = progress s.line.room.now s.line.fill s.desk.area.now

-- the answers to what was taken in last
abbrev pub told : Session → List ℕ
told s = take s.answers.fill s.answers.room.now

-- the same slices are lent to it, as long as before
abbrev pub SameSlices : Session → Session → Type 0
SameSlices s t = SameDesk s.desk t.desk × SameSlice s.line.room t.line.room × SameSlice s.answers.room t.answers.room
