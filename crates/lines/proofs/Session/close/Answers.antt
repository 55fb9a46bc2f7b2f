-- The last line is served where it has a byte. Assumes nothing.
use Rattle.std.proofs.Common.{arith}
use Rattle.lines.specs.Session.{progress_of, told}
use Rattle.lines.proofs.Feeding.{closes_some}
use Rattle.lines.proofs.Session.close.Goals as goal

pub returns-then-self-gt0-clause-closes : goal.returns-then-self-gt0-clause-closes
returns-then-self-gt0-clause-closes c =
    let line = c.args.self.now.line in
    closes_some line.room.now c.args.self.now.desk.area.now line.fill (progress_of c.answer.new.self) (told c.answer.new.self) (omega arith) (omega arith) (omega arith) (rw c.clear.ensures.empty at c.answer.ensures.puts)
