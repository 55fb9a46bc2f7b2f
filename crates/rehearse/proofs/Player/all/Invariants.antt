-- From read to read the input is open: the area and the open line are what it leaves so far. Assumes nothing.
use Rattle.lines.specs.Session.{progress_of}
use Rattle.lines.proofs.Whole.{Open}
use Rattle.rehearse.proofs.Player.all.Given as goal

abbrev pub invariant-loop : goal.invariant-loop
invariant-loop g l = Open l.fn.self.session.desk.area.now (progress_of l.self.session)
