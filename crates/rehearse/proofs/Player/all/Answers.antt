-- The first read finds nothing fed, each read goes on where the one before it ended, and the last leaves what one input leaves. Assumes nothing.
use Rattle.lines.specs.Session.{progress_of, told}
use Rattle.lines.proofs.Whole.{open_first, open_next, read_left}
use Rattle.rehearse.proofs.Player.all.Goals as goal

pub loop-init : goal.loop-init
loop-init g c = rw (← c.begin.ensures.same_area) (open_first (progress_of c.begin.new.self) c.begin.ensures.empty)

pub loop-preserved : goal.loop-preserved
loop-preserved g c =
    let session = c.turn.new.self.session in
    open_next c.args.self.now.session.desk.area.now c.turn.new.self.chunk.now (told session) (progress_of c.loop.self.session) (progress_of session) c.loop.invariant c.in-Some.n
    c.if-n-eq0.false (rw c.in-Some.is at c.turn.ensures)

pub returns-then-n-eq0 : goal.returns-then-n-eq0
returns-then-n-eq0 g c =
    let session = c.turn.new.self.session in
    read_left c.args.self.now.session.desk.area.now c.turn.new.self.chunk.now (told session) (progress_of c.loop.self.session) (progress_of session) c.loop.invariant c.turn.result c.turn.ensures

pub returns-in_default : goal.returns-in_default
returns-in_default g c =
    let session = c.turn.new.self.session in
    read_left c.args.self.now.session.desk.area.now c.turn.new.self.chunk.now (told session) (progress_of c.loop.self.session) (progress_of session) c.loop.invariant c.turn.result c.turn.ensures
