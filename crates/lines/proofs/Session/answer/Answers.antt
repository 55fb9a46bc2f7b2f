-- The answer is put into a part of the room, which begins behind those that are there. Assumes nothing.
use Rattle.std.proofs.Common.{arith}
use Rattle.lines.proofs.Feeding.{part_front}
use Rattle.lines.proofs.Session.answer.Goals as goal

pub returns-clause-puts : goal.returns-clause-puts
returns-clause-puts c =
    let answers = c.args.self.now.answers in
    rw (← c.bytes.ensures)
    (_, c.serve-n.ensures.serves, part_front answers.fill _ c.serve-n.result answers.room.now c.serve-n.new.out (omega arith) (omega (arith, c.serve-n.ensures.within, c.serve-n.auto)))
