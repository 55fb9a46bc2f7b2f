-- What there is room for is put behind what is there. Assumes nothing.
use Rattle.std.proofs.Common.{◌+◌, length-take, ◌∙◌, arith}
use Rattle.std.proofs.lemmas.Slice.{take-put_mid}
use Rattle.lines.proofs.Feeding.{filled}
use Rattle.lines.proofs.Buffer.extend.Goals as goal

pub returns-clause-kept : goal.returns-clause-kept
returns-clause-kept c =
    let s = c.args.self.now in
    let n = c.min-n.result in
    rw c.copy_from_slice.ensures.after (take-put_mid s.fill _ s.room.now _ (s.fill + n) (omega (arith, c.min-n.ensures, length-take n c.args.bytes.now)) (omega arith) ∙ filled s.fill n s.room.now c.args.bytes.now (omega (arith, c.min-n.ensures)) (omega arith))
