-- `locks::block` meets its contract: p is failed, and queues at the lock. Assumes nothing.
use native.Mathlib.Omega.{arith}
use mathlib.Core.Path.{refl}
use Rattle.model.specs.Queue.Queue.{ready, lock}
use Rattle.model.specs.Field.Field.{failed}
use Rattle.area.proofs.Puts.{becomes_then}
use Rattle.area.proofs.Rings.{member_inside}
use Rattle.moves.proofs.Shared.{taking, going}
use Rattle.locks.proofs.block.Goals as goal

pub failed-requires : goal.failed-requires
failed-requires c = member_inside c.args.shape c.requires.holds.0 c.requires.holds.1.placed c.args.p ready c.requires.holds.2

pub put-requires : goal.put-requires
put-requires c =
    let L = c.failed.ensures in
    (c.args.shape, failed c.args.p, (c.requires.holds.0, c.requires.holds.1), taking (failed c.args.p) L refl (rw L.0 (omega arith)))

pub queue-requires : goal.queue-requires
queue-requires c =
    let n = c.args.shape in
    let L = c.failed.ensures in
    let b = c.put.ensures n c.requires.holds.0 (failed c.args.p) c.requires.holds.1 (taking (failed c.args.p) L refl (rw L.0 (omega arith))) in
    (n, c.records_at-base.ensures, going b.holds ready (lock c.args.lock) refl c.requires.is_lock refl c.lock_at-to.ensures c.requires.holds.2 refl, refl)

pub returns : goal.returns
returns c s H m =
    let n = c.args.shape in
    let L = c.failed.ensures in
    let b = c.put.ensures n s (failed c.args.p) H (taking (failed c.args.p) L refl (rw L.0 (omega arith))) in
    let q = c.queue.ensures n c.records_at-base.ensures (going b.holds ready (lock c.args.lock) refl c.requires.is_lock refl c.lock_at-to.ensures m refl) refl in
    (q.0, becomes_then b q.1)
