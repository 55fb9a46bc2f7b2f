-- `locks::release` meets its contract: the first of the lock's queue, if it has one, goes to ready. Assumes nothing.
use native.Mathlib.Omega.{arith}
use mathlib.Core.Path.{refl}
use Rattle.model.specs.Queue.Queue.{ready, lock}
use Rattle.area.proofs.Puts.{becomes_then}
use Rattle.moves.proofs.Queues.{first_small}
use Rattle.moves.proofs.Shared.{going}
use Rattle.moves.proofs.Numbers.{first_stands}
use Rattle.locks.proofs.Locking.{release_none, release_first}
use Rattle.locks.proofs.release.Goals as goal

pub set_holder-requires : goal.set_holder-requires
set_holder-requires c = let f = c.first_in-first.ensures _ (lock c.args.lock) c.requires.held.1 c.requires.is_lock c.lock_at-from.ensures in record { held = c.requires.held; is_lock = c.requires.is_lock; is_process_or_none = omega (arith, first_small c.requires.held.1 (lock c.args.lock) f) }

pub returns-then-first-eq0 : goal.returns-then-first-eq0
returns-then-first-eq0 c s H =
    let args = c.args in
    let lock_at = c.lock_at-from in
    let first_in = c.first_in-first in
    let set_holder = c.set_holder in
    release_none H args.lock (first_in.ensures s (lock args.lock) H c.requires.is_lock lock_at.ensures) c.if-first-eq0.true (set_holder.ensures s H)

pub send-requires : goal.send-requires
send-requires c =
    let args = c.args in
    let lock_at = c.lock_at-from in
    let first_in = c.first_in-first in
    let set_holder = c.set_holder in
    let if1 = c.if-first-eq0 in
    (args.shape, c.records_at-base.ensures, going (set_holder.ensures c.requires.held.0 c.requires.held.1).holds (lock args.lock) ready c.requires.is_lock refl lock_at.ensures (c.ready_at-to.ensures args.shape) (first_stands (c.requires.held.0.queues (lock args.lock)) (first_in.ensures c.requires.held.0 (lock args.lock) c.requires.held.1 c.requires.is_lock lock_at.ensures) if1.false) refl)

pub returns : goal.returns
returns c s H =
    let args = c.args in
    let lock_at = c.lock_at-from in
    let first_in = c.first_in-first in
    let set_holder = c.set_holder in
    let if1 = c.if-first-eq0 in
    let ready_at = c.ready_at-to in
    let send = c.send in
    let b = set_holder.ensures s H in
    let e = (first_in.ensures s (lock args.lock) H c.requires.is_lock lock_at.ensures) in
    release_first H args.lock e if1.false (becomes_then b ((send.ensures args.shape c.records_at-base.ensures (going b.holds (lock args.lock) ready c.requires.is_lock refl lock_at.ensures (ready_at.ensures args.shape) (first_stands (s.queues (lock args.lock)) e if1.false) refl)).done refl))
