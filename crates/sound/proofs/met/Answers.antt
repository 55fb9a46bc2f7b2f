-- `sound::met` meets its contract: the passes over the kinds, one after the other. Assumes nothing.
use native.Mathlib.Omega.{arith}
use mathlib.Core.Path.{refl}
use Rattle.sound.proofs.Queues.{lent_within}
use Rattle.sound.proofs.Numbers.{says_1, says_2, says_number}
use Rattle.sound.proofs.met.Goals as goal

pub rings-requires : goal.rings-requires
rings-requires c = rw c.from.ensures (lent_within c.args.area.now c.requires.1 c.records_at-first_record.ensures c.requires.0 (λ i. omega (arith, c.type_inv.area i)) 0 (omega arith) refl)

pub returns-in_err-plain : goal.returns-in_err-plain
returns-in_err-plain c = rw c.from_residual.ensures (says_1 c.args.shape c.args.area.now c.records_at-first_record.ensures c.from.ensures _ _ c.rings.ensures c.in_err-plain.was)

pub rings-requires-2 : goal.rings-requires-2
rings-requires-2 c = rw c.from-2.ensures (lent_within c.args.area.now c.requires.1 c.records_at-first_record.ensures c.requires.0 (λ i. omega (arith, c.type_inv.area i)) 2 (omega arith) c.conditions_at-first_condition.ensures)

pub returns-in_err-waiting : goal.returns-in_err-waiting
returns-in_err-waiting c =
    rw c.from_residual-in_err-waiting.ensures (
    says_2 c.args.shape c.args.area.now c.records_at-first_record.ensures c.from.ensures _ _ c.rings.ensures c.in_ok-plain.was
    c.conditions_at-first_condition.ensures c.from-2.ensures _ _ c.rings-2.ensures c.in_err-waiting.was)

pub rings-requires-3 : goal.rings-requires-3
rings-requires-3 c = rw c.from-3.ensures (lent_within c.args.area.now c.requires.1 c.records_at-first_record.ensures c.requires.0 (λ i. omega (arith, c.type_inv.area i)) 1 (omega arith) c.locks_at-first_lock.ensures)

pub returns : goal.returns
returns c =
    says_number c.args.shape c.args.area.now c.records_at-first_record.ensures c.from.ensures _ _ c.rings.ensures c.in_ok-plain.was
    c.conditions_at-first_condition.ensures c.from-2.ensures _ _ c.rings-2.ensures c.in_ok-waiting.was
    c.locks_at-first_lock.ensures c.from-3.ensures _ _ c.rings-3.ensures
