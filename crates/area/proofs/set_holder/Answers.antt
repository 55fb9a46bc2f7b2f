-- `area::set_holder` meets its contract: the holder and its lock's locked bit are written together. Assumes nothing.
use Rattle.model.specs.Field.Field.{holder}
use Rattle.area.specs.Layout.Part.{kept, locked}
use Rattle.area.specs.State.{laid}
use Rattle.area.proofs.Stores.{stored_then}
use Rattle.area.proofs.Fields.{holder_fits, takes_holder}
use Rattle.area.proofs.set_holder.Goals as goal

pub store-requires-2 : goal.store-requires-2
store-requires-2 c =
    let n = c.args.shape in
    let a = c.store.ensures n (laid n c.requires.held.0) (locked c.args.l) c.requires.held.1.image c.locked.ensures c.bit_of.ensures.1 in
    (n, _, kept (holder c.args.l), a.image, c.holder.ensures, holder_fits c.requires.held.1 c.args.l c.args.p c.requires.is_lock c.requires.is_process_or_none)

pub returns : goal.returns
returns c s H =
    let n = c.args.shape in
    let a = c.store.ensures n (laid n s) (locked c.args.l) H.image c.locked.ensures c.bit_of.ensures.1 in
    let b = c.store-2.ensures n _ (kept (holder c.args.l)) a.image c.holder.ensures (holder_fits H c.args.l c.args.p c.requires.is_lock c.requires.is_process_or_none) in
    takes_holder H c.args.l c.args.p c.requires.is_lock c.requires.is_process_or_none c.bit_of.ensures.0 (stored_then a b)
