-- `rows::put_label` meets its contract: spaces, the name over the first two, and the number behind one more. Assumes nothing.
use native.Mathlib.Nat.{add-sub_cancel_left}
use mathlib.Core.Path.{refl}
use Rattle.rows.proofs.Numbers.{begun_name, begun_on}
use Rattle.rows.proofs.put_label.Goals as goal

pub returns : goal.returns
returns c =
    let a = c.args in
    let named = begun_name a.at a.kind c.blank.ensures (rw (add-sub_cancel_left a.at 2, c.copy_from_slice.ensures.after, c.letters_of.ensures) refl) in
    (begun_on 3 22 named a.number c.put_number.ensures).written
