-- `rows::put_rest` meets its contract: behind the name and the number come five numbers more, each behind a space, and the newline.
-- Assumes nothing.
use native.Mathlib.Omega.{arith}
use Rattle.rows.proofs.Written.{written_long}
use Rattle.rows.proofs.Numbers.{labelled, begun_on, begun_end}
use Rattle.rows.proofs.put_rest.Goals as goal

pub returns : goal.returns
returns c old w =
    let r = c.args.row in
    let b1 = labelled r.kind r.number w in
    let b2 = begun_on 4 17 b1 r.count c.put_number.ensures in
    let b3 = begun_on 4 12 b2 r.first c.put_number-2.ensures in
    let b4 = begun_on 4 7 b3 r.last c.put_number-3.ensures in
    let b5 = begun_on 4 2 b4 r.holder c.put_number-4.ensures in
    let b6 = begun_on 1 0 b5 r.wakeup c.put_number-5.ensures in
    begun_end r b6 (omega (arith, written_long w, c.requires))
