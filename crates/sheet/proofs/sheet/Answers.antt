-- `sheet::sheet` meets its contract: a page too short is refused; else the rows stand on it, ready's, then those of parks, locks and conditions.
-- Assumes nothing.
use native.Mathlib.Omega.{arith}
use Rattle.model.proofs.Reports.{reports_short}
use Rattle.area.proofs.Whole.{counts_in}
use Rattle.sheet.proofs.Rows.{page_length, page_written, page_told}
use Rattle.sheet.proofs.sheet.Goals as goal

pub returns-then-page-need : goal.returns-then-page-need
returns-then-page-need c s H = reports_short (omega (arith, page_length c.args.shape s, c.if-page-need.true))

pub overflow_cast-result : goal.overflow_cast-result
overflow_cast-result c =
    let n = c.args.shape in
    let g = counts_in n c.requires.1.placed.counts in
    omega (arith, g.parks, g.locks, g.conditions)

pub returns : goal.returns
returns c s H =
    let n = c.args.shape in
    let ready = rw (c.row_of-ready.ensures s H) at (c.put_rest.ensures _ c.put_label.ensures) in
    page_told n s (omega arith) (page_written s H ready c.put_kind-parks_end.ensures c.put_kind-locks_end.ensures c.put_kind.ensures)
