-- `area::with_part` meets its contract: a word is what stands above the part, what it counts, and what stands below. Assumes nothing.
use native.Mathlib.Omega.{arith}
use Rattle.area.proofs.Fields.{part_swapped}
use Rattle.area.proofs.with_part.Goals as goal

pub overflow_add-result : goal.overflow_add-result
overflow_add-result c =
    let h = part_swapped c.args.word c.args.unit c.args.span c.args.value c.requires.0 c.requires.2 c.requires.3 in
    rw (c.from.ensures, c.from-2.ensures, c.from-low.ensures, c.from-3.ensures, c.from-4.ensures) (omega (arith, h.0))

pub overflow_cast-result : goal.overflow_cast-result
overflow_cast-result c =
    let h = part_swapped c.args.word c.args.unit c.args.span c.args.value c.requires.0 c.requires.2 c.requires.3 in
    rw (c.from.ensures, c.from-2.ensures, c.from-low.ensures, c.from-3.ensures, c.from-4.ensures) (omega (arith, h.0))

pub returns : goal.returns
returns c =
    let h = part_swapped c.args.word c.args.unit c.args.span c.args.value c.requires.0 c.requires.2 c.requires.3 in
    rw (c.from.ensures, c.from-2.ensures, c.from-low.ensures, c.from-3.ensures, c.from-4.ensures) h.1
