-- `start::start` meets its contract: a refusal leaves the area, and otherwise the words are written, all join ready, and dispatch ends it. Assumes nothing.
use native.Mathlib.Omega.{arith}
use mathlib.Core.Path.{◌≡◌, refl, sym}
use Rattle.model.specs.Rules.{start_code}
use Rattle.model.proofs.Kept.{given}
use Rattle.outcomes.proofs.Outcomes.{refusing, passed_on}
use Rattle.start.proofs.Started.{refuses_code, refuses_short, accepts_start}
use Rattle.start.proofs.start.Goals as goal

pub returns-in_err-tested : goal.returns-in_err-tested
returns-in_err-tested c =
    let s = c.args in
    refuses_code s.shape s.priorities.now s.area.now c.in_err-tested.ensures (refusing _) (passed_on _ _ c.from_residual.ensures.1)

pub returns-then-area-size_of : goal.returns-then-area-size_of
returns-then-area-size_of c =
    let ok : let s = c.args in start_code s.shape s.priorities.now ≡ 0 = sym c.in_ok-tested.ensures in
    let s = c.args in
    refuses_short s.shape s.priorities.now s.area.now ok (omega (arith, c.size_of.ensures, c.if-area-size_of.true)) refl

pub count_out-requires : goal.count_out-requires
count_out-requires c =
    let ok : let s = c.args in start_code s.shape s.priorities.now ≡ 0 = sym c.in_ok-tested.ensures in
    let s = c.args in
    ((given s.shape s.priorities.now ok).counts, omega (arith, c.size_of.ensures, c.if-area-size_of.false))

pub line_up-requires : goal.line_up-requires
line_up-requires c =
    let ok : let s = c.args in start_code s.shape s.priorities.now ≡ 0 = sym c.in_ok-tested.ensures in
    record { accepted = ok; image = c.count_out.ensures.image }

pub finish-requires : goal.finish-requires
finish-requires c = (_, c.line_up.ensures.holds)

pub returns : goal.returns
returns c =
    let ok : let s = c.args in start_code s.shape s.priorities.now ≡ 0 = sym c.in_ok-tested.ensures in
    let s = c.args in
    accepts_start s.shape s.priorities.now s.area.now ok (omega (arith, c.size_of.ensures, c.if-area-size_of.false))
    c.count_out.ensures c.line_up.ensures (c.finish.ensures _ c.line_up.ensures.holds)
