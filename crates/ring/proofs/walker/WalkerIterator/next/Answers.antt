-- The walker's `next` meets its contract: the one behind it is the first of those to come, unless that is the tail. Assumes nothing.
use mathlib.Core.Path.{sym, ap, ◌∙◌}
use native.Mathlib.Omega.{arith}
use lib.ListN.{length}
use borrow.Author.Tests.{eqb-true, eqb-false, not-true, not-false}
use Rattle.ring.proofs.Rings.{ring_tail_small}
use Rattle.ring.proofs.Way.{walks_stands, walks_end, walks_on, to_come_on}
use Rattle.ring.proofs.walker.WalkerIterator.next.Goals as goal

pub goes_on-requires : goal.goes_on-requires
goes_on-requires c = (walks_stands _ c.requires, ring_tail_small _ c.requires.ring)

pub returns-then-not-goes_on-clause-steps : goal.returns-then-not-goes_on-clause-steps
returns-then-not-goes_on-clause-steps c = let e = walks_end _ c.requires (eqb-true _ _ (not-false _ (sym c.goes_on.ensures ∙ c.if-not-goes_on.true))) in (e, e)

pub next_of-self-requires : goal.next_of-self-requires
next_of-self-requires c = walks_stands _ c.requires

pub returns-clause-steps : goal.returns-clause-steps
returns-clause-steps c = to_come_on _ c.requires (eqb-false _ _ (not-true _ (sym c.goes_on.ensures ∙ c.if-not-goes_on.false))) _ c.next_of-self.ensures

pub returns-clause-goes : goal.returns-clause-goes
returns-clause-goes c =
    let d = eqb-false _ _ (not-true _ (sym c.goes_on.ensures ∙ c.if-not-goes_on.false)) in
    let e = c.next_of-self.ensures in
    let on = walks_on _ c.requires d _ e in
    record { on = λ f. (on, tt, omega (arith, ap length (to_come_on _ c.requires d _ e))); keeps = on; rests = λ f. tt }
