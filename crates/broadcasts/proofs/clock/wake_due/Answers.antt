-- `broadcasts::clock::wake_due` meets its contract: nobody rings, or those who ring leave their conditions and then wake. Assumes nothing.
use Rattle.std.proofs.Common.{refl}
use Rattle.broadcasts.proofs.Ticking.{ringers_wake, ringers_woken}
use Rattle.broadcasts.proofs.clock.wake_due.Goals as goal

pub wake_due-requires : goal.wake_due-requires
wake_due-requires c =
    let s = c.requires in
    (s.state.fields, ringers_wake s.holds s.valid _ (c.sweep_all.ensures s.state s.holds), refl)

pub returns : goal.returns
returns c =
    λ s H v.
    let L = c.sweep_all.ensures s H in
    let W = c.wake_due.ensures s.fields (ringers_wake H v _ L) refl in
    (W.0, ringers_woken H v _ L W.1)
