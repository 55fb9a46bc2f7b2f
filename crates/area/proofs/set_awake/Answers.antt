-- `area::set_awake` meets its contract: the timer is written, and then the bits of the flags. Assumes nothing.
use Prim.Native.Nat.{◌+◌}
use native.Mathlib.Omega.{arith}
use mathlib.Core.Path.{refl}
use Rattle.model.specs.Field.Field.{armed}
use Rattle.area.specs.Layout.Part.{kept}
use Rattle.area.proofs.Stores.{stored_then}
use Rattle.area.proofs.Lent.{lent_calm}
use Rattle.area.proofs.set_awake.Goals as goal

pub set_flag-requires : goal.set_flag-requires
set_flag-requires c =
    let h = c.requires in
    let a = lent_calm h.1 _ h.3 h.4 h.5 (c.link_at-at.result + 2) (omega (arith, c.link_at-at.ensures)) in
    record { image = (h.0, h.1, _, kept (armed c.args.p), h.3, a.image, h.5, (refl, refl, refl)); is_bit = omega arith }

pub set_waiting-requires : goal.set_waiting-requires
set_waiting-requires c =
    let h = c.requires in
    let a = lent_calm h.1 _ h.3 h.4 h.5 (c.link_at-at.result + 2) (omega (arith, c.link_at-at.ensures)) in
    record { image = (h.0, h.1, _, h.3, (c.set_flag.ensures h.0 h.1 _ (kept (armed c.args.p)) h.3 a.image h.5 (refl, refl, refl)).image, h.5); is_bit = omega arith }

pub returns : goal.returns
returns c n front t fits im h =
    let a = lent_calm front _ fits im h (c.link_at-at.result + 2) (omega (arith, c.link_at-at.ensures)) in
    let b = c.set_flag.ensures n front _ (kept (armed c.args.p)) fits a.image h (refl, refl, refl) in
    stored_then a (stored_then b (c.set_waiting.ensures n front _ fits b.image h))
