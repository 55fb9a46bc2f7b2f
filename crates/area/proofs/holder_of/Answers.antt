-- `area::holder_of` meets its contract: the holder is read from the word behind its lock's tail. Assumes nothing.
use mathlib.Core.Path.{ap, ◌∙◌}
use Prim.Native.Nat.{ℕ, ◌+◌, ◌/◌, ◌%◌}
use lib.ListN.{get_or}
use Rattle.model.specs.Field.Field.{holder}
use Rattle.area.specs.Layout.Part.{kept}
use Rattle.area.proofs.Stores.{load}
use Rattle.area.proofs.holder_of.Goals as goal

pub returns : goal.returns
returns c s H = c.next_field.ensures ∙ ap (λ (k : ℕ). get_or c.args.area.now (k + 1) 0 / 8 % 1024) c.lock_at-at.ensures ∙ load _ _ _ H.image (kept (holder c.args.l)) c.requires.is_lock
