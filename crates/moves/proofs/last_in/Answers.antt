-- `moves::last_in` meets its contract: the tail's word names the last. Assumes nothing.
use mathlib.Core.Path.{refl, ◌∙◌}
use Rattle.area.specs.Layout.Part.{tail}
use Rattle.area.specs.State.{laid}
use Rattle.area.proofs.Stores.{load_at}
use Rattle.moves.proofs.last_in.Goals as goal

pub returns : goal.returns
returns c s q H ok here =
    let a = c.args in
    c.next_field.ensures ∙ load_at a.shape a.area.now (laid a.shape s) H.image (tail q) a.i ok here 8 1024 refl refl
