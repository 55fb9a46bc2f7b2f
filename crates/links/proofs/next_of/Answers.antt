-- `links::next_of` meets its contract: it is a field of the link. Assumes nothing.
use mathlib.Core.Path.{ap, ◌∙◌}
use Prim.Native.Nat.{ℕ, ◌/◌, ◌%◌}
use Rattle.links.specs.Link.{next}
use Rattle.links.proofs.next_of.Goals as goal

pub returns : goal.returns
unfolding next
returns c = c.next_field.ensures ∙ ap (λ (w : ℕ). w / 8 % 1024) c.link_of.ensures
