-- `replay::serve` meets its contract: each arm is the record that was read. Assumes nothing.
use mathlib.Core.Path.{refl, sym, ◌∙◌}
use Rattle.replay.proofs.Replays.{served, not_served}
use Rattle.replay.proofs.serve.Goals as goal

pub returns-in-Some : goal.returns-in-Some
returns-in-Some c = served (sym c.record_at.ensures ∙ c.in-Some.is) c.perform.ensures c.pack.ensures refl

pub returns-in-None : goal.returns-in-None
returns-in-None c = not_served (sym c.record_at.ensures ∙ c.in-None.is)
