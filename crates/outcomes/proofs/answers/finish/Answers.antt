-- `outcomes::answers::finish` meets its contract: dispatch, and its answer as the call's. Assumes nothing.
use Rattle.outcomes.proofs.answers.finish.Goals as goal

pub returns : goal.returns
returns c = λ s H. let d = c.dispatch-d.ensures s H in record { answer = rw (d.0, d.1); becomes = d.2 }
