-- `links::set_next` meets its contract: it stores the link with another next where the link stands. Assumes nothing.
use mathlib.Core.Path.{ap, ◌∙◌}
use Prim.Native.Nat.{ℕ}
use lib.ListN.{get_or, set}
use Rattle.links.specs.Link.{relink, point}
use Rattle.links.proofs.set_next.Goals as goal

pub returns : goal.returns
unfolding point
returns c =
    let s = c.args in
    let r = s.records.now in
    ap (λ (w : ℕ). set r c.link_at-at.result w) c.with_next.ensures
    ∙ ap (λ (k : ℕ). set r k (relink (get_or r k 0) s.n)) c.link_at-at.ensures
