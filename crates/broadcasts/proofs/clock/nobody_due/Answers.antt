-- `broadcasts::clock::nobody_due` meets its contract: it asks of the processes from 1 on, one after the other, whether their timers ring. Assumes nothing.
use Rattle.std.proofs.Common.{◌-◌, rules, refl, sym, ◌∙◌, length}
use borrow.Author.Tests.{tests, not-true}
use borrow.Rule.Slice.PartMut.{mid_of}
use Rattle.std.proofs.lemmas.Iterator.Search.{any_from_yields_List}
use Rattle.model.specs.Queue.{up_to}
use Rattle.model.specs.Rules.{rings}
use Rattle.model.proofs.Lists.{up_to_member}
use Rattle.links.specs.Link as link
use Rattle.broadcasts.proofs.Numbers.{numbers_come}
use Rattle.broadcasts.proofs.Ticking.{held_rings, none_pass}
use Rattle.broadcasts.proofs.clock.nobody_due.Goals as goal

pub returns : goal.returns
returns c s H e =
    let a = c.args in
    let at = c.records_at-at.result in
    let t = link.rings (mid_of at (length a.area.now - at) a.area.now) a.time in
    let told = any_from_yields_List t _ _ c.any.result c.any.ensures.ran (numbers_come a.shape.processes refl) (λ x b q k. search (rules, tests)) in
    none_pass (rings s.fields a.time) t (up_to a.shape.processes) (λ x m. held_rings H x c.records_at-at.ensures (up_to_member a.shape.processes x m) a.time) (sym told ∙ not-true _ e)
