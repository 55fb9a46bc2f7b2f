-- `timers::due` meets its contract: who is due is counted against the buffer, written there in process order, and put in order of the ticks left. Assumes nothing.
use Rattle.std.proofs.Common.{sym, ◌∙◌, subst, arith}
use Rattle.model.specs.Field.Field.{clock as clockField}
use Rattle.area.proofs.Whole.{counts_in}
use Rattle.order.specs.Order.{Processes}
use Rattle.timers.specs.Telling.{due_ones}
use Rattle.timers.proofs.Left.{shown, key_left}
use Rattle.timers.proofs.Dues.{due_processes, due_few}
use Rattle.timers.proofs.Answers.{front_ones, tells_none, tells_short, tells_whole}
use Rattle.timers.proofs.due.Goals as goal

pub get-clock-requires : goal.get-clock-requires
get-clock-requires c = (c.args.shape, clockField, (c.requires.state, c.requires.holds), c.clock.ensures c.args.shape)

pub invariant_of-reading : goal.invariant_of-reading
invariant_of-reading c = (c.requires.state, shown c.args.shape c.args.area.now c.get-clock.ensures c.clock.ensures c.requires.state c.requires.holds c.requires.valid)

pub returns-then-told-eq0 : goal.returns-then-told-eq0
returns-then-told-eq0 c s H v =
    let a = c.args in
    let S = shown a.shape a.area.now c.get-clock.ensures c.clock.ensures s H v in
    tells_none a.ticks.0 a.shape s (c.count_due-told.ensures s S) c.if-told-eq0.true

pub overflow_mul-count : goal.overflow_mul-count
overflow_mul-count c =
    let a = c.args in
    let r = c.requires in
    let S = shown a.shape a.area.now c.get-clock.ensures c.clock.ensures r.state r.holds r.valid in
    omega (arith, c.count_due-told.ensures r.state S, due_few a.ticks.0 a.shape r.state)

pub returns-then-buffer-count : goal.returns-then-buffer-count
returns-then-buffer-count c s H v =
    let a = c.args in
    let S = shown a.shape a.area.now c.get-clock.ensures c.clock.ensures s H v in
    tells_short a.ticks.0 a.shape s (c.from-count.ensures ∙ c.count_due-told.ensures s S) c.if-buffer-count.true

pub write_due-requires : goal.write_due-requires
write_due-requires c =
    let a = c.args in
    let r = c.requires in
    let S = shown a.shape a.area.now c.get-clock.ensures c.clock.ensures r.state r.holds r.valid in
    (r.state, S, omega (arith, c.count_due-told.ensures r.state S))

pub arrange-requires-clause-room : goal.arrange-requires-clause-room
arrange-requires-clause-room c =
    let a = c.args in
    let r = c.requires in
    let S = shown a.shape a.area.now c.get-clock.ensures c.clock.ensures r.state r.holds r.valid in
    (omega (arith, c.count_due-told.ensures r.state S, due_few a.ticks.0 a.shape r.state, (counts_in a.shape r.holds.image.counts).processes), omega arith)

pub arrange-requires-clause-processes : goal.arrange-requires-clause-processes
arrange-requires-clause-processes c =
    let a = c.args in
    let r = c.requires in
    let S = shown a.shape a.area.now c.get-clock.ensures c.clock.ensures r.state r.holds r.valid in
    subst (Processes a.shape) (sym (front_ones (due_ones a.ticks.0 a.shape r.state) a.buffer.now (c.from-count.ensures ∙ c.count_due-told.ensures r.state S) (c.write_due.ensures r.state S))) (due_processes a.ticks.0 a.shape r.state)

pub returns : goal.returns
returns c s H v =
    let a = c.args in
    let S = shown a.shape a.area.now c.get-clock.ensures c.clock.ensures s H v in
    rw (← c.from-count.ensures) (tells_whole a.ticks.0 a.shape s (c.from-count.ensures ∙ c.count_due-told.ensures s S) c.if-buffer-count.false (key_left a.shape s S.now (omega arith)) (c.write_due.ensures s S) (c.arrange.ensures s H))
