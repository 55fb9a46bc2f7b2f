-- `queues::ranks::set_priority` meets its contract: its tests in the rule's order; who runs moves to ready again, with its new priority. Assumes nothing.
use native.Mathlib.Omega.{arith}
use Rattle.moves.proofs.Shared.{runner_stands}
use Rattle.queues.proofs.Ranking.{set_priority_nobody, set_priority_high, set_priority_low}
use Rattle.queues.proofs.ranks.set_priority.Goals as goal

pub returns-then-running-eq0 : goal.returns-then-running-eq0
returns-then-running-eq0 c s H v =
    let n = c.args.shape in
    set_priority_nobody H c.args.priority (c.running_of-running.ensures n s H) c.if-running-eq0.true

pub returns-then-v-gt-HIGHEST : goal.returns-then-v-gt-HIGHEST
returns-then-v-gt-HIGHEST c s H v =
    let n = c.args.shape in
    set_priority_high H c.args.priority (c.running_of-running.ensures n s H) c.if-running-eq0.false c.if-v-gt-HIGHEST.true

pub rank-requires : goal.rank-requires
rank-requires c =
    let pre = c.requires in
    let runs = c.running_of-running.ensures c.args.shape pre.state pre.holds in
    record { holds = (c.args.shape, pre.state, c.records_at-base.ensures, pre.holds, runner_stands runs pre.valid c.if-running-eq0.false); fits = omega (arith, c.if-v-gt-HIGHEST.false) }

pub finish-requires : goal.finish-requires
finish-requires c =
    let n = c.args.shape in
    let pre = c.requires in
    let runs = c.running_of-running.ensures n pre.state pre.holds in
    (_, (c.rank.ensures n pre.state c.records_at-base.ensures pre.holds (runner_stands runs pre.valid c.if-running-eq0.false)).holds)

pub returns : goal.returns
returns c s H v =
    let n = c.args.shape in
    let runs = c.running_of-running.ensures n s H in
    let b = c.rank.ensures n s c.records_at-base.ensures H (runner_stands runs v c.if-running-eq0.false) in
    set_priority_low H c.args.priority runs c.if-running-eq0.false v c.if-v-gt-HIGHEST.false b (c.finish.ensures _ b.holds)
