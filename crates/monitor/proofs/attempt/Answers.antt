-- `monitor::attempt` meets its contract: each arm makes the call that it is. Assumes nothing.
use Rattle.monitor.proofs.Performs.{performs_as}
use Rattle.monitor.proofs.attempt.Goals as goal

pub returns-in-Enter : goal.returns-in-Enter
returns-in-Enter c = performs_as c.in-Enter.is c.enter.ensures

pub returns-in-Exit : goal.returns-in-Exit
returns-in-Exit c = performs_as c.in-Exit.is c.exit.ensures

pub returns-in-Wait : goal.returns-in-Wait
returns-in-Wait c = performs_as c.in-Wait.is c.wait.ensures

pub returns-in-Notify : goal.returns-in-Notify
returns-in-Notify c = performs_as c.in-Notify.is c.notify.ensures

pub returns-in-Broadcast : goal.returns-in-Broadcast
returns-in-Broadcast c = performs_as c.in-Broadcast.is c.broadcast.ensures

pub returns-in-Naked : goal.returns-in-Naked
returns-in-Naked c = performs_as c.in-Naked.is c.naked.ensures

pub returns-in-Requeue : goal.returns-in-Requeue
returns-in-Requeue c = performs_as c.in-Requeue.is c.requeue.ensures

pub returns-in-SetPriority : goal.returns-in-SetPriority
returns-in-SetPriority c = performs_as c.in-SetPriority.is c.set_priority.ensures

pub returns-in-Tick : goal.returns-in-Tick
returns-in-Tick c = performs_as c.in-Tick.is c.tick.ensures

pub returns-in-Abort : goal.returns-in-Abort
returns-in-Abort c = performs_as c.in-Abort.is c.abort.ensures

pub returns-in-SetAbortable : goal.returns-in-SetAbortable
returns-in-SetAbortable c = performs_as c.in-SetAbortable.is c.set_abortable.ensures

pub returns-in-Reenter : goal.returns-in-Reenter
returns-in-Reenter c = performs_as c.in-Reenter.is c.reenter.ensures
