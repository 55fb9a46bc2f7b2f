-- Which states are valid: the clauses of "sound" that speak of queues and fields rather than of words and bits, in 01's order; 02 has two in
-- the place of the one on timers.
-- Locked and waiting are no clauses: a state says them by its holders and its queues. Assumes nothing.
use Rattle.std.specs.Prelude.{ℕ, suc, ◌<◌, ◌≡◌, true, false, ◌&&◌, cond, []}
use Rattle.model.specs.declared.Shape.{Shape}
use Rattle.model.specs.Queue.{Queue, inside, bit, same, exists, member, count, first, Falling}
use Rattle.model.specs.Queue.Queue.{ready, lock, condition}
use Rattle.model.specs.Field.{Field, some, priorities}
use Rattle.model.specs.Field.Field.{clock, running, priority, armed, timer, failed, abort, holder, wakeup, abortable}
use Rattle.model.specs.Rules.{counted}
use Rattle.model.specs.Machine.{State, model, waiting}

-- v values for i where it is one of n, else the value 0 alone
abbrev pub each : ℕ → ℕ → ℕ → ℕ
each n i v = cond (inside n i) v 1

-- how many values a field can have, from 0 up
abbrev pub room : Shape → Field → ℕ
room n clock = 65536
room n running = suc n.processes
room n (priority p) = each n.processes p 8
room n (armed p) = each n.processes p 2
room n (timer p) = each n.processes p 65536
room n (failed p) = each n.processes p 2
room n (abort p) = each n.processes p 2
room n (holder l) = each n.locks l (suc n.processes)
room n (wakeup c) = each n.conditions c 2
room n (abortable c) = each n.conditions c 2

-- the clauses that hold in the midst of a call too
pub record Placed (n : Shape) (s : State model) : Type 0 where
  -- every field is in range
  pub counts : counted n ≡ true
  pub range : (f : Field) → s.fields f < room n f
  -- each process stands in one queue, once: the queue that is its place; and no other number stands anywhere
  pub place : ℕ → Queue
  pub real : (p : ℕ) → inside n.processes p ≡ true → exists n (place p) ≡ true
  pub once : (p : ℕ) (q : Queue) → count p (s.queues q) ≡ bit (inside n.processes p && same (place p) q)
  -- each queue from its first on never rises in priority
  pub falls : (q : Queue) → Falling (priorities s.fields) (s.queues q)

pub record Valid (n : Shape) (s : State model) : Type 0 where
  pub placed : Placed n s
  -- running is the first of ready, 0 if ready is empty, and is not failed
  pub runs : s.fields running ≡ first (s.queues ready)
  pub steady : s.fields (failed (s.fields running)) ≡ 0
  -- armed is set only where waiting is set, and the timer is 0 where armed is clear
  pub arms : (p : ℕ) → waiting n s.queues p ≡ false → s.fields (armed p) ≡ 0
  pub timers : (p : ℕ) → s.fields (armed p) ≡ 0 → s.fields (timer p) ≡ 0
  -- failed is set in lock queues and clear in condition queues
  pub blocked : (l p : ℕ) → member p (s.queues (lock l)) ≡ true → s.fields (failed p) ≡ 1
  pub asleep : (c p : ℕ) → member p (s.queues (condition c)) ≡ true → s.fields (failed p) ≡ 0
  -- no holder stands in its own lock's queue
  pub holders : (l : ℕ) → member (s.fields (holder l)) (s.queues (lock l)) ≡ false
  -- wakeup is set only over an empty queue
  pub wakeups : (c : ℕ) → some (s.fields (wakeup c)) ≡ true → s.queues (condition c) ≡ []
