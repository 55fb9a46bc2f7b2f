-- No wake is slept through: what is read back out of a read of the timers, and out of each call, keeps its promise, and what follows from the
-- promises on areas follows for the exports. Assumes nothing.
use Prim.Native.Nat.{ℕ}
use mathlib.Core.List.{List, map}
use Rattle.model.specs.declared.Call.{Call}
use Rattle.monitor.specs.Calls.{Performs}
use Rattle.wire.specs.Wire.{answer_of}
use Rattle.model.specs.Run.{Run}
use Rattle.model.specs.Run.Run.{none, then}
use Rattle.runs.specs.Ticks.{WakesIn, Still, Undisturbed, SleepsFor}
use Rattle.runs.proofs.Ticks.{told_wakes, nearest_wakes, still_before, still_ever, wait_lasts}
use Rattle.kernel.specs.Exports.{Crosses}
use Rattle.demands.specs.Demands.{OnTime}
use Rattle.demands.proofs.Demands.{demand2, run_crossed}

-- what Ticks bring about as they are promised, they bring about when made from C
wakes_crossed : {ws : List ℕ} {p d : ℕ} → WakesIn Performs ws p d → WakesIn Crosses ws p d
wakes_crossed W = record { condition = W.condition; waits = λ h R. W.waits h (run_crossed R); wakes = λ R. W.wakes (run_crossed R) }

still_crossed : (ws : List ℕ) (k : ℕ) → Still Performs ws k → Still Crosses ws k
still_crossed ws k S new rs R = S new (map answer_of rs) (run_crossed R)

-- so does a run in which nobody else wakes p
run_undisturbed : {p : ℕ} {cs : List Call} {old new : List ℕ} {rs : List ℕ} → Run (Undisturbed Crosses p) cs old new rs → Run (Undisturbed Performs p) cs old new (map answer_of rs)
run_undisturbed none = none
run_undisturbed (then U R) = then (record { kept = demand2.call U.kept; asleep = U.asleep }) (run_undisturbed R)

sleeps_crossed : {ws : List ℕ} {p c t : ℕ} → SleepsFor Performs ws p c t → SleepsFor Crosses ws p c t
sleeps_crossed S = record { waits = λ R h. S.waits (run_undisturbed R) h; wakes = λ R e C. S.wakes (run_undisturbed R) e (demand2.call C) }

pub on_time : OnTime
on_time = record {
  due = λ k D h. wakes_crossed (told_wakes k (demand2.due k D) h);
  nearest = λ N o. wakes_crossed (nearest_wakes (demand2.nearest N) o);
  before = λ {ws} {r} {k} N h. still_crossed ws k (still_before (demand2.nearest N) h);
  never = λ {ws} k N z o. still_crossed ws k (still_ever (demand2.nearest N) k z o);
  wait = λ C m low high. sleeps_crossed (wait_lasts (demand2.call C) m low high);
}
