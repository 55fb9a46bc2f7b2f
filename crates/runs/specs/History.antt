-- Demand 3 on areas: what holds after an accepted Start and any list of the twelve calls, refused ones among them. Assumes nothing.
use Rattle.std.specs.Prelude.{ℕ, ◌+◌, ◌≡◌, ◌≢◌, ◌↔◌, true, List, [], map}
use Rattle.model.specs.declared.Shape.{Shape}
use Rattle.model.specs.declared.Call.{Call}
use Rattle.model.specs.declared.Answer.{Answer}
use Rattle.model.specs.Queue.{Queue, inside, any_of, bit, same, exists, count, first, All}
use Rattle.model.specs.Queue.Queue.{ready, condition}
use Rattle.model.specs.Field.{Field, priorities}
use Rattle.model.specs.Field.Field.{running}
use Rattle.model.specs.Machine as machine
use Rattle.model.specs.Machine.{start}
use Rattle.model.specs.Ledger.{ledger, reading, lies}
use Rattle.model.specs.Run.{Run}
use Rattle.model.specs.History.{is_entry, is_leaving, tally, end, replies}
use Rattle.area.specs.Layout.Part.{locked, waiting}
use Rattle.area.specs.Reading.{shape_of, parts_of, state_of}
use Rattle.area.specs.Sound.{Sound}

-- Start's answer, the answers rs to the calls cs and the area ws after them, against the arrival ledger that was fed the same
pub record Ends (n : Shape) (bytes : List ℕ) (started : Answer) (cs : List Call) (rs : List Answer) (ws : List ℕ) : Type 0 where
  -- no call is refused as unsound, and the area is sound
  pub never_unsound : All (λ (a : Answer). a.code ≢ 1) rs
  pub sound : Sound ws
  pub counts : shape_of ws ≡ n
  -- every answer, queue and field is the ledger's
  pub begins : started ≡ (start ledger n bytes).1
  pub answers : rs ≡ replies ledger n bytes cs
  pub queues : (q : Queue) → (state_of ws).queues q ≡ reading (priorities (end ledger n bytes cs).fields) (end ledger n bytes cs).queues q
  pub fields : (f : Field) → (state_of ws).fields f ≡ (end ledger n bytes cs).fields f
  -- locked and waiting are set as the ledger has them
  pub locks : (l : ℕ) → parts_of n ws (locked l) ≡ bit (machine.locked (end ledger n bytes cs).fields l)
  pub waits : (p : ℕ) → parts_of n ws (waiting p) ≡ bit (any_of n.conditions (λ c. lies (end ledger n bytes cs).queues p (condition c)))
  -- each process stands in one queue, once; and a number stands where its newest note says, and nowhere if it has none
  pub one_queue : (p : ℕ) → inside n.processes p ≡ true → (q : Queue) × (exists n q ≡ true) × ((r : Queue) → count p ((state_of ws).queues r) ≡ bit (same q r))
  pub as_noted : (p : ℕ) (q : Queue) → count p ((state_of ws).queues q) ≡ bit (lies (end ledger n bytes cs).queues p q)
  -- running is the first of ready, or none exactly when ready is empty
  pub running_first : (state_of ws).fields running ≡ first ((state_of ws).queues ready)
  pub running_none : ((state_of ws).fields running ≡ 0) ↔ ((state_of ws).queues ready ≡ [])
  -- for each lock entries minus leavings is 0 or 1, and 1 exactly when it is locked
  pub entries : (l : ℕ) → tally (is_entry l) cs rs ≡ tally (is_leaving l) cs rs + parts_of n ws (locked l)

-- demand 3 of a kernel whose Start promises `Begun`, whose calls promise `Promised`, and whose answers are read by `read`: from an accepted
-- Start, over every list of the calls, whatever their numbers
pub record Demand3 {A : Type 0} (read : A → Answer) (Begun : Shape → List ℕ → List ℕ → List ℕ → A → Type 0) (Promised : Call → List ℕ → List ℕ → A → Type 0) : Type 0 where
  pub ends : {n : Shape} {bytes old begun new : List ℕ} {a : A} {cs : List Call} {rs : List A}
      → Begun n bytes old begun a → (read a).code ≡ 0 → Run Promised cs begun new rs → Ends n bytes (read a) cs (map read rs) new
