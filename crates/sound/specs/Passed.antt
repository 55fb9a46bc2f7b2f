-- The queues of a kind as the check passes them: for each its words, then its ring; and those of all kinds. Assumes nothing.
use Rattle.std.specs.Prelude.{ℕ, zero, suc, ◌+◌, ◌/◌, cond, List, [], Option, None, Some, get_or, drop}
use Rattle.model.specs.declared.Shape.{Shape}
use Rattle.area.specs.Layout.{locks_at, conditions_at}
use Rattle.area.specs.Rings.{records}
use Rattle.heads.specs.Heads.{heading, head_at, holder_in}
use Rattle.members.specs.Walk.{ringed}

-- a queue of kind k whose words stand at a: its words in hs, and then its ring in the records rs
unfoldable pub queued : List ℕ → List ℕ → ℕ → ℕ → ℕ → List ℕ → Option (List ℕ)
queued hs rs P k a js =
    cond (heading P k (get_or hs a 0) (holder_in hs k a))
    (ringed rs P k (holder_in hs k a / 8) (get_or hs a 0 / 8) js) None

-- one check after the other
abbrev pub then : Option (List ℕ) → (List ℕ → Option (List ℕ)) → Option (List ℕ)
then None f = None
then (Some js) f = f js

-- the first m queues of kind k, in their order
unfoldable pub passed : List ℕ → List ℕ → ℕ → ℕ → ℕ → List ℕ → Option (List ℕ)
passed hs rs P k zero js = Some js
passed hs rs P k (suc m) js = then (passed hs rs P k m js) (queued hs rs P k (head_at k m))

-- the queues of an area with the counts n: ready and the parks, the conditions, the locks
abbrev pub all_passed : Shape → List ℕ → Option (List ℕ)
all_passed n ws =
    then
    (then (passed (drop 5 ws) (records n ws) n.processes 0 (1 + n.parks) []) (passed (drop (conditions_at n) ws) (records n ws) n.processes 2 n.conditions))
    (passed (drop (locks_at n) ws) (records n ws) n.processes 1 n.locks)
