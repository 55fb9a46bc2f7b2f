-- The words of a queue, by the tests that the code has, in its order. A kind of queues is a number: 0 ready and the parks, 1 the locks,
-- 2 the conditions. Assumes nothing.
use Rattle.std.specs.Prelude.{ℕ, ◌+◌, ◌-◌, ◌*◌, ◌/◌, ◌%◌, Bool, ◌&&◌, ◌||◌, cond, List, eqb, leb, get_or}

-- a condition's word but for abortable, which goes by nothing
abbrev pub bare : ℕ → ℕ
bare w = w - w / 2 % 2 * 2

-- the word of a queue of kind k has no tail and no bit but abortable
unfoldable pub is_vacant : ℕ → ℕ → Bool
is_vacant k w = cond (eqb k 2) (eqb (bare w) 0) (eqb w 0)

-- the words of a queue of kind k are in order: w has the tail, v the holder, 0 where there is none
unfoldable pub heading : ℕ → ℕ → ℕ → ℕ → Bool
heading P k w v =
    leb (w / 8) P && (leb (v / 8) P && (eqb (v % 8) 0
    && cond (eqb v 0) (cond (eqb k 2) (eqb (bare w) 1 || eqb (bare w % 8) 0) (eqb (w % 8) 0)) (eqb (w % 8) 1)))

-- where the words of queue i of kind k, from 0, stand among the words of the kind: a lock has two
unfoldable pub head_at : ℕ → ℕ → ℕ
head_at k i = cond (eqb k 1) (i * 2) i

-- the holder's word of a queue of kind k whose words stand at a of hs, 0 where it has none
unfoldable pub holder_in : List ℕ → ℕ → ℕ → ℕ
holder_in hs k a = cond (eqb k 1) (get_or hs (a + 1) 0) 0
