-- Computed examples: the lines of 01 and of its edges with their meanings. By computation. Assumes nothing.
use Rattle.std.specs.Prelude.{ℕ, ◌≡◌, refl, List, [], ◌∷◌, map}
use Prim.Native.String.{String}
use Rattle.model.specs.Text.{bytes_of}
use Rattle.model.specs.declared.Shape.{Shape}
use Rattle.model.specs.declared.Call.TheVariants.{Enter, Exit, Wait, Notify, Broadcast, Naked, Requeue, SetPriority, Tick, Abort, SetAbortable, Reenter}
use Rattle.script.specs.Line.{Meaning, meaning}
use Rattle.script.specs.Line.Meaning.{call, start, none}

-- P, L, C, K
abbrev shape : ℕ → ℕ → ℕ → ℕ → Shape
shape p l c k = record { processes = p; locks = l; conditions = c; parks = k }

-- a line with its meaning
abbrev Row : Type 0
Row = String × Meaning

-- each line of a table has its meaning
abbrev Holds : List Row → Type 0
Holds rows = map (λ (r : Row). meaning (bytes_of r.0)) rows ≡ map (λ (r : Row). r.1) rows

-- each call; leading zeros; the largest number; Start without bytes and with the largest byte
calls : Holds
    (("start 3 1 1 0 2 5 2", start (shape 3 1 1 0) (2 ∷ 5 ∷ 2 ∷ []))
    ∷ ("enter 1", call (Enter 1))
    ∷ ("exit 1", call (Exit 1))
    ∷ ("wait 1 2 3", call (Wait 1 2 (record { 0 = 3 })))
    ∷ ("notify 1", call (Notify 1))
    ∷ ("broadcast 2", call (Broadcast 2))
    ∷ ("naked 3", call (Naked 3))
    ∷ ("requeue 0 8 1023", call (Requeue 0 8 (record { 0 = 1023 })))
    ∷ ("setpriority 7", call (SetPriority (record { 0 = 7 })))
    ∷ ("tick", call Tick)
    ∷ ("abort 3", call (Abort (record { 0 = 3 })))
    ∷ ("setabortable 2 1", call (SetAbortable 2 1))
    ∷ ("reenter 1 2", call (Reenter 1 2))
    ∷ ("enter 0001", call (Enter 1))
    ∷ ("enter 0000000001", call (Enter 1))
    ∷ ("enter 65535", call (Enter 65535))
    ∷ ("start 3 1 1 0", start (shape 3 1 1 0) [])
    ∷ ("start 3 1 1 0 2 5 255", start (shape 3 1 1 0) (2 ∷ 5 ∷ 255 ∷ []))
    ∷ [])
calls = refl

-- no calls: an empty line, a number too large, spaces, a number too few or too many, upper case, a sign, tab, CR, a letter in a number, a longer name, a byte too large
no_calls : Holds
    (("", none)
    ∷ ("enter 65536", none)
    ∷ ("enter 99999999999999999999", none)
    ∷ ("enter  1", none)
    ∷ (" enter 1", none)
    ∷ ("enter 1 ", none)
    ∷ ("enter", none)
    ∷ ("enter 1 2", none)
    ∷ ("Enter 1", none)
    ∷ ("enter +1", none)
    ∷ ("enter -1", none)
    ∷ ("enter\t1", none)
    ∷ ("enter 1\r", none)
    ∷ ("enter 1a", none)
    ∷ ("entering 1", none)
    ∷ ("tick ", none)
    ∷ ("tick 0", none)
    ∷ ("wait 1 1", none)
    ∷ ("abort", none)
    ∷ ("abort 1 1", none)
    ∷ ("setabortable 1", none)
    ∷ ("set abortable 1 1", none)
    ∷ ("reenter 1", none)
    ∷ ("reenter 1 1 1", none)
    ∷ ("wait 1 1 0 0", none)
    ∷ ("start 3 1 1", none)
    ∷ ("start 3 1 1 0 2 5 256", none)
    ∷ ("start 3 1 1 0 2 5 2 ", none)
    ∷ ("=", none)
    ∷ ("?", none)
    ∷ [])
no_calls = refl
