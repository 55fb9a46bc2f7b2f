-- What the functions that read a line promise. Assumes nothing.
use Rattle.std.specs.Prelude.{ℕ, ◌≤◌, ◌≡◌, List, Option, Some, None, length, take}
use Rattle.script.specs.declared.Line.{Line}
use Rattle.script.specs.declared.Line.TheVariants as lines
use Rattle.script.specs.Line.{Meaning}
use Rattle.script.specs.Line.Meaning.{call, start, none}

-- an answer has this meaning: Start's bytes stand at the front of the buffer
abbrev pub Tells : Option Line → List ℕ → Meaning → Type 0
Tells (Some (lines.Call c)) bytes m = m ≡ call c
Tells (Some (lines.Start n count)) bytes m = (count ≤ length bytes) × (m ≡ start n (take count bytes))
Tells None bytes m = m ≡ none
