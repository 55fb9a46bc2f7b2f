-- The numbers of the words passed stand in the table, and those of the words that are left follow them; each takes a byte at least, and the measure is what is left of the line. Assumes nothing.
use Prim.Native.Nat.{◌+◌, ◌≤◌}
use mathlib.Core.Path.{◌≡◌}
use mathlib.Core.List.{◌++◌}
use lib.ListN.{length, take, drop}
use Rattle.words.specs.Words.{within}
use Rattle.words.specs.Read.{after}
use Rattle.words.proofs.numbers.Given as goal

abbrev pub invariant-loop-words : goal.invariant-loop-words
invariant-loop-words l = record { room : l.count + length l.rest ≤ length l.line; stands : after (drop l.from l.line) ≡ take l.count l.table ++ after l.rest; within : within 65535 (after (drop l.from l.line)) ≡ within 65535 (after l.rest) }

abbrev pub decreases-loop-words : goal.decreases-loop-words
decreases-loop-words l = length l.rest
