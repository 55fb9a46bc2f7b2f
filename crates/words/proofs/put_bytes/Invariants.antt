-- The numbers before `i` are bytes and stand in the buffer. Assumes nothing.
use mathlib.Core.Path.{◌≡◌}
use lib.ListN.{take, drop}
use Rattle.words.specs.Words.{within}
use Rattle.words.proofs.put_bytes.Given as goal

abbrev pub invariant-loop-i : goal.invariant-loop-i
invariant-loop-i l = record { copied : take l.i l.bytes ≡ take l.i l.numbers; within : within 255 l.numbers ≡ within 255 (drop l.i l.numbers) }
