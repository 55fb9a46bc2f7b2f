-- What Rehearse does with a line, and with lines one after the other: the area and what comes out. Assumes nothing.
use Rattle.std.specs.Prelude.{ℕ, ◌≡◌, List}
use Rattle.model.specs.Text.{bytes_of}
use Rattle.model.specs.declared.Answer.{Answer}
use Rattle.model.specs.Run.{Run}
use Rattle.start.specs.Start.{Starts}
use Rattle.monitor.specs.Calls.{Performs}
use Rattle.script.specs.Line.{Meaning, meaning}
use Rattle.script.specs.Line.Meaning.{call, start, none}
use Rattle.print.specs.Print.{printed}

-- a call and Start are performed, and their answer is printed; any other line prints ? and changes no word
abbrev pub Serves : Meaning → List ℕ → List ℕ → List ℕ → Type 0
Serves (call c) old new out = (a : Answer) × (Performs c old new a × (out ≡ printed a))
Serves (start n bytes) old new out = (a : Answer) × (Starts n bytes old new a × (out ≡ printed a))
Serves none old new out = (new ≡ old) × (out ≡ bytes_of "?\n")

-- lines served one after the other: from one area to another, with what each puts out
abbrev pub Played : List (List ℕ) → List ℕ → List ℕ → List (List ℕ) → Type 0
Played = Run (λ (line old new out : List ℕ). Serves (meaning line) old new out)
