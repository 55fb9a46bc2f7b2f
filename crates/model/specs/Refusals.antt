-- Why a call is refused: the code of each reason, and what is told of a call that may be refused. Assumes nothing.
use Rattle.std.specs.Prelude.{ℕ, Result, Ok, Err}
use Rattle.model.specs.declared.Answer.{Answer}
use Rattle.model.specs.declared.Report.{Report}
use Rattle.model.specs.declared.Refusal.{Refusal}
use Rattle.model.specs.declared.Refusal.TheVariants.{Unsound, BadCount, BadList, BadPriority, Short, Nobody, NoSuch, Held, NotHeld, NotThere}
use Rattle.model.specs.Machine.{refusal}

-- the code of a refusal
abbrev pub code_of : Refusal → ℕ
code_of Unsound = 1
code_of BadCount = 2
code_of BadList = 3
code_of BadPriority = 4
code_of Short = 5
code_of Nobody = 6
code_of NoSuch = 7
code_of Held = 8
code_of NotHeld = 9
code_of NotThere = 10

-- the code by which a test refuses, 0 where it lets the call go on
abbrev pub code_in : {T : Type 0} → Result T Refusal → ℕ
code_in (Ok x) = 0
code_in (Err why) = code_of why

-- what is told of a call: its answer or, where it is refused, the code and zeros
abbrev pub answer_in : Result Answer Refusal → Answer
answer_in (Ok a) = a
answer_in (Err why) = refusal (code_of why)

-- what is told of a read into a buffer: how much it wrote there or, where it is refused, the code and 0
abbrev pub report_in : Result ℕ Refusal → Report
report_in (Ok n) = record { code = 0; count = n }
report_in (Err why) = record { code = code_of why; count = 0 }
