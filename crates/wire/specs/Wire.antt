-- Answers as numbers: a list of fields in one number, w bits a field, the first lowest. Assumes nothing.
use Rattle.std.specs.Prelude.{ℕ, zero, suc, ◌+◌, ◌*◌, ◌/◌, ◌%◌, ◌^◌, ◌≡◌, List, [], ◌∷◌, length}
use Rattle.model.specs.declared.Answer.{Answer}
use Rattle.model.specs.declared.Report.{Report}
use Rattle.model.specs.Machine.{fields_of}
use Rattle.timers.specs.declared.Earliest.{Earliest}

-- the number that has w bits of each field, the first lowest
abbrev pub packed : ℕ → List ℕ → ℕ
packed w [] = 0
packed w (x ∷ xs) = x % 2 ^ w + 2 ^ w * packed w xs

-- the first k fields of w bits that a number has, the lowest first
unfoldable pub unpacked : ℕ → ℕ → ℕ → List ℕ
unpacked w zero r = []
unpacked w (suc k) r = r % 2 ^ w ∷ unpacked w k (r / 2 ^ w)

-- r is the number of these fields, and each comes back out of it
pub record Carries (w r : ℕ) (xs : List ℕ) : Type 0 where
  pub number : r ≡ packed w xs
  pub back : unpacked w (length xs) r ≡ xs

-- ---- what crosses

-- an answer's number: ten bits a field, code lowest
abbrev pub number_of : Answer → ℕ
number_of a = packed 10 (fields_of a)

-- a report's two
abbrev pub report_fields : Report → List ℕ
report_fields r = r.code ∷ r.count ∷ []

-- those of who is the nearest
abbrev pub nearest_fields : Earliest → List ℕ
nearest_fields a = a.code ∷ a.process ∷ a.left ∷ []

-- ---- what is read back

-- an answer: code in bits 0 to 9, running in 10 to 19, retry in 20 to 29, mark in 30 to 39, moved in 40 to 49, ahead in 50 to 59
abbrev pub answer_of : ℕ → Answer
answer_of r = record { code = r % 2 ^ 10; running = r / 2 ^ 10 % 2 ^ 10; retry = r / 2 ^ 20 % 2 ^ 10; mark = r / 2 ^ 30 % 2 ^ 10; moved = r / 2 ^ 40 % 2 ^ 10; ahead = r / 2 ^ 50 % 2 ^ 10 }

-- a report, w bits a field: code in the lowest w bits, count in the next
abbrev pub report_of : ℕ → ℕ → Report
report_of w r = record { code = r % 2 ^ w; count = r / 2 ^ w % 2 ^ w }

-- who is the nearest, twenty bits a field: code in bits 0 to 19, process in 20 to 39, ticks left in 40 to 59
abbrev pub nearest_of : ℕ → Earliest
nearest_of r = record { code = r % 2 ^ 20; process = r / 2 ^ 20 % 2 ^ 20; left = r / 2 ^ 40 % 2 ^ 20 }
