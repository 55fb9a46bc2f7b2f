-- Which lines are calls, and which call each is: a line is a list of bytes, without its newline. Assumes nothing.
use Rattle.std.specs.Prelude.{ℕ, cond, List, [], ◌∷◌, Option, Some, None, map, leb, length}
use Rattle.model.specs.Text.{bytes_of}
use Rattle.model.specs.declared.Shape.{Shape}
use Rattle.model.specs.declared.Call.{Call}
use Rattle.model.specs.declared.Call.TheVariants as calls
use Rattle.words.specs.Words.{fields, same, number, within}
use Rattle.script.specs.declared.Name.{Name}
use Rattle.script.specs.declared.Name.TheVariants.{Start, Enter, Exit, Wait, Notify, Broadcast, Naked, Requeue, SetPriority, Tick, Abort, SetAbortable, Reenter}

-- what a line is: one of the twelve calls, Start with its shape and its bytes, or neither
pub data Meaning : Type 0 where
  call : Call → Meaning
  start : Shape → List ℕ → Meaning
  none : Meaning

-- ---- names

-- the words that are names, in lower case, each with its name
abbrev pub names : List (List ℕ × Name)
names =
    (bytes_of "start", Start)
    ∷ (bytes_of "enter", Enter)
    ∷ (bytes_of "exit", Exit)
    ∷ (bytes_of "wait", Wait)
    ∷ (bytes_of "notify", Notify)
    ∷ (bytes_of "broadcast", Broadcast)
    ∷ (bytes_of "naked", Naked)
    ∷ (bytes_of "requeue", Requeue)
    ∷ (bytes_of "setpriority", SetPriority)
    ∷ (bytes_of "tick", Tick)
    ∷ (bytes_of "abort", Abort)
    ∷ (bytes_of "setabortable", SetAbortable)
    ∷ (bytes_of "reenter", Reenter)
    ∷ []

-- the name beside the first of these words that is w
abbrev pub beside : List ℕ → List (List ℕ × Name) → Option Name
beside w [] = None
beside w ((t, n) ∷ rows) = cond (same w t) (Some n) (beside w rows)

-- the name that a word is
abbrev pub name_of : List ℕ → Option Name
name_of w = beside w names

-- ---- calls

-- a call without a number, with one, with two, with three
abbrev pub alone : Call → List ℕ → Meaning
alone c [] = call c
alone c (x ∷ xs) = none

abbrev pub one : (ℕ → Call) → List ℕ → Meaning
one f [] = none
one f (x ∷ []) = call (f x)
one f (x ∷ y ∷ zs) = none

abbrev pub two : (ℕ → ℕ → Call) → List ℕ → Meaning
two f [] = none
two f (x ∷ []) = none
two f (x ∷ y ∷ []) = call (f x y)
two f (x ∷ y ∷ z ∷ zs) = none

abbrev pub three : (ℕ → ℕ → ℕ → Call) → List ℕ → Meaning
three f [] = none
three f (x ∷ []) = none
three f (x ∷ y ∷ []) = none
three f (x ∷ y ∷ z ∷ []) = call (f x y z)
three f (x ∷ y ∷ z ∷ u ∷ us) = none

-- Start: four numbers and then any number of bytes
abbrev pub started : List ℕ → Meaning
started [] = none
started (p ∷ []) = none
started (p ∷ l ∷ []) = none
started (p ∷ l ∷ c ∷ []) = none
started (p ∷ l ∷ c ∷ k ∷ bytes) = cond (within 255 bytes) (start (record { processes = p; locks = l; conditions = c; parks = k }) bytes) none

-- what a name says with its numbers
abbrev pub said : Name → List ℕ → Meaning
said Start ns = started ns
said Enter ns = one calls.Enter ns
said Exit ns = one calls.Exit ns
said Wait ns = three (λ l c t. calls.Wait l c (record { 0 = t })) ns
said Notify ns = one calls.Notify ns
said Broadcast ns = one calls.Broadcast ns
said Naked ns = one calls.Naked ns
said Requeue ns = three (λ s d p. calls.Requeue s d (record { 0 = p })) ns
said SetPriority ns = one (λ v. calls.SetPriority (record { 0 = v })) ns
said Tick ns = alone calls.Tick ns
said Abort ns = one (λ p. calls.Abort (record { 0 = p })) ns
said SetAbortable ns = two calls.SetAbortable ns
said Reenter ns = two calls.Reenter ns

-- what a word says with its numbers: nothing where it is no name
abbrev pub worded : Option Name → List ℕ → Meaning
worded (Some n) ns = said n ns
worded None ns = none

-- the first word is the name, and the others are its numbers, each at most 65,535
abbrev pub spoken : List (List ℕ) → Meaning
spoken [] = none
spoken (w ∷ ws) = cond (within 65535 (map number ws)) (worded (name_of w) (map number ws)) none

-- a line of at most 8,192 bytes means what its words say
abbrev pub meaning : List ℕ → Meaning
meaning line = cond (leb (length line) 8192) (spoken (fields line)) none
