-- Queues of processes, and the move of a process from one to another. Assumes nothing.
use Rattle.std.specs.Prelude.{ℕ, zero, suc, ◌+◌, ◌≤◌, Bool, true, false, not, ◌||◌, cond, List, [], ◌∷◌, ◌++◌, eqb, leb, ltb}
use Rattle.std.proofs.Math.Decide.{ℕ_discrete}
use Rattle.model.specs.declared.Shape.{Shape}

-- ---- numbers

-- processes, locks, conditions and parks are numbered from 1: i is none of n
abbrev pub outside : ℕ → ℕ → Bool
outside n i = eqb i 0 || ltb n i

-- i is one of n
abbrev pub inside : ℕ → ℕ → Bool
inside n i = not (outside n i)

-- 1 to n
abbrev pub up_to : ℕ → List ℕ
up_to zero = []
up_to (suc n) = up_to n ++ (suc n ∷ [])

-- whether one of 1 to n passes a test
abbrev pub any_of : ℕ → (ℕ → Bool) → Bool
any_of zero t = false
any_of (suc n) t = t (suc n) || any_of n t

-- 1 for yes, 0 for no
abbrev pub bit : Bool → ℕ
bit true = 1
bit false = 0

-- ---- queues

-- where a process can lie
pub data Queue : Type 0 where
  ready : Queue
  park lock condition : ℕ → Queue
  deriving Discrete as Queue-discrete

-- whether a decision is yes
abbrev pub decided : {A : Type 0} → Dec A → Bool
decided (yes h) = true
decided (no h) = false

-- a function changed at x to v
abbrev pub changed : {A : Type 0} → Discrete A → A → ℕ → (A → ℕ) → A → ℕ
changed d x v f y = cond (decided (d x y)) v (f y)

-- whether two queues are the same
abbrev pub same : Queue → Queue → Bool
same q r = decided (Queue-discrete ℕ_discrete q r)

-- whether the counts give this queue
abbrev pub exists : Shape → Queue → Bool
exists n ready = true
exists n (park k) = inside n.parks k
exists n (lock l) = inside n.locks l
exists n (condition c) = inside n.conditions c

-- whether it is a condition's
abbrev pub is_condition : Queue → Bool
is_condition ready = false
is_condition (park k) = false
is_condition (lock l) = false
is_condition (condition c) = true

-- ---- kinds and numbers, as List has them

-- the kind of a queue
abbrev pub kind_of : Queue → ℕ
kind_of ready = 0
kind_of (park k) = 1
kind_of (lock l) = 2
kind_of (condition c) = 3

-- its number; ready has none
abbrev pub number_of : Queue → ℕ
number_of ready = 0
number_of (park k) = k
number_of (lock l) = l
number_of (condition c) = c

-- the queue of a kind and a number
abbrev pub queue_by : ℕ → ℕ → Queue
queue_by zero i = ready
queue_by (suc zero) i = park i
queue_by (suc (suc zero)) i = lock i
queue_by (suc (suc (suc k))) i = condition i

-- whether there is such a queue; ready has the number 0
abbrev pub is_queue : Shape → ℕ → ℕ → Bool
is_queue n zero i = eqb i 0
is_queue n (suc zero) i = exists n (park i)
is_queue n (suc (suc zero)) i = exists n (lock i)
is_queue n (suc (suc (suc zero))) i = exists n (condition i)
is_queue n (suc (suc (suc (suc k)))) i = false

-- ---- lists, most of them of processes

-- whether p is among them
abbrev pub member : ℕ → List ℕ → Bool
member p [] = false
member p (x ∷ xs) = eqb x p || member p xs

-- how often p is among them
abbrev pub count : ℕ → List ℕ → ℕ
count p [] = 0
count p (x ∷ xs) = bit (eqb x p) + count p xs

-- T holds of each
abbrev pub All : {A : Type 0} → (A → Type 0) → List A → Type 0
All T [] = Unit {0}
All T (x ∷ xs) = T x × All T xs

-- from the first on they never rise in priority
abbrev pub Falling : (ℕ → ℕ) → List ℕ → Type 0
Falling pr [] = Unit {0}
Falling pr (x ∷ xs) = All (λ y. pr y ≤ pr x) xs × Falling pr xs

-- the first, 0 if there is none
abbrev pub first : List ℕ → ℕ
first [] = 0
first (x ∷ xs) = x

-- the first alone, if there is one
abbrev pub first_only : List ℕ → List ℕ
first_only [] = []
first_only (x ∷ xs) = x ∷ []

-- those ahead of the first that fails a test
abbrev pub take_while : (ℕ → Bool) → List ℕ → List ℕ
take_while t [] = []
take_while t (x ∷ xs) = cond (t x) (x ∷ take_while t xs) []

-- those ahead of p
abbrev pub ahead_of : ℕ → List ℕ → List ℕ
ahead_of p xs = take_while (λ x. not (eqb x p)) xs

-- those that pass a test
abbrev pub filter : (ℕ → Bool) → List ℕ → List ℕ
filter t [] = []
filter t (x ∷ xs) = cond (t x) (x ∷ filter t xs) (filter t xs)

-- ---- moves

-- p leaves
abbrev pub remove : ℕ → List ℕ → List ℕ
remove p [] = []
remove p (x ∷ xs) = cond (eqb x p) (remove p xs) (x ∷ remove p xs)

-- p joins behind every process of equal or higher priority
abbrev pub insert : (ℕ → ℕ) → ℕ → List ℕ → List ℕ
insert pr p [] = p ∷ []
insert pr p (x ∷ xs) = cond (leb (pr p) (pr x)) (x ∷ insert pr p xs) (p ∷ x ∷ xs)

-- ps join, one after the other
abbrev pub joined : (ℕ → ℕ) → List ℕ → List ℕ → List ℕ
joined pr [] xs = xs
joined pr (p ∷ ps) xs = joined pr ps (insert pr p xs)

-- what queue r holds when p has left its queue and joined q
abbrev pub move : (ℕ → ℕ) → (Queue → List ℕ) → ℕ → Queue → Queue → List ℕ
move pr qs p q r = cond (same q r) (insert pr p (remove p (qs r))) (remove p (qs r))

-- a move, and a note of the arrival ledger: a process and the queue that it goes to
abbrev pub Note : Type 0
Note = ℕ × Queue

-- each of them moves to ready, in this order
abbrev pub to_ready : List ℕ → List Note
to_ready [] = []
to_ready (p ∷ ps) = (p, ready) ∷ to_ready ps
