-- The area's layout: which word stands where, and of what it is made. Bit 0 is the most significant, so a part that ends in bit b counts
-- 2 ^ (15 - b). Assumes nothing.
use Rattle.std.specs.Prelude.{ℕ, zero, suc, ◌+◌, ◌-◌, ◌*◌, ◌≤◌, ◌<◌, ◌≡◌, Bool, true, List, [], ◌∷◌, ◌++◌, length, get_or, drop}
use Rattle.std.proofs.Math.Decide.{ℕ_discrete}
use Rattle.model.specs.declared.Shape.{Shape}
use Rattle.model.specs.Queue.{Queue, Queue-discrete, inside, exists, changed}
use Rattle.model.specs.Queue.Queue.{ready, park, lock, condition}
use Rattle.model.specs.Field.{Field, Field-discrete}
use Rattle.model.specs.Field.Field.{clock, running, priority, armed, timer, failed, abort, holder, wakeup, abortable}
use Rattle.model.specs.Rules.{counted}
use Rattle.area.specs.declared.places.Place.{Place}

-- ---- what the words are made of

-- the fields that a state keeps, and what the words say of its queues and holders besides
pub data Part : Type 0 where
  kept : Field → Part
  tail : Queue → Part
  next locked waiting : ℕ → Part
  deriving Discrete as Part-discrete

-- a number for each part
abbrev pub Parts : Type 0
Parts = Part → ℕ

-- the parts with one of them changed
abbrev pub alter : Part → ℕ → Parts → Parts
alter = changed (Part-discrete (Field-discrete ℕ_discrete) (Queue-discrete ℕ_discrete) ℕ_discrete)

-- ---- the words in the order in which they stand

-- a word, by what it holds
pub data Slot : Type 0 where
  Processes LocksConditions Parks Clock Running : Slot
  Tail : Queue → Slot
  Holder : ℕ → Slot
  Link Flags Timer : ℕ → Slot

-- f 1, then f 2, to f n
abbrev pub for_each : {A : Type 0} → ℕ → (ℕ → List A) → List A
for_each zero f = []
for_each (suc n) f = for_each n f ++ f (suc n)

-- six words; a word for each park, two for each lock, one for each condition; three for each process
unfoldable pub slots : Shape → List Slot
slots n =
    (Processes ∷ LocksConditions ∷ Parks ∷ Clock ∷ Running ∷ Tail ready ∷ [])
    ++ (for_each n.parks (λ k. Tail (park k) ∷ [])
    ++ (for_each n.locks (λ l. Tail (lock l) ∷ Holder l ∷ [])
    ++ (for_each n.conditions (λ c. Tail (condition c) ∷ [])
    ++ for_each n.processes (λ p. Link p ∷ Flags p ∷ Timer p ∷ []))))

-- the word at a slot
abbrev pub word : Shape → Parts → Slot → ℕ
word n t Processes = n.processes
word n t LocksConditions = n.locks * 256 + n.conditions
word n t Parks = n.parks * 4096
word n t Clock = t (kept clock)
word n t Running = t (kept running) * 8
word n t (Tail ready) = t (tail ready) * 8
word n t (Tail (park k)) = t (tail (park k)) * 8
word n t (Tail (lock l)) = t (tail (lock l)) * 8 + t (locked l)
word n t (Tail (condition c)) = t (tail (condition c)) * 8 + t (kept (abortable c)) * 2 + t (kept (wakeup c))
word n t (Holder l) = t (kept (holder l)) * 8
word n t (Link p) = t (kept (priority p)) * 8192 + t (next p) * 8 + t (kept (failed p)) * 4
word n t (Flags p) = t (kept (armed p)) * 4 + t (waiting p) * 2 + t (kept (abort p))
word n t (Timer p) = t (kept (timer p))

-- ---- addresses

-- where the locks, the conditions and the records begin, and how many words there are
abbrev pub locks_at : Shape → ℕ
locks_at n = 6 + n.parks

abbrev pub conditions_at : Shape → ℕ
conditions_at n = locks_at n + 2 * n.locks

abbrev pub records_at : Shape → ℕ
records_at n = conditions_at n + n.conditions

abbrev pub size : Shape → ℕ
size n = records_at n + 3 * n.processes

-- the address of a slot
abbrev pub at : Shape → Slot → ℕ
at n Processes = 0
at n LocksConditions = 1
at n Parks = 2
at n Clock = 3
at n Running = 4
at n (Tail ready) = 5
at n (Tail (park k)) = 6 + (k - 1)
at n (Tail (lock l)) = locks_at n + 2 * (l - 1)
at n (Tail (condition c)) = conditions_at n + (c - 1)
at n (Holder l) = locks_at n + 2 * (l - 1) + 1
at n (Link p) = records_at n + (p - 1) * 3
at n (Flags p) = records_at n + (p - 1) * 3 + 1
at n (Timer p) = records_at n + (p - 1) * 3 + 2

-- whether the counts give this slot
abbrev pub has : Shape → Slot → Bool
has n Processes = true
has n LocksConditions = true
has n Parks = true
has n Clock = true
has n Running = true
has n (Tail q) = exists n q
has n (Holder l) = inside n.locks l
has n (Link p) = inside n.processes p
has n (Flags p) = inside n.processes p
has n (Timer p) = inside n.processes p

-- ---- where a part stands in its word

-- the word that it is in
abbrev pub home : Part → Slot
home (kept clock) = Clock
home (kept running) = Running
home (kept (priority p)) = Link p
home (kept (armed p)) = Flags p
home (kept (timer p)) = Timer p
home (kept (failed p)) = Link p
home (kept (abort p)) = Flags p
home (kept (holder l)) = Holder l
home (kept (wakeup c)) = Tail (condition c)
home (kept (abortable c)) = Tail (condition c)
home (tail q) = Tail q
home (next p) = Link p
home (locked l) = Tail (lock l)
home (waiting p) = Flags p

-- how many values its bits have
abbrev pub span : Part → ℕ
span (kept clock) = 65536
span (kept running) = 1024
span (kept (priority p)) = 8
span (kept (armed p)) = 2
span (kept (timer p)) = 65536
span (kept (failed p)) = 2
span (kept (abort p)) = 2
span (kept (holder l)) = 1024
span (kept (wakeup c)) = 2
span (kept (abortable c)) = 2
span (tail q) = 1024
span (next p) = 1024
span (locked l) = 2
span (waiting p) = 2

-- by how much its word grows where it grows by one
abbrev pub unit : Part → ℕ
unit (kept clock) = 1
unit (kept running) = 8
unit (kept (priority p)) = 8192
unit (kept (armed p)) = 4
unit (kept (timer p)) = 1
unit (kept (failed p)) = 4
unit (kept (abort p)) = 1
unit (kept (holder l)) = 8
unit (kept (wakeup c)) = 1
unit (kept (abortable c)) = 2
unit (tail q) = 8
unit (next p) = 8
unit (locked l) = 1
unit (waiting p) = 2

-- a part that the counts give lies at this place: in this word, with this unit and this span
abbrev pub Lies : Shape → Part → Place → Type 0
Lies n f p = (has n (home f) ≡ true) × (p.at ≡ at n (home f)) × (p.unit ≡ unit f) × (p.span ≡ span f)

-- a bit of p's flags that counts so much
abbrev pub Flag : ℕ → Part → ℕ → Type 0
Flag p f u = (home f ≡ Flags p) × (unit f ≡ u) × (span f ≡ 2)

-- ---- an area

-- the words ws are an area of these counts with these parts
pub record Image (n : Shape) (ws : List ℕ) (t : Parts) : Type 0 where
  pub counts : counted n ≡ true
  pub long : size n ≤ length ws
  pub words : (a : Slot) → has n a ≡ true → get_or ws (at n a) 0 ≡ word n t a
  pub spans : (f : Part) → has n (home f) ≡ true → t f < span f

-- from one list of words to another that has these parts, with nothing changed beyond
pub record Stored (n : Shape) (old new : List ℕ) (t : Parts) : Type 0 where
  pub image : Image n new t
  pub beyond : drop (size n) new ≡ drop (size n) old
