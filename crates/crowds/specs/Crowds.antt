-- What a wake of many promises: all leave their queue, or those of them who are due, and then each joins ready, one after the other. Between the two they stand in no queue. Assumes nothing.
use Rattle.std.specs.Prelude.{ℕ, zero, suc, ◌*◌, ◌≤◌, ◌≡◌, true, false, not, List, [], ◌∷◌, ◌++◌, set}
use Rattle.model.specs.declared.Shape.{Shape}
use Rattle.model.specs.Queue.{Queue, inside, up_to, member, count, insert, joined, filter}
use Rattle.model.specs.Queue.Queue.{ready, condition}
use Rattle.model.specs.Field.{Fields, priorities}
use Rattle.model.specs.Rules.{disarm, calm, rings}
use Rattle.model.specs.Machine.{State, model}
use Rattle.links.specs.Link as link
use Rattle.many.specs.Many.{Lasts}
use Rattle.area.specs.State.{last}
use Rattle.area.specs.Rings.{records, swap}
use Rattle.area.specs.Loose.{Loose}

-- ---- leaving

-- all have left q, t was the last of them, and no record has changed
pub record Emptied (n : Shape) (old new : List ℕ) (s : State model) (q : Queue) (t : ℕ) : Type 0 where
  pub tail : t ≡ last (s.queues q)
  pub loose : Loose n old new s.fields (swap s.queues q [])
  pub same : records n new ≡ records n old

-- the queues when those whose timer rings at this time have left q
abbrev pub swept : Fields → ℕ → (Queue → List ℕ) → Queue → Queue → List ℕ
swept f time qs q = swap qs q (filter (λ x. not (rings f time x)) (qs q))

-- the queues when it is so of conditions 1 to k
abbrev pub staying : Fields → ℕ → ℕ → (Queue → List ℕ) → Queue → List ℕ
staying f time zero qs = qs
staying f time (suc k) qs = swept f time (staying f time k qs) (condition (suc k))

-- ---- joining

-- the area with this front, but that t is the tail of ready, and these records behind it
abbrev pub fronted : List ℕ → ℕ → List ℕ → List ℕ
fronted front t r = set front 5 (t * 8) ++ r

-- p stands in no queue and is to wake, and the last of each priority in ready is noted
pub record Rises (n : Shape) (ws lasts : List ℕ) (p : ℕ) : Type 0 where
  pub old : List ℕ
  pub fields : Fields
  pub queues : Queue → List ℕ
  pub loose : Loose n old ws fields queues
  pub process : inside n.processes p ≡ true
  pub out : (q : Queue) → member p (queues q) ≡ false
  pub noted : Lasts (priorities fields) (queues ready) lasts

-- p has woken: it is no longer armed, its timer is 0, it has joined ready, it is noted, and the nexts of others stay
pub record Risen (n : Shape) (was new lasts : List ℕ) (p : ℕ) (old : List ℕ) (f : Fields) (qs : Queue → List ℕ) : Type 0 where
  pub loose : Loose n old new (disarm p f) (swap qs ready (insert (priorities f) p (qs ready)))
  pub noted : Lasts (priorities f) (insert (priorities f) p (qs ready)) lasts
  pub nexts : (x : ℕ) → inside n.processes x ≡ true → member x (p ∷ qs ready) ≡ false → link.next (records n new) x ≡ link.next (records n was) x

-- ps, no two of them the same, stand in no queue and are to wake
pub record Crowd (n : Shape) (ws ps : List ℕ) : Type 0 where
  pub old : List ℕ
  pub fields : Fields
  pub queues : Queue → List ℕ
  pub loose : Loose n old ws fields queues
  pub once : (p : ℕ) → count p ps ≤ 1
  pub process : (p : ℕ) → member p ps ≡ true → inside n.processes p ≡ true
  pub out : (p : ℕ) (q : Queue) → member p ps ≡ true → member p (queues q) ≡ false

-- they have woken, one after the other
abbrev pub Woken : (n : Shape) (ws ps : List ℕ) → Crowd n ws ps → List ℕ → Type 0
Woken n ws ps j new = Loose n j.old new (calm ps j.fields) (swap j.queues ready (joined (priorities j.fields) ps (j.queues ready)))

-- from a on, next by next, they are xs
abbrev pub Chain : (ℕ → ℕ) → ℕ → List ℕ → Type 0
Chain nx a [] = Unit {0}
Chain nx a (x ∷ xs) = (a ≡ x) × Chain nx (nx x) xs

-- those of 1 to k whose timer rings at this time
abbrev pub ringing : Fields → ℕ → ℕ → List ℕ
ringing f time k = filter (rings f time) (up_to k)
