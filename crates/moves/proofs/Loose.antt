-- Areas in the midst of a wake of many: where they come from, what a changed ring and a woken process leave of them, and the state that they
-- hold once each process stands in a queue again. Assumes nothing.
use Prim.Native.Nat.{ℕ, ◌≤◌}
use native.Mathlib.Omega.{arith}
use mathlib.Core.Path.{◌≡◌, refl, sym, ap, ◌∙◌}
use mathlib.Core.Bool.{true, false, true≢false}
use mathlib.Core.List.{List}
use lib.ListN.{length, drop, length-drop}
use Rattle.model.specs.declared.Shape.{Shape}
use Rattle.model.specs.Queue.{Queue, inside, bit, is_condition, member, Falling}
use Rattle.model.specs.Field.{Field, Fields, put, priorities}
use Rattle.model.specs.Machine as machine
use Rattle.model.specs.Machine.{State, model}
use Rattle.model.specs.Valid.{Placed}
use Rattle.model.proofs.Tests.{holds, fails, SameCase, same_case, EqCase, eqb_case, PutCase, put_case}
use Rattle.model.proofs.Places.{stands_at, waiting_is}
use Rattle.links.specs.Link as link
use Rattle.ring.proofs.Rings.{ring_same}
use Rattle.area.specs.Layout.{Part, Parts, alter, records_at, size, has, home, Stored}
use Rattle.area.specs.Layout.Part.{kept, tail, next, locked, waiting}
use Rattle.area.specs.State.{last, queues, next_in, laid}
use Rattle.area.specs.Holds.{Holds, Becomes}
use Rattle.area.specs.Rings.{records, Rings, swap, Relinked}
use Rattle.area.specs.Loose.{Loose}
use Rattle.area.proofs.Stores.{alter_here, alter_away, image_ext}
use Rattle.area.proofs.Rings.{ring_ext, member_inside, one_queue, home_queue, rings_laid}
use Rattle.area.proofs.Records.{next_said, queue_ring}

-- a state's rings
pub rings_of : {n : Shape} {ws : List ℕ} {s : State model} → Holds n ws s → Rings n ws (laid n s) s.queues
rings_of {n} {s} H = record {
  image = H.image;
  tails = λ q h. refl;
  rings = queue_ring H;
  own = λ q x m. member_inside n s H.placed x q m;
  one = λ q r x m k. one_queue n s H.placed x q r m k;
}

-- a change beyond tails and nexts keeps the rings
pub rings_stored : {n : Shape} {old new : List ℕ} {t : Parts} {qs : Queue → List ℕ} (u : Parts) → Rings n old t qs → Stored n old new u
    → ((q : Queue) → u (tail q) ≡ t (tail q)) → ((p : ℕ) → u (next p) ≡ t (next p)) → Rings n new u qs
rings_stored {n} {old} {new} {t} {qs} u R st same-tail same_next = record {
  image = st.image;
  tails = λ q h. same-tail q ∙ R.tails q h;
  rings = λ q h. ring_same (records n old) (records n new) (last (qs q)) (qs q) same_length
      (λ x m. next_said n new u st.image x (R.own q x m) ∙ same_next x ∙ sym (next_said n old t R.image x (R.own q x m))) (R.rings q h);
  own = R.own;
  one = R.one;
}
  where
    same_length : length (records n old) ≤ length (records n new)
    same_length =
        let a = length-drop (size n) old in
        let b = length-drop (size n) new in
        let c : length (drop (size n) new) ≡ length (drop (size n) old) = ap length st.beyond in
        let d = R.image.long in
        let e = st.image.long in
        let f = length-drop (records_at n) old in
        let g = length-drop (records_at n) new in
        omega arith

-- ---- a state's area

-- who stands in a queue of a state waits there, or does not
pub waits_in : (n : Shape) (s : State model) (P : Placed n s) (q : Queue) (x : ℕ) → member x (s.queues q) ≡ true → machine.waiting n s.queues x ≡ is_condition q
waits_in n s P q x m =
    let k = stands_at n.processes s.queues P.place P.once x q m in
    waiting_is n s.queues P.place P.once x (P.real x) ∙ rw (k.0, k.1)

abbrev pub loose_of : {n : Shape} {ws : List ℕ} {s : State model} → Holds n ws s → Loose n ws ws s.fields s.queues
loose_of {n} {s = s} H = record {
  parts = laid n s;
  rings = rings_of H;
  fields = λ x. refl;
  locks = λ l. refl;
  waits = λ q x m. ap bit (waits_in n s H.placed q x m);
  falls = H.placed.falls;
  beyond = refl;
}

-- a ring has become another list
module _ {n : Shape} {old mid : List ℕ} {f : Fields} {qs : Queue → List ℕ} (q : Queue) (xs : List ℕ) (L : Loose n old mid f qs)
    (w : (x : ℕ) → member x xs ≡ true → L.parts (waiting x) ≡ bit (is_condition q)) (h : Falling (priorities f) xs) where
  pub relinked_waits : (o : Queue) (x : ℕ) → member x (swap qs q xs o) ≡ true → SameCase q o → L.parts (waiting x) ≡ bit (is_condition o)
  relinked_waits o x m (holds e z) = w x (rw z at m) ∙ ap (λ (y : Queue). bit (is_condition y)) e
  relinked_waits o x m (fails e z) = L.waits o x (rw z at m)

  pub relinked_falls : (o : Queue) → SameCase q o → Falling (priorities f) (swap qs q xs o)
  relinked_falls o (holds e z) = rw z h
  relinked_falls o (fails e z) = rw z (L.falls o)

  abbrev pub loose_relinked : {new : List ℕ} → Relinked n mid new L.parts qs q xs → Loose n old new f (swap qs q xs)
  loose_relinked R = record {
    parts = R.parts;
    rings = R.rings;
    fields = λ x. R.others (kept x) refl ∙ L.fields x;
    locks = λ l. R.others (locked l) refl ∙ L.locks l;
    waits = λ o x m. R.others (waiting x) refl ∙ relinked_waits o x m (same_case q o);
    falls = λ o. relinked_falls o (same_case q o);
    beyond = R.stored.beyond ∙ L.beyond;
  }

-- the fields that the parts say when one of them has taken a value
pub alter_fields : (g : Field) (v : ℕ) (t : Parts) (f : Fields) → ((x : Field) → t (kept x) ≡ f x) → (x : Field) → alter (kept g) v t (kept x) ≡ put g v f x
alter_fields g v t f e x = go (put_case g x)
  where
    go : PutCase g x → alter (kept g) v t (kept x) ≡ put g v f x
    go (holds d z) = rw (z, ← d) (alter_here (kept g) v t)
    go (fails d z) = rw z (alter_away (kept g) (kept x) v t (λ k. d (cc)) ∙ e x)

-- fields take values, and no other part but p's waiting bit, where p stands in no queue: t are the parts that say the fields g, and w is that bit
module _ {n : Shape} {old mid : List ℕ} {f : Fields} {qs : Queue → List ℕ} (t : Parts) (g : Fields) (p w : ℕ) (L : Loose n old mid f qs)
    (said : (x : Field) → t (kept x) ≡ g x) (tails : (q : Queue) → t (tail q) ≡ L.parts (tail q)) (nexts : (x : ℕ) → t (next x) ≡ L.parts (next x))
    (locks : (l : ℕ) → t (locked l) ≡ bit (machine.locked g l)) (waits : (x : ℕ) → t (waiting x) ≡ L.parts (waiting x))
    (out : (q : Queue) → member p (qs q) ≡ false) (h : (q : Queue) → Falling (priorities g) (qs q)) where
  abbrev pub written : Parts
  written = alter (waiting p) w t

  pub written_waits : (q : Queue) (x : ℕ) → member x (qs q) ≡ true → EqCase p x → written (waiting x) ≡ bit (is_condition q)
  written_waits q x m (holds e z) = absurd (true≢false (sym m ∙ rw (← e) (out q)))
  written_waits q x m (fails e z) = alter_away (waiting p) (waiting x) w t (λ d. e (cc)) ∙ waits x ∙ L.waits q x m

  abbrev pub loose_written : {new : List ℕ} → Stored n mid new written → Loose n old new g qs
  loose_written st = record {
    parts = written;
    rings = rings_stored written L.rings st tails nexts;
    fields = said;
    locks = locks;
    waits = λ q x m. written_waits q x m (eqb_case p x);
    falls = h;
    beyond = st.beyond ∙ L.beyond;
  }

-- each process stands in a queue: the words are those of the state
pub settled : {n : Shape} {old new : List ℕ} (s : State model) → Placed n s → Loose n old new s.fields s.queues → Becomes n old new s
settled {n} {old} {new} s P L = record {
  holds = record { placed = P; image = image_ext n new L.parts (laid n s) L.rings.image parts_are };
  beyond = L.beyond;
}
  where
    nexts_are : (x : ℕ) → inside n.processes x ≡ true → L.parts (next x) ≡ next_in s.queues (queues n) x
    nexts_are = rings_laid n s P (λ x. L.parts (next x))
        (λ q h. ring_ext (link.next (records n new)) (λ x. L.parts (next x)) (s.queues q) (λ x k. next_said n new L.parts L.rings.image x (L.rings.own q x k)) (L.rings.rings q h).linked)

    waits_are : (x : ℕ) → inside n.processes x ≡ true → L.parts (waiting x) ≡ bit (machine.waiting n s.queues x)
    waits_are x i = let m = home_queue n s P x i in L.waits (P.place x) x m ∙ ap bit (sym (waits_in n s P (P.place x) x m))

    parts_are : (f : Part) → has n (home f) ≡ true → L.parts f ≡ laid n s f
    parts_are (kept f) h = L.fields f
    parts_are (tail q) h = L.rings.tails q h
    parts_are (next x) h = nexts_are x h
    parts_are (locked l) h = L.locks l
    parts_are (waiting x) h = waits_are x h
