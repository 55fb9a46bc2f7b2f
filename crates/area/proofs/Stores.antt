-- The store law: the word that a part's home takes when the part changes makes an area of the changed parts, and no other. A word goes by
-- the parts that it is home to and by nothing else, and no other slot has its address. Assumes nothing.
use Prim.Native.Nat.{ℕ, ◌+◌, ◌*◌, ◌/◌, ◌%◌, ◌^◌, ◌≤◌, ◌<◌}
use native.Mathlib.Decide.{ℕ_discrete}
use native.Mathlib.Omega.{arith}
use mathlib.Core.Path.{◌≡◌, refl, sym, ap, ◌∙◌, fun_ext}
use mathlib.Core.Bool.{true}
use mathlib.Core.List.{List}
use lib.ListN.{length, get_or, set, length-set}
use lib.Seq.{get_or-set_same, get_or-set_other, drop-set-lt}
use Rattle.model.specs.declared.Shape.{Shape}
use Rattle.model.specs.Queue.{Queue-discrete}
use Rattle.model.specs.Queue.Queue.{ready, park, lock, condition}
use Rattle.model.specs.Field.{Field-discrete}
use Rattle.model.specs.Field.Field.{clock, running, priority, armed, timer, failed, abort, holder, wakeup, abortable}
use Rattle.model.specs.Rules.{counted}
use Rattle.model.proofs.Tests.{decided_case, passes, stops}
use Rattle.area.specs.declared.places.Place.{Place}
use Rattle.area.specs.Layout.{Part, Parts, Part-discrete, alter, Slot, word, span, unit, home, size, at, has, Lies, Image, Stored}
use Rattle.area.specs.Layout.Part.{kept, tail, next, locked, waiting}
use Rattle.area.specs.Layout.Slot.{Processes, LocksConditions, Parks, Clock, Running, Tail, Holder, Link, Flags, Timer}
use Rattle.area.specs.Reading.{parts_of}
use Rattle.area.proofs.Addresses.{at_one, at_below}
use Rattle.area.proofs.Whole.{counts_in}

-- ---- one part changed

abbrev part≟ : Discrete Part
part≟ = Part-discrete (Field-discrete ℕ_discrete) (Queue-discrete ℕ_discrete) ℕ_discrete

pub alter_here : (f : Part) (x : ℕ) (t : Parts) → alter f x t f ≡ x
alter_here f x t = rw (passes (decided_case (part≟ f f)) (λ h. h refl))

pub alter_away : (f g : Part) (x : ℕ) (t : Parts) → (f ≡ g → ⊥) → alter f x t g ≡ t g
alter_away f g x t h = rw (stops (decided_case (part≟ f g)) h)

-- the value that it has changes nothing
pub alter_own : (f : Part) (x : ℕ) (t : Parts) → t f ≡ x → alter f x t ≡ t
alter_own f x t e = fun_ext (λ g. go g (part≟ f g))
  where
    go : (g : Part) → Dec (f ≡ g) → alter f x t g ≡ t g
    go g (yes q) = rw (← q) (alter_here f x t ∙ sym e)
    go g (no q) = alter_away f g x t q

-- ---- a word goes by the parts that it is home to

pub word_ext : (n : Shape) (s t : Parts) (a : Slot) → ((f : Part) → home f ≡ a → s f ≡ t f) → word n s a ≡ word n t a
word_ext n s t Processes h = refl
word_ext n s t LocksConditions h = refl
word_ext n s t Parks h = refl
word_ext n s t Clock h = h (kept clock) refl
word_ext n s t Running h = rw (h (kept running) refl)
word_ext n s t (Tail ready) h = rw (h (tail ready) refl)
word_ext n s t (Tail (park k)) h = rw (h (tail (park k)) refl)
word_ext n s t (Tail (lock l)) h = rw (h (tail (lock l)) refl, h (locked l) refl)
word_ext n s t (Tail (condition c)) h = rw (h (tail (condition c)) refl, h (kept (abortable c)) refl, h (kept (wakeup c)) refl)
word_ext n s t (Holder l) h = rw (h (kept (holder l)) refl)
word_ext n s t (Link p) h = rw (h (kept (priority p)) refl, h (next p) refl, h (kept (failed p)) refl)
word_ext n s t (Flags p) h = rw (h (kept (armed p)) refl, h (waiting p) refl, h (kept (abort p)) refl)
word_ext n s t (Timer p) h = h (kept (timer p)) refl

word_other : (n : Shape) (f : Part) (x : ℕ) (t : Parts) (a : Slot) → (home f ≡ a → ⊥) → word n (alter f x t) a ≡ word n t a
word_other n f x t a h = word_ext n (alter f x t) t a (λ g e. alter_away f g x t (λ q. h (ap home q ∙ e)))

-- where a part grows, its word grows by its unit
module _ (n : Shape) (t : Parts) (x : ℕ) where
  beside : (f g : Part) → (unit f ≡ unit g → ⊥) → alter f x t g ≡ t g
  beside f g h = alter_away f g x t (λ e. h (ap unit e))

  word_alter : (f : Part) → word n (alter f x t) (home f) + t f * unit f ≡ word n t (home f) + x * unit f
  word_alter (kept clock) = rw (alter_here (kept clock) x t) (omega arith)
  word_alter (kept running) = rw (alter_here (kept running) x t) (omega arith)
  word_alter (kept (priority p)) = rw (alter_here (kept (priority p)) x t, beside (kept (priority p)) (kept (failed p)) (omega arith)) (omega arith)
  word_alter (kept (armed p)) = rw (alter_here (kept (armed p)) x t, beside (kept (armed p)) (kept (abort p)) (omega arith)) (omega arith)
  word_alter (kept (timer p)) = rw (alter_here (kept (timer p)) x t) (omega arith)
  word_alter (kept (failed p)) = rw (alter_here (kept (failed p)) x t, beside (kept (failed p)) (kept (priority p)) (omega arith)) (omega arith)
  word_alter (kept (abort p)) = rw (alter_here (kept (abort p)) x t, beside (kept (abort p)) (kept (armed p)) (omega arith)) (omega arith)
  word_alter (kept (holder l)) = rw (alter_here (kept (holder l)) x t) (omega arith)
  word_alter (kept (wakeup c)) = rw (alter_here (kept (wakeup c)) x t, beside (kept (wakeup c)) (kept (abortable c)) (omega arith)) (omega arith)
  word_alter (kept (abortable c)) = rw (alter_here (kept (abortable c)) x t, beside (kept (abortable c)) (kept (wakeup c)) (omega arith)) (omega arith)
  word_alter (tail ready) = rw (alter_here (tail ready) x t) (omega arith)
  word_alter (tail (park k)) = rw (alter_here (tail (park k)) x t) (omega arith)
  word_alter (tail (lock l)) = rw (alter_here (tail (lock l)) x t) (omega arith)
  word_alter (tail (condition c)) = rw (alter_here (tail (condition c)) x t) (omega arith)
  word_alter (next p) = rw (alter_here (next p) x t) (omega arith)
  word_alter (locked l) = rw (alter_here (locked l) x t) (omega arith)
  word_alter (waiting p) = rw (alter_here (waiting p) x t) (omega arith)

-- ---- what the words of an area say

pub image_ext : (n : Shape) (ws : List ℕ) (s t : Parts) → Image n ws s → ((f : Part) → has n (home f) ≡ true → s f ≡ t f) → Image n ws t
image_ext n ws s t im h = record {
  counts = im.counts;
  long = im.long;
  words = λ a va. im.words a va ∙ word_ext n s t a (λ f e. h f (rw e va));
  spans = λ f vf. rw (← h f vf) (im.spans f vf);
}

module _ (n : Shape) (ws : List ℕ) (t : Parts) (im : Image n ws t) where
  pub within : (a : Slot) → has n a ≡ true → at n a < length ws
  within a v = omega (arith, at_below n a v, im.long)

  -- a part is read from its home
  pub load : (f : Part) → has n (home f) ≡ true → get_or ws (at n (home f)) 0 / unit f % span f ≡ t f
  load (kept clock) v = omega (arith, im.words Clock v, im.spans (kept clock) v)
  load (kept running) v = omega (arith, im.words Running v, im.spans (kept running) v)
  load (kept (priority p)) v =
      omega (arith, im.words (Link p) v, im.spans (kept (priority p)) v, im.spans (next p) v, im.spans (kept (failed p)) v)
  load (kept (armed p)) v = omega (arith, im.words (Flags p) v, im.spans (kept (armed p)) v, im.spans (waiting p) v, im.spans (kept (abort p)) v)
  load (kept (timer p)) v = omega (arith, im.words (Timer p) v, im.spans (kept (timer p)) v)
  load (kept (failed p)) v =
      omega (arith, im.words (Link p) v, im.spans (kept (priority p)) v, im.spans (next p) v, im.spans (kept (failed p)) v)
  load (kept (abort p)) v = omega (arith, im.words (Flags p) v, im.spans (kept (armed p)) v, im.spans (waiting p) v, im.spans (kept (abort p)) v)
  load (kept (holder l)) v = omega (arith, im.words (Holder l) v, im.spans (kept (holder l)) v)
  load (kept (wakeup c)) v =
      omega (arith, im.words (Tail (condition c)) v, im.spans (tail (condition c)) v, im.spans (kept (abortable c)) v, im.spans (kept (wakeup c)) v)
  load (kept (abortable c)) v =
      omega (arith, im.words (Tail (condition c)) v, im.spans (tail (condition c)) v, im.spans (kept (abortable c)) v, im.spans (kept (wakeup c)) v)
  load (tail ready) v = omega (arith, im.words (Tail ready) v, im.spans (tail ready) v)
  load (tail (park k)) v = omega (arith, im.words (Tail (park k)) v, im.spans (tail (park k)) v)
  load (tail (lock l)) v = omega (arith, im.words (Tail (lock l)) v, im.spans (tail (lock l)) v, im.spans (locked l) v)
  load (tail (condition c)) v =
      omega (arith, im.words (Tail (condition c)) v, im.spans (tail (condition c)) v, im.spans (kept (abortable c)) v, im.spans (kept (wakeup c)) v)
  load (next p) v =
      omega (arith, im.words (Link p) v, im.spans (kept (priority p)) v, im.spans (next p) v, im.spans (kept (failed p)) v)
  load (locked l) v = omega (arith, im.words (Tail (lock l)) v, im.spans (tail (lock l)) v, im.spans (locked l) v)
  load (waiting p) v = omega (arith, im.words (Flags p) v, im.spans (kept (armed p)) v, im.spans (waiting p) v, im.spans (kept (abort p)) v)

  pub parts_said : (f : Part) → has n (home f) ≡ true → parts_of n ws f ≡ t f
  parts_said f v = rw v (load f v)

-- ---- a store

-- a value that fits leaves every part in its span
spans_alter : (n : Shape) (ws : List ℕ) (t : Parts) → Image n ws t → (f : Part) (x : ℕ) → x < span f → (g : Part) → has n (home g) ≡ true → alter f x t g < span g
spans_alter n ws t im f x fits g vg = go (part≟ f g)
  where
    go : Dec (f ≡ g) → alter f x t g < span g
    go (yes q) = rw (← q, alter_here f x t) fits
    go (no q) = rw (alter_away f g x t q) (im.spans g vg)

module _ (n : Shape) (ws : List ℕ) (t : Parts) (im : Image n ws t) (f : Part) (x i : ℕ) (ok : has n (home f) ≡ true) (fits : x < span f) (here : i ≡ at n (home f)) where
  -- of the word that the changed parts ask for
  store_word : (v : ℕ) → v ≡ word n (alter f x t) (home f) → Stored n ws (lib.ListN.set ws i v) (alter f x t)
  store_word v e = rw here record {
    image = record {
      counts = im.counts;
      long = simp length-set im.long;
      words = λ a va. word_at a va (ℕ_discrete (at n a) (at n (home f)));
      spans = spans_alter n ws t im f x fits;
    };
    beyond = drop-set-lt (size n) ws (at n (home f)) v (at_below n (home f) ok);
  }
    where
      word_at : (a : Slot) → has n a ≡ true → Dec (at n a ≡ at n (home f)) → get_or (lib.ListN.set ws (at n (home f)) v) (at n a) 0 ≡ word n (alter f x t) a
      word_at a va (yes q) =
          rw (at_one n a (home f) va ok q) (get_or-set_same ws (at n (home f)) v 0 (within n ws t im (home f) ok) ∙ e)
      word_at a va (no q) =
          get_or-set_other ws (at n (home f)) (at n a) v 0 q
          ∙ (im.words a va ∙ sym (word_other n f x t a (λ r. q (ap (at n) (sym r)))))

  -- THE STORE LAW: by the old word w and the new word v alone; u and k are the part's unit and span
  pub store : (u k v w : ℕ) → unit f ≡ u → span f ≡ k → w ≡ get_or ws i 0 → v + w / u % k * u ≡ w + x * u → Stored n ws (lib.ListN.set ws i v) (alter f x t)
  store u k v w eu ek ew q =
      let g : get_or ws (at n (home f)) 0 / unit f % span f ≡ t f = load n ws t im f ok in
      let e : w ≡ get_or ws (at n (home f)) 0 = rw here at ew in
      let r : w / u % k * u ≡ t f * unit f = rw (← g, e, eu, ek) in
      let d : w ≡ word n t (home f) = e ∙ im.words (home f) ok in
      let y : x * unit f ≡ x * u = rw eu in
      store_word v (omega (arith, word_alter n t x f))

-- what a load has of the word: the part
pub load_at : (n : Shape) (ws : List ℕ) (t : Parts) → Image n ws t → (f : Part) (i : ℕ) → has n (home f) ≡ true → i ≡ at n (home f) → (u k : ℕ) → unit f ≡ u → span f ≡ k → get_or ws i 0 / u % k ≡ t f
load_at n ws t im f i ok here u k eu ek = rw (here, ← eu, ← ek) (load n ws t im f ok)

-- every word of an area fits into sixteen bits
pub word_small : (n : Shape) (t : Parts) → counted n ≡ true → ((f : Part) → has n (home f) ≡ true → t f < span f) → (a : Slot) → has n a ≡ true → word n t a < 65536
word_small n t k sp Processes v = omega (arith, (counts_in n k).processes)
word_small n t k sp LocksConditions v = omega (arith, (counts_in n k).locks, (counts_in n k).conditions)
word_small n t k sp Parks v = omega (arith, (counts_in n k).parks)
word_small n t k sp Clock v = sp (kept clock) v
word_small n t k sp Running v = omega (arith, sp (kept running) v)
word_small n t k sp (Tail ready) v = omega (arith, sp (tail ready) v)
word_small n t k sp (Tail (park x)) v = omega (arith, sp (tail (park x)) v)
word_small n t k sp (Tail (lock l)) v = omega (arith, sp (tail (lock l)) v, sp (locked l) v)
word_small n t k sp (Tail (condition c)) v = omega (arith, sp (tail (condition c)) v, sp (kept (abortable c)) v, sp (kept (wakeup c)) v)
word_small n t k sp (Holder l) v = omega (arith, sp (kept (holder l)) v)
word_small n t k sp (Link p) v = omega (arith, sp (kept (priority p)) v, sp (next p) v, sp (kept (failed p)) v)
word_small n t k sp (Flags p) v = omega (arith, sp (kept (armed p)) v, sp (waiting p) v, sp (kept (abort p)) v)
word_small n t k sp (Timer p) v = sp (kept (timer p)) v

-- a part has room in a word, and counts by the bit in which it ends
unit_fits : (f : Part) → (span f * unit f ≤ 65536) × ((i : ℕ) × (unit f ≡ 2 ^ i))
unit_fits (kept clock) = (omega arith, (0, refl))
unit_fits (kept running) = (omega arith, (3, refl))
unit_fits (kept (priority p)) = (omega arith, (13, refl))
unit_fits (kept (armed p)) = (omega arith, (2, refl))
unit_fits (kept (timer p)) = (omega arith, (0, refl))
unit_fits (kept (failed p)) = (omega arith, (2, refl))
unit_fits (kept (abort p)) = (omega arith, (0, refl))
unit_fits (kept (holder l)) = (omega arith, (3, refl))
unit_fits (kept (wakeup c)) = (omega arith, (0, refl))
unit_fits (kept (abortable c)) = (omega arith, (1, refl))
unit_fits (tail q) = (omega arith, (3, refl))
unit_fits (next p) = (omega arith, (3, refl))
unit_fits (locked l) = (omega arith, (0, refl))
unit_fits (waiting p) = (omega arith, (1, refl))

-- ---- a part at its place

module _ {n : Shape} {ws : List ℕ} {t : Parts} (im : Image n ws t) (f : Part) {p : Place} (L : Lies n f p) where
  pub place_power : (i : ℕ) × (p.unit ≡ 2 ^ i)
  place_power = rw L.2 (unit_fits f).1

  pub place_span : 0 < p.span
  place_span = omega (arith, im.spans f L.0, L.3)

  pub place_fits : p.span * p.unit ≤ 65536
  place_fits = rw (L.2, L.3) (unit_fits f).0

  -- a read of it
  pub place_load : get_or ws p.at 0 / p.unit % p.span ≡ t f
  place_load = load_at n ws t im f p.at L.0 L.1 p.unit p.span (sym L.2) (sym L.3)

  module _ {x : ℕ} (fits : x < span f) where
    -- its word has room for another value
    pub place_room : get_or ws p.at 0 + x * p.unit < 65536 + get_or ws p.at 0 / p.unit % p.span * p.unit
    place_room =
        let a : word n (alter f x t) (home f) < 65536 = word_small n (alter f x t) im.counts (spans_alter n ws t im f x fits) (home f) L.0 in
        let w : get_or ws p.at 0 ≡ word n t (home f) = rw L.1 (im.words (home f) L.0) in
        rw (place_load, w, L.2) (omega (arith, word_alter n t x f))

    -- a write of it, by the old word and the new one
    pub place_store : (v : ℕ) → v + get_or ws p.at 0 / p.unit % p.span * p.unit ≡ get_or ws p.at 0 + x * p.unit → Stored n ws (lib.ListN.set ws p.at v) (alter f x t)
    place_store v e = store n ws t im f x p.at L.0 fits L.1 p.unit p.span v (get_or ws p.at 0) (sym L.2) (sym L.3) refl e

pub stored_then : {n : Shape} {a b c : List ℕ} {s t : Parts} → Stored n a b s → Stored n b c t → Stored n a c t
stored_then x y = record { image = y.image; beyond = y.beyond ∙ x.beyond }
