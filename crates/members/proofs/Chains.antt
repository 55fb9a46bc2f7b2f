-- A ring that the walk accepts, and a ring that it is to accept: the processes from the first to the tail, each fresh in its turn. Assumes nothing.
use Prim.Native.Nat.{ℕ, zero, suc, ◌+◌, ◌-◌, ◌≤◌, ◌<◌}
use native.Mathlib.Decide.{ℕ_discrete}
use native.Mathlib.Omega.{arith}
use mathlib.Core.Path.{◌≡◌, refl, sym, ◌∙◌}
use mathlib.Core.Bool.{Bool, true, false}
use mathlib.Core.List.{List, [], ◌∷◌}
use Rattle.std.proofs.Common.{Some}
use Rattle.std.proofs.lemmas.Option.{none-some, same_Some}
use lib.Dec.{eqb}
use lib.ListN.{length, get_or}
use Rattle.model.specs.Queue.{inside, bit, member, count, All, Falling}
use Rattle.model.proofs.Tests.{eqb_no, bit_small, inside_bounds}
use Rattle.model.proofs.Lists.{all_map, member_here, member_count, absent_count, member_bit, at_most, members_all}
use Rattle.links.specs.Link.{slot, link, next, priority}
use Rattle.ring.specs.Ring.{last_of, Linked}
use Rattle.ring.proofs.Lists.{member_last}
use Rattle.area.proofs.Rings.{Once, once_apart}
use Rattle.members.specs.Walk.{is_fresh, fits_in, walked, ringed}
use Rattle.members.proofs.Steps.{walk_out, walk_stale, walk_unfit, walk_last, walk_on, ring_empty, ring_walk}
use Rattle.members.proofs.Tests.{fresh_is, is_fresh_lem, Fits, fitting_is, is_fitting}

-- 16-bit words
abbrev pub Words : List ℕ → Type 0
Words ws = (i : ℕ) → get_or ws i 0 < 65536

-- ---- lists

-- ys put before js, one by one
pub onto : List ℕ → List ℕ → List ℕ
onto [] js = js
onto (y ∷ ys) js = onto ys (y ∷ js)

pub count_onto : (x : ℕ) (ys js : List ℕ) → count x (onto ys js) ≡ count x ys + count x js
unfolding onto
count_onto x [] js = omega arith
count_onto x (y ∷ ys) js = let h = count_onto x ys (y ∷ js) in omega arith

length_onto : (ys js : List ℕ) → length (onto ys js) ≡ length ys + length js
unfolding onto
length_onto [] js = omega arith
length_onto (y ∷ ys) js = let h = length_onto ys (y ∷ js) in omega arith

-- ---- rings

module _ (rs : List ℕ) (P k o : ℕ) where
  -- a member of a ring of kind k, which is not the holder o
  pub record Member (p : ℕ) : Type 0 where
    pub within : inside P p ≡ true
    pub free : p ≡ o → ⊥
    pub fits : Fits k (link rs p) (get_or rs (slot p + 1) 0) (get_or rs (slot p + 2) 0)

-- a ring with the tail t and the members ys
pub record Ringed (rs : List ℕ) (P k o t : ℕ) (ys : List ℕ) : Type 0 where
  pub linked : Linked (next rs) t ys
  pub ends : last_of 0 ys ≡ t
  pub members : All (Member rs P k o) ys
  pub falls : Falling (λ p. priority rs p) ys

-- what an accepted walk has read: p, and then rest
record Read (rs : List ℕ) (P k o t p b : ℕ) (js js' : List ℕ) : Type 0 where
  rest : List ℕ
  linked : Linked (next rs) p rest
  ends : last_of p rest ≡ t
  members : All (Member rs P k o) (p ∷ rest)
  low : All (λ y. priority rs y ≤ b) (p ∷ rest)
  falls : Falling (λ y. priority rs y) (p ∷ rest)
  done : js' ≡ onto (p ∷ rest) js
  once : Once js → Once js'

once_more : (p : ℕ) (js : List ℕ) → member p js ≡ false → Once js → Once (p ∷ js)
once_more p js e h x = elim (ℕ_discrete p x) [
  | yes d ↦ let z : count x js ≡ 0 = rw d at (absent_count p js e) in let b = bit_small (eqb p x) in omega arith
  | no d ↦ let z : bit (eqb p x) ≡ 0 = rw (eqb_no p x d) in let y = h x in omega arith
]

module _ (rs : List ℕ) (P k o t : ℕ) where
  abbrev pr : ℕ → ℕ
  pr y = priority rs y

  walk_read : (n p b : ℕ) (js js' : List ℕ) → walked rs P k o t n p b js ≡ Some js' → Read rs P k o t p b js js'
  unfolding onto priority
  walk_read zero p b js js' w = absurd (none-some js' (sym (walk_out rs P k o t 0 p b js (omega arith)) ∙ w))
  walk_read (suc n) p b js js' w = go (is_fresh P o p js) refl (fits_in rs k b p) refl (ℕ_discrete p t) (walk_read n (next rs p) (pr p) (p ∷ js) js')
    where
      go : (f : Bool) → is_fresh P o p js ≡ f → (g : Bool) → fits_in rs k b p ≡ g → Dec (p ≡ t)
          → (walked rs P k o t n (next rs p) (pr p) (p ∷ js) ≡ Some js' → Read rs P k o t (next rs p) (pr p) (p ∷ js) js') → Read rs P k o t p b js js'
      go false ef g eg d ih = absurd (none-some js' (sym (walk_stale rs P k o t (suc n) p b js ef) ∙ w))
      go true ef false eg d ih = absurd (none-some js' (sym (walk_unfit rs P k o t (suc n) p b js eg) ∙ w))
      go true ef true eg (yes e) ih =
          let f = fresh_is P o p js ef in
          let g = fitting_is k b (link rs p) (get_or rs (slot p + 1) 0) (get_or rs (slot p + 2) 0) eg in
          let d = same_Some js' (p ∷ js) (sym w ∙ walk_last rs P k o t (suc n) p b js (omega arith) ef eg e) in
          record {
            rest = [];
            linked = tt;
            ends = e;
            members = (record { within = f.within; free = f.free; fits = g.1 }, tt);
            low = (g.0, tt);
            falls = (tt, tt);
            done = d;
            once = λ h. rw d (once_more p js f.new h);
          }
      go true ef true eg (no e) ih =
          let f = fresh_is P o p js ef in
          let g = fitting_is k b (link rs p) (get_or rs (slot p + 1) 0) (get_or rs (slot p + 2) 0) eg in
          let d = ih (sym (walk_on rs P k o t (suc n) n p b js refl ef eg e) ∙ w) in
          record {
            rest = next rs p ∷ d.rest;
            linked = (refl, d.linked);
            ends = d.ends;
            members = (record { within = f.within; free = f.free; fits = g.1 }, d.members);
            low = (g.0, all_map (λ y. pr y ≤ pr p) (λ y. pr y ≤ b) (next rs p ∷ d.rest) (λ y h. let a = g.0 in omega arith) d.low);
            falls = (d.low, d.falls);
            done = d.done;
            once = λ h. d.once (once_more p js f.new h);
          }

-- a whole ring: what is accepted
pub record Accepted (rs : List ℕ) (P k o t : ℕ) (js js' : List ℕ) : Type 0 where
  pub ys : List ℕ
  pub ring : Ringed rs P k o t ys
  pub done : js' ≡ onto ys js
  pub once : Once js → Once js'

pub ring_read : (rs : List ℕ) (P k o t : ℕ) (js js' : List ℕ) → ringed rs P k o t js ≡ Some js' → Accepted rs P k o t js js'
unfolding onto
ring_read rs P k o t js js' w = go (ℕ_discrete t 0)
  where
    go : Dec (t ≡ 0) → Accepted rs P k o t js js'
    go (yes e) = let d = same_Some js' js (sym w ∙ ring_empty rs P k o t js e) in
        record { ys = []; ring = record { linked = tt; ends = sym e; members = tt; falls = tt }; done = d; once = λ h. rw d h }
    go (no n) =
        let d = walk_read rs P k o t (P - length js) (next rs t) 7 js js' (sym (ring_walk rs P k o t js n) ∙ w) in
        record { ys = next rs t ∷ d.rest; ring = record { linked = (refl, d.linked); ends = d.ends; members = d.members; falls = d.falls }; done = d.done; once = d.once }

-- ---- a ring is accepted

new_one : (p : ℕ) (rest js : List ℕ) → ((x : ℕ) → count x (p ∷ rest) + count x js ≤ 1) → member p js ≡ false
new_one p rest js c = let a = c p in let b = member_count p (p ∷ rest) (member_here p rest) in member_bit p js false (omega arith)

module _ (rs : List ℕ) (P k o t : ℕ) where
  walk_full : (rest : List ℕ) (n p b : ℕ) (js : List ℕ) → Linked (next rs) p rest → last_of p rest ≡ t → All (Member rs P k o) (p ∷ rest)
      → priority rs p ≤ b → Falling (λ y. priority rs y) (p ∷ rest) → ((x : ℕ) → count x (p ∷ rest) + count x js ≤ 1) → length (p ∷ rest) ≤ n
      → walked rs P k o t n p b js ≡ Some (onto (p ∷ rest) js)
  unfolding onto priority
  walk_full [] n p b js l e m h f c s =
      walk_last rs P k o t n p b js (omega arith) (is_fresh_lem P o p js (record { within = m.0.within; free = m.0.free; new = new_one p [] js c }))
      (is_fitting k b _ _ _ h m.0.fits) e
  walk_full (y ∷ rest) n p b js l e m h f c s =
      let once : Once (p ∷ y ∷ rest) = λ x. let a = c x in omega arith in
      walk_on rs P k o t n (n - 1) p b js (omega arith) (is_fresh_lem P o p js (record { within = m.0.within; free = m.0.free; new = new_one p (y ∷ rest) js c }))
      (is_fitting k b _ _ _ h m.0.fits) (λ d. once_apart p (y ∷ rest) once (last_of y rest) (member_last y rest) (d ∙ sym e))
      ∙ rw l.0 (walk_full rest (n - 1) y (priority rs p) (p ∷ js) l.1 e m.1 f.0.0 f.1 (λ x. let a = c x in omega arith) (omega arith))

  pub ring_full : Words rs → (ys js : List ℕ) → Ringed rs P k o t ys → ((x : ℕ) → count x ys + count x js ≤ bit (inside P x)) → ringed rs P k o t js ≡ Some (onto ys js)
  unfolding onto priority
  ring_full small [] js R c = ring_empty rs P k o t js (sym R.ends)
  ring_full small (y ∷ ys) js R c =
      let in_Tail = members_all (Member rs P k o) (y ∷ ys) R.members (last_of y ys) (member_last y ys) in
      let one = inside_bounds P (last_of y ys) in_Tail.within in
      let end = R.ends in
      let few = at_most P (onto (y ∷ ys) js) (λ x. rw (count_onto x (y ∷ ys) js) (c x)) in
      let long = length_onto (y ∷ ys) js in
      let w = small (slot y) in
      ring_walk rs P k o t js (λ z. omega arith)
      ∙ rw R.linked.0 (walk_full ys (P - length js) y 7 js R.linked.1 end R.members (omega arith) R.falls (λ x. let a = c x in let b = bit_small (inside P x) in omega arith) (omega arith))
