-- A field of the state and its word change together: the changed part is what the changed state prescribes, and nothing else that it
-- prescribes goes by that field, but for a lock's locked bit, which goes by its holder. Assumes nothing.
use Prim.Native.Nat.{ℕ, ◌<◌}
use native.Mathlib.Omega.{arith}
use mathlib.Core.Path.{◌≡◌, refl, sym, ap, ◌∙◌, subst, fun_ext}
use mathlib.Core.List.{List}
use mathlib.Core.Logic.{◌≢◌}
use Rattle.model.specs.declared.Shape.{Shape}
use Rattle.model.specs.Queue.{bit, Falling}
use Rattle.model.specs.Field.{Field, put, some}
use Rattle.model.specs.Field.Field.{priority, holder}
use Rattle.model.specs.Machine.{State, model}
use Rattle.model.specs.Valid.{room, Placed}
use Rattle.model.proofs.Tests.{holds, fails, PutCase, put_case, put_here, put_away, EqCase, eqb_case}
use Rattle.area.specs.Layout.{Part, Parts, alter, Stored}
use Rattle.area.specs.Layout.Part.{kept, tail, next, locked, waiting}
use Rattle.area.specs.State.{laid}
use Rattle.area.specs.Holds.{Holds, Becomes, with}
use Rattle.area.proofs.Stores.{alter_here, alter_away, image_ext}

-- ---- the state

module _ (n : Shape) (s : State model) (f : Field) (v : ℕ) (P : Placed n s) (fits : v < room n f) (off : (p : ℕ) → f ≢ priority p) where
  pub placed_with : Placed n (with f v s)
  placed_with = record {
    counts = P.counts;
    range = λ g. range_at g (put_case f g);
    place = P.place;
    real = P.real;
    once = P.once;
    falls = λ q. subst (λ (pr : ℕ → ℕ). Falling pr (s.queues q)) (fun_ext (λ p. sym (put_away f v s.fields (priority p) (off p)))) (P.falls q);
  }
    where
      range_at : (g : Field) → PutCase f g → put f v s.fields g < room n g
      range_at g (holds e z) = rw (z, ← e) fits
      range_at g (fails e z) = rw z (P.range g)

-- ---- the parts

module _ (n : Shape) (s : State model) (f : Field) (v : ℕ) where
  -- the fields
  kept_with : (g : Field) → alter (kept f) v (laid n s) (kept g) ≡ put f v s.fields g
  kept_with g = go (put_case f g)
    where
      go : PutCase f g → alter (kept f) v (laid n s) (kept g) ≡ put f v s.fields g
      go (holds e z) = rw (z, ← e) (alter_here (kept f) v (laid n s))
      go (fails e z) = rw z (alter_away (kept f) (kept g) v (laid n s) (λ d. e (cc)))

  -- no holder changes, and no locked bit
  laid_with : ((l : ℕ) → f ≢ holder l) → (g : Part) → alter (kept f) v (laid n s) g ≡ laid n (with f v s) g
  laid_with off (kept g) = kept_with g
  laid_with off (tail q) = refl
  laid_with off (next p) = refl
  laid_with off (locked l) = rw (put_away f v s.fields (holder l) (off l))
  laid_with off (waiting p) = refl

-- a holder changes with its lock's locked bit
laid_holder : (n : Shape) (s : State model) (l v : ℕ) (g : Part) → alter (locked l) (bit (some v)) (alter (kept (holder l)) v (laid n s)) g ≡ laid n (with (holder l) v s) g
laid_holder n s l v (kept g) = kept_with n s (holder l) v g
laid_holder n s l v (tail q) = refl
laid_holder n s l v (next p) = refl
laid_holder n s l v (locked m) = go (eqb_case l m)
  where
    go : EqCase l m → alter (locked l) (bit (some v)) (alter (kept (holder l)) v (laid n s)) (locked m) ≡ bit (some (put (holder l) v s.fields (holder m)))
    go (holds e z) = rw (← e, alter_here (locked l) (bit (some v)) (alter (kept (holder l)) v (laid n s)), put_here (holder l) v s.fields)
    go (fails e z) =
        alter_away (locked l) (locked m) (bit (some v)) (alter (kept (holder l)) v (laid n s)) (λ d. e (cc))
        ∙ ap (λ x. bit (some x)) (sym (put_away (holder l) v s.fields (holder m) (λ d. e (cc))))
laid_holder n s l v (waiting p) = refl

-- ---- the area

-- a store of one part that makes the parts of a placed state
pub becomes : (n : Shape) (old new : List ℕ) (t : Parts) (s : State model) → Placed n s → ((g : Part) → t g ≡ laid n s g) → Stored n old new t → Becomes n old new s
becomes n old new t s P e st = record {
  holds = record { placed = P; image = image_ext n new t (laid n s) st.image (λ g h. e g) };
  beyond = st.beyond;
}

module _ {n : Shape} {old new : List ℕ} {s : State model} (H : Holds n old s) where
  pub becomes_with : (f : Field) (v : ℕ) → v < room n f → ((p : ℕ) → f ≢ priority p) → ((l : ℕ) → f ≢ holder l) → Stored n old new (alter (kept f) v (laid n s)) → Becomes n old new (with f v s)
  becomes_with f v fits a b st =
      becomes n old new (alter (kept f) v (laid n s)) (with f v s) (placed_with n s f v H.placed fits a) (laid_with n s f v b) st

  pub becomes_holder : (l v : ℕ) → v < room n (holder l) → Stored n old new (alter (locked l) (bit (some v)) (alter (kept (holder l)) v (laid n s))) → Becomes n old new (with (holder l) v s)
  becomes_holder l v fits st =
      becomes n old new (alter (locked l) (bit (some v)) (alter (kept (holder l)) v (laid n s))) (with (holder l) v s) (placed_with n s (holder l) v H.placed fits (λ p e. apart e)) (laid_holder n s l v) st
    where
      apart : {p : ℕ} → holder l ≡ priority p → ⊥
      apart e = let z : ◌≡◌ {A = ℕ} 0 1 = cc in omega arith

pub becomes_none : {n : Shape} {ws : List ℕ} {s : State model} → Holds n ws s → Becomes n ws ws s
becomes_none H = record { holds = H; beyond = refl }

pub becomes_then : {n : Shape} {a b c : List ℕ} {s t : State model} → Becomes n a b s → Becomes n b c t → Becomes n a c t
becomes_then x y = record { holds = y.holds; beyond = y.beyond ∙ x.beyond }
