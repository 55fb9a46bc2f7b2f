-- Areas that agree below their size read alike: the same counts, the same parts, the same state, and both are sound or neither. So the words
-- beyond the size are never read. Assumes nothing.
use Prim.Native.Nat.{ℕ, ◌/◌, ◌%◌, ◌≤◌, ◌<◌}
use native.Mathlib.Omega.{arith}
use mathlib.Core.Path.{◌≡◌, refl, sym, ap, ◌∙◌, subst, fun_ext}
use mathlib.Core.Bool.{Bool, true, false, cond}
use mathlib.Core.List.{List}
use lib.ListN.{length, get_or, take}
use lib.Seq.{get_or-take}
use Rattle.model.specs.declared.Shape.{Shape}
use Rattle.model.specs.Machine.{State, model}
use Rattle.area.specs.Layout.{Part, Parts, word, at, has, home, span, unit, size}
use Rattle.area.specs.Layout.Part.{kept, tail, next, locked, waiting}
use Rattle.area.specs.Reading.{shape_of, parts_of, queue_of, state_of, Agree}
use Rattle.area.specs.Sound.{Says, Sound}
use Rattle.area.proofs.Addresses.{at_below}

module _ {a b : List ℕ} (A : Agree a b) where
  word_same : (i : ℕ) → i < size (shape_of a) → get_or a i 0 ≡ get_or b i 0
  word_same i h = sym (get_or-take (size (shape_of a)) a i 0 h) ∙ ap (λ (l : List ℕ). get_or l i 0) A.same ∙ get_or-take (size (shape_of a)) b i 0 h

  pub shape_same : shape_of a ≡ shape_of b
  shape_same = λ j. record {
    processes = word_same 0 (omega arith) j;
    locks = word_same 1 (omega arith) j / 256;
    conditions = word_same 1 (omega arith) j % 256;
    parks = word_same 2 (omega arith) j / 4096;
  }

  parts_here : parts_of (shape_of a) a ≡ parts_of (shape_of a) b
  parts_here = fun_ext each_part
    where
      each_part : (f : Part) → parts_of (shape_of a) a f ≡ parts_of (shape_of a) b f
      each_part f = go (has (shape_of a) (home f)) refl
        where
          at_f : ℕ
          at_f = at (shape_of a) (home f)

          go : (h : Bool) → has (shape_of a) (home f) ≡ h → cond h (get_or a at_f 0 / unit f % span f) 0 ≡ cond h (get_or b at_f 0 / unit f % span f) 0
          go true e = ap (λ (w : ℕ). w / unit f % span f) (word_same at_f (at_below (shape_of a) (home f) e))
          go false e = refl

  parts_same : parts_of (shape_of a) a ≡ parts_of (shape_of b) b
  parts_same = parts_here ∙ ap {A = Shape} (λ n. parts_of n b) shape_same

  pub state_same : state_of a ≡ state_of b
  state_same = λ j. record { fields = λ f. parts_same j (kept f); queues = queue_of (shape_same j) (parts_same j) }

  pub agree_back : Agree b a
  agree_back =
      subst (λ (n : Shape). (size n ≤ length b) → (size n ≤ length a) → take (size n) b ≡ take (size n) a → Agree b a) (sym shape_same)
      (λ l k e. record { long = l; long_too = k; same = e }) A.long_too A.long (sym A.same)

  pub sound_same : Sound a → Sound b
  sound_same S = subst (λ (n : Shape). Says n (state_of b) b) shape_same (subst (λ (s : State model). Says (shape_of a) s b) state_same says)
    where
      says : Says (shape_of a) (state_of a) b
      says = record {
        long = A.long_too;
        tails = λ q. subst (λ (t : Parts). t (tail q) ≤ (shape_of a).processes) parts_here (S.tails q);
        nexts = λ p. subst (λ (t : Parts). t (next p) ≤ (shape_of a).processes) parts_here (S.nexts p);
        tidy = λ s h. sym (word_same (at (shape_of a) s) (at_below (shape_of a) s h)) ∙ S.tidy s h ∙ ap (λ (t : Parts). word (shape_of a) t s) parts_here;
        closed = λ q. S.closed q ∙ ap (λ (t : Parts). t (tail q)) parts_here;
        waits = λ p. sym (ap (λ (t : Parts). t (waiting p)) parts_here) ∙ S.waits p;
        locks = λ l. sym (ap (λ (t : Parts). t (locked l)) parts_here) ∙ S.locks l;
        valid = S.valid;
      }
