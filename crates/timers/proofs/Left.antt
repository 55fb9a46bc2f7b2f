-- A process's ticks left, by the words read of it: none where it is not armed, since whoever is armed waits; else the ticks to its timer, a full round where it is at the clock.
-- Assumes nothing.
use Prim.Native.Nat.{ℕ, ◌≤◌, ◌<◌}
use native.Mathlib.Omega.{arith}
use mathlib.Core.Path.{◌≡◌, refl, sym, ◌∙◌}
use mathlib.Core.Logic.{◌≢◌}
use Rattle.std.specs.Prelude.{Some, None}
use Rattle.std.proofs.lemmas.Option.{same_Some}
use mathlib.Core.Bool.{Bool, true, false, ◌&&◌, cond, and-false}
use mathlib.Core.List.{List}
use lib.Dec.{eqb}
use Rattle.model.specs.declared.Shape.{Shape}
use Rattle.model.specs.Queue.{inside}
use Rattle.model.specs.Field.{Field, some}
use Rattle.model.specs.Field.Field.{clock, armed, timer}
use Rattle.model.specs.Machine.{State, model, waiting}
use Rattle.model.specs.Valid.{Valid}
use Rattle.model.specs.Timers.{distance, ticks_to, left}
use Rattle.model.proofs.Tests.{holds, fails, EqCase, eqb_case, eqb_yes, eqb_no, inside_bounds}
use Rattle.model.proofs.Ticking.{left_armed}
use Rattle.area.specs.declared.places.Place.{Place}
use Rattle.area.specs.Layout.{Lies}
use Rattle.area.specs.Layout.Part.{kept}
use Rattle.area.specs.Holds.{Holds}
use Rattle.order.specs.Order.{ahead}
use Rattle.timers.specs.Telling.{Shows, nonzero}

-- ---- what a reading shows

-- where the clock is read in the area
pub shown : (n : Shape) (ws : List ℕ) {here : Place} {now : ℕ} → ((m : Shape) (s : State model) (f : Field) → Holds m ws s → Lies m (kept f) here → now ≡ s.fields f) → ((m : Shape) → Lies m (kept clock) here)
    → (s : State model) → Holds n ws s → Valid n s → Shows (record { words = ws; shape = n; clock = now }) s
shown n ws reads lies s H v = record { holds = H; valid = v; now = reads n s clock H (lies n) }

-- ---- one process's ticks left

module _ (n : Shape) (s : State model) (p : ℕ) {a : ℕ} (reads : a ≡ s.fields (armed p)) where
  -- it is not armed
  pub left_none : a ≡ 0 → 0 ≡ left n s p
  left_none e = rw (sym reads ∙ e, and-false)

  -- it is
  left_set : Valid n s → a ≢ 0 → left n s p ≡ ticks_to (s.fields clock) (s.fields (timer p))
  left_set v h = left_armed n s v p ∙ rw (eqb_no (s.fields (armed p)) 0 (λ e. h (reads ∙ e)))

  -- with its timer at the clock
  pub left_round : Valid n s → {now : ℕ} → now ≡ s.fields clock → a ≢ 0 → {d : ℕ} → d ≡ ahead now s p → d ≡ 0 → 65536 ≡ left n s p
  left_round v c h far e = sym (left_set v h ∙ rw (eqb_yes (distance (s.fields clock) (s.fields (timer p))) 0 (rw (← c) (sym far ∙ e))))

  -- elsewhere
  pub left_far : Valid n s → {now : ℕ} → now ≡ s.fields clock → a ≢ 0 → {d : ℕ} → d ≡ ahead now s p → d ≢ 0 → d ≡ left n s p
  left_far v c h far o = far ∙ rw c (sym (left_set v h ∙ rw (eqb_no (distance (s.fields clock) (s.fields (timer p))) 0 (λ e. o (far ∙ rw c e)))))

-- ---- how many they can be

-- those due within less than a round have the ticks to their timers left
pub key_left : (n : Shape) (s : State model) {now k : ℕ} → now ≡ s.fields clock → k < 65536 → (p : ℕ) → inside k (left n s p) ≡ true → ahead now s p ≡ left n s p
key_left n s {now} {k} c h p i = rw c (go (waiting n s.queues p && some (s.fields (armed p))) (distance (s.fields clock) (s.fields (timer p))) (inside_bounds k (left n s p) i))
  where
    go : (w : Bool) (d : ℕ) → (1 ≤ cond w (cond (eqb d 0) 65536 d) 0) × (cond w (cond (eqb d 0) 65536 d) 0 ≤ k) → d ≡ cond w (cond (eqb d 0) 65536 d) 0
    go true d b = round (eqb d 0) b.1
      where
        round : (z : Bool) → cond z 65536 d ≤ k → d ≡ cond z 65536 d
        round true l = let y : ⊥ = omega arith in absurd y
        round false l = refl
    go false d b = let y : ⊥ = omega arith in absurd y

-- ---- ticks where there are some

pub nonzero_some : {d l : ℕ} → d ≡ l → d ≢ 0 → Some d ≡ nonzero l
nonzero_some {d} {l} e h = rw (← e, eqb_no d 0 h)

pub some_nonzero : {d l : ℕ} → nonzero l ≡ Some d → (l ≡ d) × (d ≢ 0)
some_nonzero {d} {l} e = go (eqb_case l 0) e
  where
    go : EqCase l 0 → cond (eqb l 0) None (Some l) ≡ Some d → (l ≡ d) × (d ≢ 0)
    go (holds i b) k = let none : None ≡ Some d = rw b at k in cc
    go (fails i b) k = let same : l ≡ d = same_Some l d (rw b at k) in (same, λ z. i (same ∙ z))

pub none_nonzero : {l : ℕ} → nonzero l ≡ None → l ≡ 0
none_nonzero {l} e = go (eqb_case l 0) e
  where
    go : EqCase l 0 → cond (eqb l 0) None (Some l) ≡ None → l ≡ 0
    go (holds i b) k = i
    go (fails i b) k = let some : Some l ≡ None = rw b at k in cc
