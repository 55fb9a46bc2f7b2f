-- A ring's walk underway: what is left of it ends as the whole ring does; and what each way out of the loop makes of that. Assumes nothing.
use Prim.Native.Nat.{ℕ, ◌+◌, ◌-◌, ◌/◌, ◌≤◌, ◌<◌}
use native.Mathlib.Omega.{arith}
use mathlib.Core.Path.{◌≡◌, refl, ◌∙◌}
use mathlib.Core.Bool.{Bool, true, false, not, ◌&&◌, and-false, not-not}
use mathlib.Core.List.{List, ◌∷◌}
use Rattle.std.proofs.Common.{Option, None, Some}
use lib.Dec.{leb}
use lib.ListN.{get_or}
use Rattle.model.specs.Queue.{member}
use Rattle.links.specs.Link.{slot, link, next, priority}
use Rattle.members.specs.Marks.{met_in, marked}
use Rattle.members.specs.Walk.{is_eligible, is_fresh, fitting, fits_in, walked, ringed, Met, Told}
use Rattle.members.proofs.Marks.{table_marked}
use Rattle.members.proofs.Steps.{walk_out, walk_stale, walk_unfit, walk_last, walk_on, ring_empty, ring_walk}

pub told_none : (P : ℕ) (ms : List ℕ) (out : Option (List ℕ)) → out ≡ None → Told P None ms out
told_none P ms out e = rw e refl

pub told_some : (P m : ℕ) (ms js : List ℕ) (out : Option (List ℕ)) → out ≡ Some js → Met P ms js m → Told P (Some m) ms out
told_some P m ms js out e t = rw e (m, refl, t)

-- at p, behind a priority b, with m processes met, of which the table ms tells: the walk ends as out
pub record Going (rs : List ℕ) (P k o t : ℕ) (ms : List ℕ) (p b m : ℕ) (out : Option (List ℕ)) : Type 0 where
  pub js : List ℕ
  pub met : Met P ms js m
  pub rest : out ≡ walked rs P k o t (P - m) p b js

module _ (rs : List ℕ) (P k o t : ℕ) where
  pub going_none : (ms js : List ℕ) (m : ℕ) → t ≡ 0 → Met P ms js m → Told P (Some m) ms (ringed rs P k o t js)
  going_none ms js m e T = told_some P m ms js _ (ring_empty rs P k o t js e) T

  pub going_start : (ms js : List ℕ) (p m : ℕ) → (t ≡ 0 → ⊥) → Met P ms js m → p ≡ next rs t → Going rs P k o t ms p 7 m (ringed rs P k o t js)
  going_start ms js p m n T e = record { js = js; met = T; rest = rw (e, T.counts) (ring_walk rs P k o t js n) }

  module _ (ms : List ℕ) (p b m : ℕ) (out : Option (List ℕ)) (g : Going rs P k o t ms p b m out) where
    pub going_out : (ms' : List ℕ) → P ≤ m → Told P None ms' out
    going_out ms' l = told_none P ms' out (g.rest ∙ walk_out rs P k o t (P - m) p b g.js (omega arith))

    module _ (may : Bool) (is_may : may ≡ is_eligible P o p) where
      stale : is_eligible P o p && not (member p g.js) ≡ false → (ms' : List ℕ) → Told P None ms' out
      unfolding is_fresh
      stale e ms' = told_none P ms' out (g.rest ∙ walk_stale rs P k o t (P - m) p b g.js e)

      pub going_barred : (ms' : List ℕ) → may ≡ false → Told P None ms' out
      going_barred ms' e = stale (rw (← is_may, e)) ms'

      module _ (fit : Bool) (is_fit : fit ≡ fitting k (link rs p) (get_or rs (slot p + 1) 0) (get_or rs (slot p + 2) 0)) where
        unfit : fits_in rs k b p ≡ false → (ms' : List ℕ) → Told P None ms' out
        unfit e ms' = told_none P ms' out (g.rest ∙ walk_unfit rs P k o t (P - m) p b g.js e)

        pub going_unfit : (ms' : List ℕ) → fit ≡ false → Told P None ms' out
        going_unfit ms' e = unfit (rw (← is_fit, e)) ms'

        module _ (low : Bool) (is_low : low ≡ leb (link rs p / 8192) b) where
          pub going_rises : (ms' : List ℕ) → low ≡ false → Told P None ms' out
          going_rises ms' e = unfit (rw (← is_low, e, and-false)) ms'

          module _ (new : Bool) (small : p < 1024) (is_new : new ≡ not (met_in ms p)) where
            old : not new ≡ member p g.js
            old = rw (is_new, not-not) (g.met.table.says p small)

            pub going_met : (ms' : List ℕ) → new ≡ false → Told P None ms' out
            going_met ms' e = stale (rw (← old, e, and-false)) ms'

            module _ (e₁ : may ≡ true) (e₂ : fit ≡ true) (e₃ : low ≡ true) (e₄ : new ≡ true) (below : m < P) (ms' : List ℕ) (after : ms' ≡ marked ms p) where
              fresh : is_fresh P o p g.js ≡ true
              unfolding is_fresh
              fresh = rw (← is_may, e₁, ← old, e₄)

              fits : fits_in rs k b p ≡ true
              fits = rw (← is_fit, e₂, ← is_low, e₃)

              more : Met P ms' (p ∷ g.js) (m + 1)
              more = let c = g.met.counts in record { table = rw after (table_marked ms g.js p small g.met.table); counts = omega arith; few = omega arith }

              pub going_last : p ≡ t → Told P (Some (m + 1)) ms' out
              going_last e =
                  told_some P (m + 1) ms' (p ∷ g.js) out (g.rest ∙ walk_last rs P k o t (P - m) p b g.js (omega arith) fresh fits e) more

              pub going_on : (q a : ℕ) → (p ≡ t → ⊥) → q ≡ next rs p → a ≡ priority rs p → Going rs P k o t ms' q a (m + 1) out
              going_on q a n e d =
                  record { js = p ∷ g.js; met = more; rest = rw (e, d) (g.rest ∙ walk_on rs P k o t (P - m) (P - (m + 1)) p b g.js (omega arith) fresh fits n) }
