-- The passes over the kinds of queues, one after the other: the number of those met is told, or a pass breaks off. Assumes nothing.
use Prim.Native.Nat.{ℕ, ◌+◌}
use mathlib.Core.Path.{◌≡◌, refl, sym, ◌∙◌, ap}
use native.Mathlib.Omega.{arith}
use mathlib.Core.List.{List, []}
use Rattle.std.proofs.Common.{Option, None, Some, option_map}
use Rattle.std.proofs.lemmas.Option.{none-some, same_Some}
use lib.ListN.{length, drop}
use Rattle.model.specs.declared.Shape.{Shape}
use Rattle.area.specs.Layout.{locks_at, conditions_at, records_at}
use Rattle.area.specs.Rings.{records}
use Rattle.area.proofs.Records.{part_lent}
use Rattle.members.specs.Walk.{Met, Told}
use Rattle.members.proofs.Marks.{clear, table_clear}
use Rattle.sound.specs.Passed.{passed, all_passed}
use Rattle.sound.proofs.Queues.{from}

-- a pass hands on those met, f of those before, and the number of them is told
abbrev Pass : ℕ → (List ℕ → Option (List ℕ)) → ℕ → List ℕ → Option ℕ → List ℕ → Type 0
Pass P f m ms c ms' = (js : List ℕ) → Met P ms js m → Told P c ms' (f js)

told_number : (P : ℕ) (c : Option ℕ) (ms : List ℕ) (out : Option (List ℕ)) → Told P c ms out → c ≡ option_map length out
told_number P c ms None t = t
told_number P c ms (Some js) t = t.1 ∙ ap Some t.2.counts

told_broken : (P : ℕ) (c : Option ℕ) (ms : List ℕ) (out : Option (List ℕ)) → Told P c ms out → c ≡ None → out ≡ None
told_broken P c ms None t e = refl
told_broken P c ms (Some js) u e = absurd (none-some u.0 (sym e ∙ u.1))

record Left (P m : ℕ) (ms : List ℕ) (out : Option (List ℕ)) : Type 0 where
  js : List ℕ
  is : out ≡ Some js
  met : Met P ms js m

told_met : (P m : ℕ) (c : Option ℕ) (ms : List ℕ) (out : Option (List ℕ)) → Told P c ms out → c ≡ Some m → Left P m ms out
told_met P m c ms None t e = absurd (none-some m (sym t ∙ e))
told_met P m c ms (Some js) t e = record { js = js; is = refl; met = rw (same_Some m t.0 (sym e ∙ t.1)) t.2 }

-- the kinds of an area with the counts n, whose words and records, from r on, are lent
module _ (n : Shape) (ws : List ℕ) {r : ℕ} (there : r ≡ records_at n) where
  abbrev P : ℕ
  P = n.processes

  abbrev f : List ℕ → Option (List ℕ)
  f = passed (drop 5 ws) (records n ws) P 0 (1 + n.parks)

  abbrev g : List ℕ → Option (List ℕ)
  g = passed (drop (conditions_at n) ws) (records n ws) P 2 n.conditions

  abbrev h : List ℕ → Option (List ℕ)
  h = passed (drop (locks_at n) ws) (records n ws) P 1 n.locks

  abbrev Lent : ℕ → ℕ → ℕ → ℕ → List ℕ → Option ℕ → List ℕ → Type 0
  Lent k a number = Pass P (passed (from ws a) (from ws r) P k number)

  module _ {number₁ : ℕ} (many₁ : number₁ ≡ n.parks) (c₁ : Option ℕ) (ms₁ : List ℕ) (t₁ : Lent 0 5 (1 + number₁) 0 clear c₁ ms₁) where
    u₁ : Told P c₁ ms₁ (f [])
    u₁ =
        let u : Pass P f 0 clear c₁ ms₁ = rw (there, many₁, part_lent 5 ws, part_lent (records_at n) ws) at t₁ in
        u [] (record { table = table_clear; counts = refl; few = omega arith })

    pub says_1 : c₁ ≡ None → None ≡ option_map length (all_passed n ws)
    says_1 e = rw (told_broken P c₁ ms₁ (f []) u₁ e) refl

    module _ {m₁ : ℕ} (n₁ : c₁ ≡ Some m₁) {a₂ : ℕ} (here₂ : a₂ ≡ conditions_at n) {number₂ : ℕ} (many₂ : number₂ ≡ n.conditions)
        (c₂ : Option ℕ) (ms₂ : List ℕ) (t₂ : Lent 2 a₂ number₂ m₁ ms₁ c₂ ms₂) where
      l₁ : Left P m₁ ms₁ (f [])
      l₁ = told_met P m₁ c₁ ms₁ (f []) u₁ n₁

      u₂ : Told P c₂ ms₂ (g l₁.js)
      u₂ =
          let u : Pass P g m₁ ms₁ c₂ ms₂ = rw (here₂, there, many₂, part_lent (conditions_at n) ws, part_lent (records_at n) ws) at t₂ in
          u l₁.js l₁.met

      pub says_2 : c₂ ≡ None → None ≡ option_map length (all_passed n ws)
      says_2 e = rw (l₁.is, told_broken P c₂ ms₂ (g l₁.js) u₂ e) refl

      module _ {m₂ : ℕ} (n₂ : c₂ ≡ Some m₂) {a₃ : ℕ} (here₃ : a₃ ≡ locks_at n) {number₃ : ℕ} (many₃ : number₃ ≡ n.locks)
          (c₃ : Option ℕ) (ms₃ : List ℕ) (t₃ : Lent 1 a₃ number₃ m₂ ms₂ c₃ ms₃) where
        l₂ : Left P m₂ ms₂ (g l₁.js)
        l₂ = told_met P m₂ c₂ ms₂ (g l₁.js) u₂ n₂

        pub says_number : c₃ ≡ option_map length (all_passed n ws)
        says_number =
            let u : Pass P h m₂ ms₂ c₃ ms₃ = rw (here₃, there, many₃, part_lent (locks_at n) ws, part_lent (records_at n) ws) at t₃ in
            rw (l₁.is, l₂.is) (told_number P c₃ ms₃ (h l₂.js) (u l₂.js l₂.met))
