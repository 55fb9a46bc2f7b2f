-- Many go to ready, one after the other: every other queue is left without them, and ready has them joined in order. By induction on those who go. Assumes nothing.
use Prim.Native.Nat.{ℕ, zero, suc, ◌+◌, ◌≤◌, ◌<◌}
use native.Mathlib.Omega.{arith}
use mathlib.Core.Path.{◌≡◌, refl, sym, ap, ◌∙◌, subst}
use mathlib.Core.Logic.{◌≢◌}
use mathlib.Core.Bool.{Bool, true, false, not, cond}
use mathlib.Core.List.{List, [], ◌∷◌, ◌++◌}
use lib.Dec.{eqb}
use Rattle.model.specs.declared.Shape.{Shape}
use Rattle.model.specs.Queue.{Queue, up_to, inside, exists, bit, member, count, filter, remove, insert, joined, move, to_ready, Falling}
use Rattle.model.specs.Queue.Queue.{ready}
use Rattle.model.specs.Field.{Field, Fields, put, priorities}
use Rattle.model.specs.Field.Field.{armed, timer}
use Rattle.model.specs.Rules.{disarm, calm}
use Rattle.model.specs.Machine.{State, model, moves}
use Rattle.model.specs.Valid.{room, Placed}
use Rattle.model.proofs.Tests.{holds, fails, EqCase, eqb_case, PutCase, put_case, eqb_comm, inside_bounds, denied}
use Rattle.model.proofs.Lists.{count_insert, count_append, member_count, absent_count, member_bit, member_here, member_there, remove_absent, falling_insert, up_to_member}
use Rattle.model.proofs.Fields.{calm_priorities}
use Rattle.model.proofs.Places.{sent, relocate, ready_movers, stands_moves, falling_all}
use Rattle.model.proofs.Loops.{move_to, move_off}

-- ---- those who stay

-- those of xs that are none of ps
abbrev pub without : List ℕ → List ℕ → List ℕ
without ps xs = filter (λ x. not (member x ps)) xs

pub filter_all : (t : ℕ → Bool) (xs : List ℕ) → ((x : ℕ) → member x xs ≡ true → t x ≡ true) → filter t xs ≡ xs
filter_all t [] h = refl
filter_all t (x ∷ xs) h = rw (h x (member_here x xs), filter_all t xs (λ y m. h y (member_there y x xs m)))

pub filter_none : (t : ℕ → Bool) (xs : List ℕ) → ((x : ℕ) → member x xs ≡ true → t x ≡ false) → filter t xs ≡ []
filter_none t [] h = refl
filter_none t (x ∷ xs) h = rw (h x (member_here x xs)) (filter_none t xs (λ y m. h y (member_there y x xs m)))

-- tests that agree on xs
pub filter_agree : (t u : ℕ → Bool) (xs : List ℕ) → ((x : ℕ) → member x xs ≡ true → t x ≡ u x) → filter t xs ≡ filter u xs
filter_agree t u [] h = refl
filter_agree t u (x ∷ xs) h = rw (h x (member_here x xs), filter_agree t u xs (λ y m. h y (member_there y x xs m)))

-- one leaves, and then the others
without_remove : (p : ℕ) (ps xs : List ℕ) → without ps (remove p xs) ≡ without (p ∷ ps) xs
without_remove p ps [] = refl
without_remove p ps (x ∷ xs) = go (eqb x p) refl (without_remove p ps xs)
  where
    go : (b : Bool) → eqb x p ≡ b → without ps (remove p xs) ≡ without (p ∷ ps) xs → without ps (remove p (x ∷ xs)) ≡ without (p ∷ ps) (x ∷ xs)
    go true e ih = rw (e, eqb_comm p x, e) ih
    go false e ih = rw (e, eqb_comm p x, e, ih)

-- ---- those who join

pub joined_snoc : (pr : ℕ → ℕ) (ps : List ℕ) (p : ℕ) (xs : List ℕ) → joined pr (ps ++ (p ∷ [])) xs ≡ insert pr p (joined pr ps xs)
joined_snoc pr [] p xs = refl
joined_snoc pr (x ∷ ps) p xs = joined_snoc pr ps p (insert pr x xs)

pub joined_falls : (pr : ℕ → ℕ) (ps xs : List ℕ) → Falling pr xs → Falling pr (joined pr ps xs)
joined_falls pr [] xs h = h
joined_falls pr (p ∷ ps) xs h = joined_falls pr ps (insert pr p xs) (falling_insert pr p xs h)

pub joined_count : (pr : ℕ → ℕ) (x : ℕ) (ps xs : List ℕ) → count x (joined pr ps xs) ≡ count x ps + count x xs
joined_count pr x [] xs = omega arith
joined_count pr x (p ∷ ps) xs = let h = joined_count pr x ps (insert pr p xs) in let k = count_insert pr x p xs in omega arith

-- who is neither of those who join nor of those who were there
pub joined_out : (pr : ℕ → ℕ) (x : ℕ) (ps xs : List ℕ) → member x ps ≡ false → member x xs ≡ false → member x (joined pr ps xs) ≡ false
joined_out pr x ps xs h k =
    member_bit x (joined pr ps xs) false (let c = joined_count pr x ps xs in let a = absent_count x ps h in let b = absent_count x xs k in omega arith)

-- ---- the moves

-- the queues other than ready
pub many_others : (pr : ℕ → ℕ) (ps : List ℕ) (qs : Queue → List ℕ) (q : Queue) → ready ≢ q → moves model pr qs (to_ready ps) q ≡ without ps (qs q)
many_others pr [] qs q o = sym (filter_all (λ x. true) (qs q) (λ x m. refl))
many_others pr (p ∷ ps) qs q o = many_others pr ps (move pr qs p ready) q o ∙ ap (without ps) (move_off pr qs p ready q o) ∙ without_remove p ps (qs q)

-- ready, where they are distinct and none of them stood there
pub many_ready : (pr : ℕ → ℕ) (ps : List ℕ) (qs : Queue → List ℕ) → ((p : ℕ) → count p ps ≤ 1) → ((p : ℕ) → member p ps ≡ true → member p (qs ready) ≡ false)
    → moves model pr qs (to_ready ps) ready ≡ joined pr ps (qs ready)
many_ready pr [] qs once out = refl
many_ready pr (p ∷ ps) qs once out =
    many_ready pr ps (move pr qs p ready) (λ x. let h = once x in omega arith) fresh ∙ ap (joined pr ps) here
  where
    here : move pr qs p ready ready ≡ insert pr p (qs ready)
    here = move_to pr qs p ready ∙ ap (insert pr p) (remove_absent p (qs ready) (absent_count p (qs ready) (out p (member_here p ps))))

    -- the others are not p
    other : (x : ℕ) → member x ps ≡ true → bit (eqb p x) ≡ 0
    other x m = let h = once x in let k = member_count x ps m in omega arith

    fresh : (x : ℕ) → member x ps ≡ true → member x (move pr qs p ready ready) ≡ false
    fresh x m =
        rw here (member_bit x (insert pr p (qs ready)) false
        (let c = count_insert pr x p (qs ready) in let a = other x m in let b = absent_count x (qs ready) (out x (member_there x p ps m)) in omega arith))

-- ---- some of 1 to n, in order

pub filter_once : (t : ℕ → Bool) (p : ℕ) (xs : List ℕ) → count p (filter t xs) ≤ count p xs
filter_once t p [] = omega arith
filter_once t p (x ∷ xs) = go (t x) (filter_once t p xs)
  where
    go : (b : Bool) → count p (filter t xs) ≤ count p xs → count p (cond b (x ∷ filter t xs) (filter t xs)) ≤ count p (x ∷ xs)
    go true ih = omega arith
    go false ih = omega arith

pub up_to_once : (n p : ℕ) → count p (up_to n) ≤ 1
up_to_once zero p = omega arith
up_to_once (suc n) p = rw (count_append p (up_to n) (suc n ∷ [])) (go (eqb_case (suc n) p) (up_to_once n p))
  where
    go : EqCase (suc n) p → count p (up_to n) ≤ 1 → count p (up_to n) + (bit (eqb (suc n) p) + 0) ≤ 1
    go (holds d z) ih =
        let h = absent_count p (up_to n) (denied (member p (up_to n)) (λ m. let b = inside_bounds n p (up_to_member n p m) in omega arith)) in
        rw z (omega arith)
    go (fails d z) ih = rw z (omega arith)

-- ---- a state in which many have gone to ready

-- 0 is in every field's range
zero_range : (n : Shape) (g : Field) (s : Fields) → ((f : Field) → s f < room n f) → (f : Field) → put g 0 s f < room n f
zero_range n g s h f = go (put_case g f)
  where
    zeros : put g 0 s f ≡ 0 → put g 0 s f < room n f
    zeros e = let k = h f in omega arith

    go : PutCase g f → put g 0 s f < room n f
    go (holds e z) = zeros (rw z)
    go (fails e z) = rw z (h f)

calm_range : (n : Shape) (ps : List ℕ) (s : Fields) → ((f : Field) → s f < room n f) → (f : Field) → calm ps s f < room n f
calm_range n [] s h = h
calm_range n (p ∷ ps) s h = calm_range n ps (disarm p s) (zero_range n (armed p) (put (timer p) 0 s) (zero_range n (timer p) s h))

relocate_real : (n : Shape) (ps : List ℕ) (place : ℕ → Queue) (p : ℕ) → exists n (place p) ≡ true → exists n (relocate place (to_ready ps) p) ≡ true
relocate_real n [] place p h = h
relocate_real n (x ∷ ps) place p h = relocate_real n ps (sent place (x, ready)) p (go (eqb x p))
  where
    go : (b : Bool) → exists n (cond b ready (place p)) ≡ true
    go true = refl
    go false = h

pub placed_woken : (n : Shape) (s : State model) (ps : List ℕ) → Placed n s → ((p : ℕ) → member p ps ≡ true → inside n.processes p ≡ true)
    → Placed n (record { fields = calm ps s.fields; queues = moves model (priorities (calm ps s.fields)) s.queues (to_ready ps) })
placed_woken n s ps P h = record {
  counts = P.counts;
  range = calm_range n ps s.fields P.range;
  place = relocate P.place (to_ready ps);
  real = λ p i. relocate_real n ps P.place p (P.real p i);
  once = stands_moves n.processes (priorities (calm ps s.fields)) (to_ready ps) s.queues P.place P.once (ready_movers n.processes ps h);
  falls = falling_all (priorities (calm ps s.fields)) (to_ready ps) s.queues (λ q. subst (λ (pr : ℕ → ℕ). Falling pr (s.queues q)) (sym (calm_priorities ps s.fields)) (P.falls q));
}
