-- The ledger's readings: one more note moves one process, and a process stands where its newest note says. Assumes nothing.
use Prim.Native.Nat.{ℕ, zero, suc, ◌+◌, ◌≤◌, ◌<◌}
use native.Mathlib.Nat.{zero-add}
use native.Mathlib.Omega.{arith}
use mathlib.Core.Path.{◌≡◌, refl, ap, sym, ◌∙◌}
use mathlib.Core.Bool.{Bool, true, false, ◌||◌, cond, or-false, or_assoc}
use mathlib.Core.List.{List, [], ◌∷◌, ◌++◌, append_assoc, append-nil}
use lib.Dec.{eqb}
use Rattle.model.specs.Queue.{Queue, Note, bit, same, count, remove, insert, move, All}
use Rattle.model.specs.Ledger.{noted, newest, sent_to, lying, of_priority, by_priority, reading, lies}
use Rattle.model.proofs.Tests.{holds, fails, EqCase, eqb_case, eqb_yes, eqb_no, eqb_comm, or_split}
use Rattle.model.proofs.Lists.{remove_append, count_append, all_append, SameOff, insert_skip, insert_front}

-- ---- the newest notes, with one note more

-- without the notes of p
abbrev without : ℕ → List Note → List Note
without p [] = []
without p (m ∷ ms) = cond (eqb m.0 p) (without p ms) (m ∷ without p ms)

noted_snoc : (x p : ℕ) (q : Queue) (ns : List Note) → noted x (ns ++ ((p, q) ∷ [])) ≡ noted x ns || eqb p x
noted_snoc x p q [] = or-false (eqb p x)
noted_snoc x p q (m ∷ ns) = rw (noted_snoc x p q ns, ← or_assoc)

newest_snoc : (p : ℕ) (q : Queue) (ns : List Note) → newest (ns ++ ((p, q) ∷ [])) ≡ without p (newest ns) ++ ((p, q) ∷ [])
newest_snoc p q [] = refl
newest_snoc p q (m ∷ ns) = rw (noted_snoc m.0 p q ns, newest_snoc p q ns, eqb_comm p m.0) (go (noted m.0 ns) (eqb m.0 p) refl)
  where
    go : (b c : Bool) → eqb m.0 p ≡ c
        → cond (b || c) (without p (newest ns) ++ ((p, q) ∷ [])) (m ∷ (without p (newest ns) ++ ((p, q) ∷ []))) ≡ without p (cond b (newest ns) (m ∷ newest ns)) ++ ((p, q) ∷ [])
    go true c e = refl
    go false true e = rw e
    go false false e = rw e

sent_to_append : (q : Queue) (xs ys : List Note) → sent_to q (xs ++ ys) ≡ sent_to q xs ++ sent_to q ys
sent_to_append q [] ys = refl
sent_to_append q (m ∷ xs) ys = rw (sent_to_append q xs ys) (go (same m.1 q))
  where
    go : (b : Bool) → cond b (m.0 ∷ (sent_to q xs ++ sent_to q ys)) (sent_to q xs ++ sent_to q ys) ≡ cond b (m.0 ∷ sent_to q xs) (sent_to q xs) ++ sent_to q ys
    go true = refl
    go false = refl

sent_to_without : (q : Queue) (p : ℕ) (xs : List Note) → sent_to q (without p xs) ≡ remove p (sent_to q xs)
sent_to_without q p [] = refl
sent_to_without q p (m ∷ xs) = go (eqb m.0 p) (same m.1 q) refl refl (sent_to_without q p xs)
  where
    go : (b c : Bool) → eqb m.0 p ≡ b → same m.1 q ≡ c → sent_to q (without p xs) ≡ remove p (sent_to q xs)
        → sent_to q (without p (m ∷ xs)) ≡ remove p (sent_to q (m ∷ xs))
    go true true e d ih = rw (e, d, e) ih
    go true false e d ih = rw (e, d) ih
    go false true e d ih = rw (e, d, e) (ap {B = List ℕ} (λ r. m.0 ∷ r) ih)
    go false false e d ih = rw (e, d) ih

lying_snoc : (r : Queue) (p : ℕ) (q : Queue) (ns : List Note) → lying r (ns ++ ((p, q) ∷ [])) ≡ remove p (lying r ns) ++ cond (same q r) (p ∷ []) []
lying_snoc r p q ns = rw (newest_snoc p q ns, sent_to_append r (without p (newest ns)) ((p, q) ∷ []), sent_to_without r p (newest ns))

-- ---- by falling priority

pub of_append : (pr : ℕ → ℕ) (v : ℕ) (xs ys : List ℕ) → of_priority pr v (xs ++ ys) ≡ of_priority pr v xs ++ of_priority pr v ys
of_append pr v [] ys = refl
of_append pr v (x ∷ xs) ys = rw (of_append pr v xs ys) (go (eqb (pr x) v))
  where
    go : (b : Bool) → cond b (x ∷ (of_priority pr v xs ++ of_priority pr v ys)) (of_priority pr v xs ++ of_priority pr v ys) ≡ cond b (x ∷ of_priority pr v xs) (of_priority pr v xs) ++ of_priority pr v ys
    go true = refl
    go false = refl

of_remove : (pr : ℕ → ℕ) (v p : ℕ) (xs : List ℕ) → of_priority pr v (remove p xs) ≡ remove p (of_priority pr v xs)
of_remove pr v p [] = refl
of_remove pr v p (x ∷ xs) = go (eqb x p) (eqb (pr x) v) refl refl (of_remove pr v p xs)
  where
    go : (b c : Bool) → eqb x p ≡ b → eqb (pr x) v ≡ c → of_priority pr v (remove p xs) ≡ remove p (of_priority pr v xs)
        → of_priority pr v (remove p (x ∷ xs)) ≡ remove p (of_priority pr v (x ∷ xs))
    go true true e d ih = rw (e, d, e) ih
    go true false e d ih = rw (e, d) ih
    go false true e d ih = rw (e, d, e) (ap {B = List ℕ} (λ r. x ∷ r) ih)
    go false false e d ih = rw (e, d) ih

by_remove : (pr : ℕ → ℕ) (v p : ℕ) (xs : List ℕ) → by_priority pr v (remove p xs) ≡ remove p (by_priority pr v xs)
by_remove pr zero p xs = of_remove pr zero p xs
by_remove pr (suc v) p xs = rw (of_remove pr (suc v) p xs, by_remove pr v p xs, remove_append p (of_priority pr (suc v) xs) (by_priority pr v xs))

of_off : (f g : ℕ → ℕ) (p v : ℕ) (xs : List ℕ) → SameOff p f g → of_priority f v (remove p xs) ≡ of_priority g v (remove p xs)
of_off f g p v [] h = refl
of_off f g p v (x ∷ xs) h = go (eqb_case x p) (of_off f g p v xs h)
  where
    go : EqCase x p → of_priority f v (remove p xs) ≡ of_priority g v (remove p xs) → of_priority f v (remove p (x ∷ xs)) ≡ of_priority g v (remove p (x ∷ xs))
    go (holds q e) ih = rw e ih
    go (fails q e) ih = rw (e, h x q, ih)

by_off : (f g : ℕ → ℕ) (p v : ℕ) (xs : List ℕ) → SameOff p f g → by_priority f v (remove p xs) ≡ by_priority g v (remove p xs)
by_off f g p zero xs h = of_off f g p zero xs h
by_off f g p (suc v) xs h = rw (of_off f g p (suc v) xs h, by_off f g p v xs h)

of_all : (pr : ℕ → ℕ) (v : ℕ) (xs : List ℕ) (P : ℕ → Type 0) → ((x : ℕ) → pr x ≡ v → P x) → All P (of_priority pr v xs)
of_all pr v [] P h = tt
of_all pr v (x ∷ xs) P h = go (eqb_case (pr x) v) (of_all pr v xs P h)
  where
    go : EqCase (pr x) v → All P (of_priority pr v xs) → All P (of_priority pr v (x ∷ xs))
    go (holds q e) ih = rw e (h x q, ih)
    go (fails q e) ih = rw e ih

by_all : (pr : ℕ → ℕ) (v : ℕ) (xs : List ℕ) (P : ℕ → Type 0) → ((x : ℕ) → pr x ≤ v → P x) → All P (by_priority pr v xs)
by_all pr zero xs P h = of_all pr zero xs P (λ x e. h x (omega arith))
by_all pr (suc v) xs P h = all_append P (of_priority pr (suc v) xs) (by_priority pr v xs)
    (of_all pr (suc v) xs P (λ x e. h x (omega arith))) (by_all pr v xs P (λ x e. h x (omega arith)))

by_high : (pr : ℕ → ℕ) (v p : ℕ) (xs : List ℕ) → v < pr p → by_priority pr v (xs ++ (p ∷ [])) ≡ by_priority pr v xs
by_high pr zero p xs h = rw (of_append pr zero xs (p ∷ []), eqb_no (pr p) zero (omega arith), append-nil)
by_high pr (suc v) p xs h =
    rw (of_append pr (suc v) xs (p ∷ []), eqb_no (pr p) (suc v) (omega arith), append-nil (of_priority pr (suc v) xs), by_high pr v p xs (omega arith))

-- a newcomer at the end of the notes is a newcomer of the queue
pub by_snoc : (pr : ℕ → ℕ) (v p : ℕ) (xs : List ℕ) → pr p ≤ v → by_priority pr v (xs ++ (p ∷ [])) ≡ insert pr p (by_priority pr v xs)
by_snoc pr zero p xs h =
    rw (of_append pr zero xs (p ∷ []), eqb_yes (pr p) zero (omega arith), ← (insert_skip pr p (of_priority pr zero xs) [] (of_all pr zero xs (λ x. pr p ≤ pr x) (λ x e. omega arith))), append-nil)
by_snoc pr (suc v) p xs h = go (eqb_case (pr p) (suc v)) (λ k. by_snoc pr v p xs k)
  where
    A : List ℕ
    A = of_priority pr (suc v) xs

    B : List ℕ
    B = by_priority pr v xs

    split : by_priority pr (suc v) (xs ++ (p ∷ [])) ≡ (A ++ cond (eqb (pr p) (suc v)) (p ∷ []) []) ++ by_priority pr v (xs ++ (p ∷ []))
    split = rw (of_append pr (suc v) xs (p ∷ []))

    skip : insert pr p (A ++ B) ≡ A ++ insert pr p B
    skip = insert_skip pr p A B (of_all pr (suc v) xs (λ x. pr p ≤ pr x) (λ x e. omega arith))

    go : EqCase (pr p) (suc v) → (pr p ≤ v → by_priority pr v (xs ++ (p ∷ [])) ≡ insert pr p B) → by_priority pr (suc v) (xs ++ (p ∷ [])) ≡ insert pr p (A ++ B)
    go (holds q e) ih = split ∙ rw (e, by_high pr v p xs (omega arith), skip, insert_front pr p B (by_all pr v xs (λ x. pr x < pr p) (λ x k. omega arith)), append_assoc)
    go (fails q e) ih = split ∙ rw (e, ih (omega arith), skip, append-nil)

-- one more note moves one process, whose priority may have changed
pub reading_snoc : (f g : ℕ → ℕ) (m : Note) (ns : List Note) (r : Queue) → SameOff m.0 f g → g m.0 ≤ 7
    → reading g (ns ++ (m ∷ [])) r ≡ move g (reading f ns) m.0 m.1 r
unfolding reading
reading_snoc f g m ns r off h = rw (lying_snoc r m.0 m.1 ns) (go (same m.1 r))
  where
    removed : by_priority g 7 (remove m.0 (lying r ns)) ≡ remove m.0 (by_priority f 7 (lying r ns))
    removed = sym (by_off f g m.0 7 (lying r ns) off) ∙ by_remove f 7 m.0 (lying r ns)

    go : (b : Bool) → by_priority g 7 (remove m.0 (lying r ns) ++ cond b (m.0 ∷ []) []) ≡ cond b (insert g m.0 (remove m.0 (reading f ns r))) (remove m.0 (reading f ns r))
    go true = by_snoc g 7 m.0 (remove m.0 (lying r ns)) h ∙ ap (insert g m.0) removed
    go false = rw append-nil removed

-- ---- a process stands where its newest note says

unnoted : (p : ℕ) (q : Queue) (ns : List Note) → noted p ns ≡ false → lies ns p q ≡ false
unnoted p q [] e = refl
unnoted p q (m ∷ ms) e = let s = or_split (eqb m.0 p) (noted p ms) e in rw (s.1, s.0)

-- a note about another says nothing of p
passed : (p : ℕ) (q : Queue) (ns : List Note) → lies ns p q ≡ cond (noted p ns) (lies ns p q) false
passed p q ns = go (noted p ns) refl
  where
    go : (b : Bool) → noted p ns ≡ b → lies ns p q ≡ cond b (lies ns p q) false
    go true e = refl
    go false e = unnoted p q ns e

lying_count : (p : ℕ) (q : Queue) (ns : List Note) → count p (lying q ns) ≡ bit (lies ns p q)
lying_count p q [] = refl
lying_count p q (m ∷ ms) = go (noted m.0 ms) refl (eqb_case m.0 p) (lying_count p q ms)
  where
    one : (b : Bool) → eqb m.0 p ≡ true → count p (sent_to q (newest ms)) ≡ 0 → count p (cond b (m.0 ∷ sent_to q (newest ms)) (sent_to q (newest ms))) ≡ bit b
    one true z o = rw (z, o)
    one false z o = o

    none : (b : Bool) → eqb m.0 p ≡ false → count p (cond b (m.0 ∷ sent_to q (newest ms)) (sent_to q (newest ms))) ≡ count p (sent_to q (newest ms))
    none true z = rw z (omega arith)
    none false z = refl

    go : (b : Bool) → noted m.0 ms ≡ b → EqCase m.0 p → count p (lying q ms) ≡ bit (lies ms p q) → count p (lying q (m ∷ ms)) ≡ bit (lies (m ∷ ms) p q)
    go true e (holds d z) ih = let w : noted p ms ≡ true = rw d at e in rw (e, w) ih
    go true e (fails d z) ih = rw (e, z) (ih ∙ ap bit (passed p q ms))
    go false e (holds d z) ih = let w : noted p ms ≡ false = rw d at e in rw (e, z, w) (one (same m.1 q) z (ih ∙ ap bit (unnoted p q ms w)))
    go false e (fails d z) ih = rw (e, z) (none (same m.1 q) z ∙ ih ∙ ap bit (passed p q ms))

pub of_count : (pr : ℕ → ℕ) (v p : ℕ) (xs : List ℕ) → count p (of_priority pr v xs) ≡ cond (eqb (pr p) v) (count p xs) 0
of_count pr v p [] = go (eqb (pr p) v)
  where
    go : (b : Bool) → ◌≡◌ {A = ℕ} 0 (cond b 0 0)
    go true = refl
    go false = refl
of_count pr v p (x ∷ xs) = go (eqb_case x p) (eqb (pr x) v) refl (of_count pr v p xs)
  where
    go : EqCase x p → (b : Bool) → eqb (pr x) v ≡ b → count p (of_priority pr v xs) ≡ cond (eqb (pr p) v) (count p xs) 0 → count p (of_priority pr v (x ∷ xs)) ≡ cond (eqb (pr p) v) (count p (x ∷ xs)) 0
    go (holds d z) true e ih = let w : eqb (pr p) v ≡ true = rw d at e in rw (e, z, w) (ap (λ k. 1 + k) (rw w at ih))
    go (holds d z) false e ih = let w : eqb (pr p) v ≡ false = rw d at e in rw (e, w) (rw w at ih)
    go (fails d z) true e ih = rw (e, z) (simp zero-add ih)
    go (fails d z) false e ih = rw (e, z) (simp zero-add ih)

pub by_count_high : (pr : ℕ → ℕ) (v p : ℕ) (xs : List ℕ) → v < pr p → count p (by_priority pr v xs) ≡ 0
by_count_high pr zero p xs h = of_count pr zero p xs ∙ rw (eqb_no (pr p) 0 (omega arith))
by_count_high pr (suc v) p xs h = rw (count_append p (of_priority pr (suc v) xs) (by_priority pr v xs), of_count pr (suc v) p xs, eqb_no (pr p) (suc v) (omega arith), by_count_high pr v p xs (omega arith))

pub by_count : (pr : ℕ → ℕ) (v p : ℕ) (xs : List ℕ) → pr p ≤ v → count p (by_priority pr v xs) ≡ count p xs
by_count pr zero p xs h = of_count pr zero p xs ∙ rw (eqb_yes (pr p) 0 (omega arith))
by_count pr (suc v) p xs h = rw (count_append p (of_priority pr (suc v) xs) (by_priority pr v xs), of_count pr (suc v) p xs) (go (eqb_case (pr p) (suc v)) (λ k. by_count pr v p xs k))
  where
    go : EqCase (pr p) (suc v) → (pr p ≤ v → count p (by_priority pr v xs) ≡ count p xs) → cond (eqb (pr p) (suc v)) (count p xs) 0 + count p (by_priority pr v xs) ≡ count p xs
    go (holds d z) ih = rw (z, by_count_high pr v p xs (omega arith)) (omega arith)
    go (fails d z) ih = rw (z, ih (omega arith)) (omega arith)

pub reading_count : (pr : ℕ → ℕ) (p : ℕ) (q : Queue) (ns : List Note) → pr p ≤ 7 → count p (reading pr ns q) ≡ bit (lies ns p q)
unfolding reading
reading_count pr p q ns h = by_count pr 7 p (lying q ns) h ∙ lying_count p q ns

-- no notes, no queues
pub reading_none : (pr : ℕ → ℕ) → reading pr [] ≡ (λ q. [])
unfolding reading
reading_none pr = refl
