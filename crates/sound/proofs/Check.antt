-- The passes together: they accept every process, once, exactly where the area is sound. Assumes nothing.
use Prim.Native.Nat.{ℕ, ◌+◌, ◌/◌, ◌≤◌}
use native.Mathlib.Omega.{arith}
use mathlib.Core.Path.{◌≡◌, refl, sym, ◌∙◌, ap}
use mathlib.Core.Bool.{Bool, true, false, not, true≢false, false≢true}
use mathlib.Core.List.{List, [], ◌∷◌, ◌++◌}
use Rattle.std.proofs.Common.{Option, None, Some, option_map, nat_eq, Fits}
use Rattle.std.specs.Option.{option_eq}
use Rattle.std.proofs.lemmas.Bool.Decides.{nat_tests}
use mir.Syntax.{w16}
use Rattle.std.proofs.lemmas.Option.{none-some, same_Some}
use lib.ListN.{length, get_or}
use Rattle.model.specs.declared.Shape.{Shape}
use Rattle.model.specs.Queue.{Queue, inside, bit, exists, member, count, All}
use Rattle.model.specs.Queue.Queue.{ready}
use Rattle.model.proofs.Lists.{absent_count, members_all}
use Rattle.links.specs.Link as links
use Rattle.area.specs.Layout.{records_at}
use Rattle.area.specs.Reading.{shape_of}
use Rattle.area.specs.Rings.{records}
use Rattle.area.specs.Sound.{Sound}
use Rattle.area.proofs.Records.{part_lent}
use Rattle.heads.specs.First.{Decides, Counted, Led, Runs}
use Rattle.members.proofs.Chains.{Words, Member}
use Rattle.sound.specs.Passed.{then, all_passed}
use Rattle.sound.proofs.Queues.{kind_of, holder_word, visits, queues_of, visits_append, passed_visits, from, lent_led, lent_runs}
use Rattle.sound.proofs.Lists.{every, every_in, in_every, in_all, all_in, full_length, length_full}
use Rattle.sound.proofs.Visits.{reading, total, Visited, AllVisited, led, visits_read, visits_full}
use Rattle.sound.proofs.Whole.{whole_sound}
use Rattle.sound.proofs.Passes.{sound_whole}

-- ---- answers

-- the answer b is right for the words ws
abbrev Judged : List ℕ → Bool → Type 0
Judged ws b = (b ≡ true → Sound ws) × (Sound ws → b ≡ true)

refuses : (ws : List ℕ) → (Sound ws → ⊥) → Judged ws false
refuses ws n = ((λ e. absurd (false≢true e)), (λ S. absurd (n S)))

-- ---- what is accepted

total_inside : (ws : List ℕ) (x : ℕ) (qs : List Queue) → All (Visited ws) qs → inside (get_or ws 0 0) x ≡ false → total ws x qs ≡ 0
total_inside ws x [] v i = refl
total_inside ws x (q ∷ qs) v i = let a = go (member x (reading ws q)) refl in let ih = total_inside ws x qs v.1 i in omega arith
  where
    go : (b : Bool) → member x (reading ws q) ≡ b → count x (reading ws q) ≡ 0
    go false m = absent_count x (reading ws q) m
    go true m =
        let k = members_all (Member (records (shape_of ws) ws) (get_or ws 0 0) (kind_of q) (holder_word ws q / 8)) (reading ws q) v.0.ring.members x m in
        absurd (true≢false (sym k.within ∙ i))

module _ (ws : List ℕ) (small : Words ws) where
  abbrev P : ℕ
  P = get_or ws 0 0

  abbrev all : List Queue
  all = every (shape_of ws)

  passes : Counted ws → (js : List ℕ) → visits ws all [] ≡ Some js → AllVisited ws all [] js
  passes c js w = visits_read ws all [] js (all_in (λ q. exists (shape_of ws) q ≡ true) all (in_every (shape_of ws))) c.processes (λ x. omega arith) w

  accepted : Counted ws → Runs ws (records (shape_of ws) ws) → (js : List ℕ) → visits ws all [] ≡ Some js → length js ≡ P → Sound ws
  accepted c u js w l =
      let a = passes c js w in
      let f : (x : ℕ) → count x js ≡ bit (inside P x) = length_full P js (λ x. bound a x (inside P x) refl) l in
      whole_sound ws small
      record {
        counts = c;
        runs = u;
        each = λ q h. in_all (Visited ws) all a.each q (every_in (shape_of ws) q h);
        once = λ x. let b = a.counts x in let d = f x in omega arith;
      }
    where
      bound : AllVisited ws all [] js → (x : ℕ) (b : Bool) → inside P x ≡ b → count x js ≤ bit (inside P x)
      bound a x true i = rw i (a.once x)
      bound a x false i = let t = total_inside ws x all a.each i in let b = a.counts x in omega arith

  -- a sound area is passed to the end
  record Complete : Type 0 where
    left : List ℕ
    is : visits ws all [] ≡ Some left
    every_one : length left ≡ P

  complete : Sound ws → Complete
  complete S =
      let W = sound_whole ws small S in
      let f = visits_full ws all [] small (all_in (Visited ws) all (λ q i. W.each q (in_every (shape_of ws) q i))) (λ x. let b = W.once x in omega arith) in
      record { left = f.left; is = f.is; every_one = full_length P f.left (λ x. let b = W.once x in let d = f.counts x in omega arith) }

  uncounted : (Counted ws → ⊥) → Sound ws → ⊥
  uncounted h S = h (sound_whole ws small S).counts

  unready : (Runs ws (records (shape_of ws) ws) → ⊥) → Sound ws → ⊥
  unready h S = h (sound_whole ws small S).runs

  uneven : ((js : List ℕ) → visits ws all [] ≡ Some js → length js ≡ P → ⊥) → Sound ws → ⊥
  uneven z S = let k = complete S in z k.left k.is k.every_one

  module _ (C : Counted ws) (js : List ℕ) (w : visits ws all [] ≡ Some js) where
    -- the tail of ready and who comes after it are processes
    ready_led : (get_or ws 5 0 / 8 ≡ 0 → ⊥) → (inside (get_or ws 0 0) (get_or ws 5 0 / 8) ≡ true) × (inside (get_or ws 0 0) (links.next (records (shape_of ws) ws) (get_or ws 5 0 / 8)) ≡ true)
    ready_led = led ws (in_all (Visited ws) all (passes C js w).each ready (every_in (shape_of ws) ready refl))

    -- what is left to ask is whether running is in order
    decided : length js ≡ P → (b : Bool) → Decides b (Runs ws (records (shape_of ws) ws)) → Judged ws b
    decided l true u = ((λ e. accepted C u js w l), λ S. refl)
    decided l false n = refuses ws (unready n)

-- ---- the passes over the kinds are one over all queues

then_same : (o : Option (List ℕ)) (f g : List ℕ → Option (List ℕ)) → ((js : List ℕ) → f js ≡ g js) → then o f ≡ then o g
then_same None f g e = refl
then_same (Some js) f g e = e js

all_visits : (ws : List ℕ) → all_passed (shape_of ws) ws ≡ visits ws (every (shape_of ws)) []
all_visits ws =
    then_same _ _ (visits ws locks) (passed_visits ws 1 (omega arith) n.locks)
    ∙ ap (λ (o : Option (List ℕ)). then o (visits ws locks)) (then_same _ _ (visits ws conditions) (passed_visits ws 2 (omega arith) n.conditions))
    ∙ rw (passed_visits ws 0 (omega arith) (1 + n.parks) []) (go (visits ws plain []))
    ∙ sym (visits_append ws plain (conditions ++ locks) [])
  where
    n : Shape
    n = shape_of ws

    plain : List Queue
    plain = queues_of 0 (1 + n.parks)

    conditions : List Queue
    conditions = queues_of 2 n.conditions

    locks : List Queue
    locks = queues_of 1 n.locks

    go : (o : Option (List ℕ)) → then (then o (visits ws conditions)) (visits ws locks) ≡ then o (visits ws (conditions ++ locks))
    go None = refl
    go (Some is) = sym (visits_append ws conditions locks is)

-- ---- the answers of the code, which lends itself all of the words and then parts of them

-- an answer about the words from 0 on is one about all of them
whole : (words : List ℕ) (b : Bool) → Judged (from words 0) b → Judged words b
whole words b h = rw (part_lent 0 words) at h

-- who is met, by their number
record Heard (q : ℕ) (out : Option (List ℕ)) : Type 0 where
  js : List ℕ
  is : out ≡ Some js
  all : length js ≡ q

-- two Options, held against each other
unlike : (c : Option ℕ) (q : ℕ) → true ≡ not (option_eq nat_eq c (Some q)) → c ≡ Some q → ⊥
unlike c q e z = let d : true ≡ not (nat_eq q q) = rw z at e in grind (arith, nat_tests)

alike : (c : Option ℕ) (q : ℕ) → false ≡ not (option_eq nat_eq c (Some q)) → c ≡ Some q
alike None q e = absurd (false≢true e)
alike (Some m) q e = ap Some (grind (arith, nat_tests))

heard : (q : ℕ) (out : Option (List ℕ)) → Some q ≡ option_map length out → Heard q out
heard q None e = absurd (none-some q (sym e))
heard q (Some js) e = record { js = js; is = refl; all = sym (same_Some q (length js) e) }

module _ (words : List ℕ) (low : (i : ℕ) → Fits w16 (get_or words i 0)) (b : Bool) (d : Decides b (Counted (from words 0))) where
  abbrev ws : List ℕ
  ws = from words 0

  small : Words ws
  small = rw (part_lent 0 words) (λ i. omega (arith, low i))

  no : (Sound ws → ⊥) → Judged words false
  no n = whole words false (refuses ws n)

  pub says_uncounted : b ≡ false → Judged words false
  says_uncounted x = no (uncounted ws small (rw x at d))

  -- past the counts n, with c the number met, held against q, that of the processes
  module _ (x : b ≡ true) {n : Shape} (e : n ≡ shape_of ws) {c : Option ℕ} (told : c ≡ option_map length (all_passed n ws)) {q : ℕ} (f : q ≡ n.processes) where
    counts : Counted ws
    counts = rw x at d

    seen : c ≡ option_map length (visits ws (every (shape_of ws)) [])
    seen = rw (e, all_visits ws) at told

    asked : q ≡ get_or ws 0 0
    asked = f ∙ ap (λ (m : Shape). m.processes) e

    pub says_uneven : true ≡ not (option_eq nat_eq c (Some q)) → Judged words false
    says_uneven z = no (uneven ws small (λ js w l. unlike c q z (seen ∙ rw w (ap Some (l ∙ sym asked)))))

    module _ (y : false ≡ not (option_eq nat_eq c (Some q))) {r : ℕ} (there : r ≡ records_at n) where
      a : Heard q (visits ws (every (shape_of ws)) [])
      a = heard q _ (sym (alike c q y) ∙ seen)

      pub says_led : (6 ≤ length ws) × Led ws (from ws r)
      says_led = lent_led ws e there counts (ready_led ws small counts a.js a.is)

      pub says_runs : (b : Bool) → Decides b (Runs ws (from ws r)) → Judged words b
      says_runs b h = whole words b (decided ws small counts a.js a.is (a.all ∙ asked) b (lent_runs ws e there b h))
