-- A run of bytes goes on the line, and the newline behind it ends the line. Assumes nothing.
use Rattle.std.proofs.Common.{◌+◌, ℕ, List, [], ◌∷◌, ◌++◌, length, get_or, take, length-append, length-drop, refl, ap, subst, ◌∙◌, rules, arith}
use Rattle.std.proofs.lemmas.List.{take_rest}
use Rattle.lines.specs.Lines.{progress, Feeds}
use Rattle.lines.specs.Session.{progress_of, told}
use Rattle.lines.proofs.Cuts.{newline_some, newline_none}
use Rattle.lines.proofs.Feeding.{feeds_none, feeds_plain, feeds_newline, left_on}
use Rattle.lines.proofs.Session.feed.Goals as goal

pub loop-at-init : goal.loop-at-init
loop-at-init c = record {
  within = rw c.clear.ensures.same_room (omega arith);
  same_slices = search rules;
  fed = ([], refl, feeds_none (rw c.clear.ensures.empty refl));
}

pub answer-requires : goal.answer-requires
answer-requires c = let n = newline_some c.loop-at.left.now c.in-Some.ensures in record { answer_fits = omega arith }

pub overflow_add-left : goal.overflow_add-left
overflow_add-left c =
    let l = c.loop-at in
    let n = newline_some l.left.now c.in-Some.ensures in
    omega (arith, ap length l.invariant.fed.1, length-append l.invariant.fed.0 l.left.now)

pub loop-at-smaller : goal.loop-at-smaller
loop-at-smaller c = let n = newline_some c.loop-at.left.now c.in-Some.ensures in omega (arith, length-drop (c.in-Some.at + 1) c.loop-at.left.now)

pub loop-at-preserved : goal.loop-at-preserved
loop-at-preserved c =
    let l = c.loop-at in
    let left = l.left.now in
    let at = c.in-Some.at in
    let n = newline_some left c.in-Some.ensures in
    let line = c.extend.new.self in
    let new = c.answer.new.self in
    rw (take_rest left (at + 1)) (record {
      within = omega (arith, c.answer.ensures.within, length-drop (at + 1) left);
      same_slices = search rules;
      fed = (
        l.invariant.fed.0 ++ take at left ++ (get_or left at 0 ∷ []),
        left_on l.invariant.fed.0 left at n.0 ∙ l.invariant.fed.1,
        feeds_newline (feeds_plain l.invariant.fed.2 (take at left) (progress line.room.now line.fill l.self.desk.area.now) n.2 refl (omega arith) c.extend.ensures.kept) (get_or left at 0) (progress_of new) (told new) c.answer.ensures.next n.1 (omega arith) c.answer.ensures.puts,
      );
    })

pub returns-clause-feeds : goal.returns-clause-feeds
returns-clause-feeds c =
    let l = c.loop-at in
    let line = c.extend-2.new.self in
    let h = progress line.room.now line.fill l.self.desk.area.now in
    subst (λ (xs : List ℕ). Feeds xs (progress_of c.args.self.now) h (told l.self)) l.invariant.fed.1 (feeds_plain l.invariant.fed.2 l.left.now h (newline_none l.left.now c.in_default.ensures) refl (omega arith) c.extend-2.ensures.kept)

pub returns-clause-same_slices : goal.returns-clause-same_slices
returns-clause-same_slices c = search rules
