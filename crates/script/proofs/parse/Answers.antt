-- A line that is long, that begins with no name or has a word that is no number means nothing; else its name leads on with its numbers. Assumes nothing.
use mathlib.Core.Path.{sym, ◌∙◌, subst⁻¹}
use Rattle.script.specs.Line.{Meaning}
use Rattle.script.specs.Read.{Tells}
use Rattle.script.proofs.Meanings.{meaning_unnamed, meaning_none, meaning_said}
use Rattle.script.proofs.parse.Goals as goal

pub returns-in_err-name : goal.returns-in_err-name
returns-in_err-name c =
    rw c.from_residual.ensures (meaning_unnamed c.args.line.now c.word_end-end.result c.if-line-gt-LONGEST.false c.word_end-end.ensures.value (sym c.name_of.ensures ∙ c.in_err-name.was))

pub returns-in_err-count : goal.returns-in_err-count
returns-in_err-count c =
    rw c.from_residual-in_err-count.ensures (meaning_none c.args.line.now c.word_end-end.result c.if-line-gt-LONGEST.false c.word_end-end.ensures.value (c.in_err-count.ensures))

pub returns : goal.returns
returns c =
    let found = c.in_ok-count.ensures in
    let m = meaning_said c.args.line.now c.word_end-end.result c.if-line-gt-LONGEST.false c.word_end-end.ensures.value c.in_ok-name.name _ (sym c.name_of.ensures ∙ c.in_ok-name.was) found.1.0 found.1.1 in
    subst⁻¹ (λ (x : Meaning). Tells c.line_of.result c.line_of.new.bytes x) m c.line_of.ensures
