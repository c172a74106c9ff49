-- `words::body` meets its contract: from each place of the loop, inside a comment or not, the same rest of the text is left.
use Rattle.std.proofs.Common.{arith, sym, ◌∙◌, true, false}
use Rattle.formula.proofs.TokenLaws.{comment_on, separator_passed, comment_begins, comments_over, comments_end, rest_known, rest_on}
use Rattle.formula.proofs.words.body.Goals as goal
use Rattle.formula.proofs.words.body.Goals.{then-inside, else-inside+then-b-eq-LETTER_C, else-inside+else-b-eq-LETTER_C+else-not-is_separator}

pub returns-then-not-is_separator : goal.returns-then-not-is_separator
returns-then-not-is_separator c =
    let s = c.args.text.now in
    let l = c.loop-at in (
      comments_over s l.at c.loop-at-test.true (sym c.is_separator.ensures ∙ c.if-not-is_separator.true) c.if-b-eq-LETTER_C.false
          ∙ rest_known s l.at _ l.inside false c.if-inside.false l.invariant,
      omega arith,
    )

pub loop-at-preserved : goal.loop-at-preserved
loop-at-preserved c =
    let s = c.args.text.now in
    let l = c.loop-at in
    let h = c.loop-at-test.true in
    elim c.if-inside.branch [
      | then-inside w ↦ rest_on s l.at _ l.inside true w.if-inside.true l.invariant _ _ w.inside-is (comment_on s l.at h)
      | else-inside+then-b-eq-LETTER_C w ↦ rest_on s l.at _ l.inside false w.if-inside.false l.invariant _ true w.inside-is (comment_begins s l.at h w.if-b-eq-LETTER_C.true)
      | else-inside+else-b-eq-LETTER_C+else-not-is_separator w ↦ rest_on s l.at _ l.inside false w.if-inside.false l.invariant _ false (w.inside-is ∙ w.if-inside.false) (separator_passed s l.at h (sym w.is_separator.ensures ∙ w.if-not-is_separator.false))
    ]

pub returns : goal.returns
returns c = let l = c.loop-at in (comments_end c.args.text.now l.at _ l.inside (omega arith) l.invariant, omega arith)
