-- `malintok_check` meets its contract: the tests before any byte is read, then what checking the text with the proof leaves.
use Rattle.std.proofs.Common.{ap, ◌∙◌, arith, rules}
use Rattle.rules.specs.definitions.Layout.{prefix_words, clause_words, line_words, map_words}
use Rattle.malintok.specs.Calls.{lent_of, refused}
use Rattle.malintok.proofs.Answers.{check_short, check_long, check_whole}
use Rattle.malintok.proofs.malintok_check.Goals as goal

pub returns-then-prefix-lt-PREFIX_WORDS : goal.returns-then-prefix-lt-PREFIX_WORDS
returns-then-prefix-lt-PREFIX_WORDS c = check_short _ _ (record { prefix = _; clauses = _; lines = _; nodes = _; roots = _ }) _ c.then-prefix-lt-PREFIX_WORDS.either (c.rejected.ensures ∙ ap refused c.at.ensures)

pub returns-then-text-gt-TEXT_MOST : goal.returns-then-text-gt-TEXT_MOST
returns-then-text-gt-TEXT_MOST c =
    check_long _ _ (record { prefix = _; clauses = _; lines = _; nodes = _; roots = _ })
    c.if-prefix-lt-PREFIX_WORDS.false
    c.if-clauses-lt-CLAUSE_WORDS.false
    c.if-lines-lt-LINE_WORDS.false
    c.if-nodes-lt-MAP_WORDS.false
    c.if-roots-lt-MAP_WORDS.false
    _
    c.if-text-gt-TEXT_MOST.true
    (c.rejected-then-text-gt-TEXT_MOST.ensures ∙ ap refused c.at-then-text-gt-TEXT_MOST.ensures)

pub invariant_of-formula : goal.invariant_of-formula
unfolding prefix_words clause_words
invariant_of-formula c = record { long_prefix = omega arith; long_clauses = omega arith }

pub invariant_of-tables : goal.invariant_of-tables
unfolding line_words map_words
invariant_of-tables c = record { long_lines = omega arith; long_nodes = omega arith; long_roots = omega arith }

pub returns : goal.returns
returns c =
    check_whole _ _ (record { prefix = _; clauses = _; lines = _; nodes = _; roots = _ })
    c.if-prefix-lt-PREFIX_WORDS.false
    c.if-clauses-lt-CLAUSE_WORDS.false
    c.if-lines-lt-LINE_WORDS.false
    c.if-nodes-lt-MAP_WORDS.false
    c.if-roots-lt-MAP_WORDS.false
    _
    (lent_of c.check_in.new.formula c.check_in.new.tables)
    _ _ _ _ _
    c.if-text-gt-TEXT_MOST.false
    c.check_in.ensures.answers
    (search rules)
    (search rules)
    (search rules)
    (search rules)
    (search rules)
