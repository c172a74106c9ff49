-- `malintok_read` meets its contract: the tests before any byte is read, then what reading the text leaves.
use Rattle.std.proofs.Common.{ap, ◌∙◌, arith, rules}
use Rattle.rules.specs.definitions.Layout.{prefix_words, clause_words}
use Rattle.malintok.specs.Calls.{refused}
use Rattle.malintok.proofs.Answers.{read_short, read_long, read_whole}
use Rattle.malintok.proofs.malintok_read.Goals as goal

pub returns-then-prefix-lt-PREFIX_WORDS : goal.returns-then-prefix-lt-PREFIX_WORDS
returns-then-prefix-lt-PREFIX_WORDS c = read_short _ _ _ _ c.then-prefix-lt-PREFIX_WORDS.either (c.rejected.ensures ∙ ap refused c.at.ensures)

pub returns-then-text-gt-TEXT_MOST : goal.returns-then-text-gt-TEXT_MOST
returns-then-text-gt-TEXT_MOST c =
    read_long _ _ _ _ c.if-prefix-lt-PREFIX_WORDS.false c.if-clauses-lt-CLAUSE_WORDS.false c.if-text-gt-TEXT_MOST.true
    (c.rejected-then-text-gt-TEXT_MOST.ensures ∙ ap refused c.at-then-text-gt-TEXT_MOST.ensures)

pub invariant_of-formula : goal.invariant_of-formula
unfolding prefix_words clause_words
invariant_of-formula c = record { long_prefix = omega arith; long_clauses = omega arith }

pub returns : goal.returns
returns c =
    read_whole _ _ _ _ _ _ _ c.if-prefix-lt-PREFIX_WORDS.false c.if-clauses-lt-CLAUSE_WORDS.false c.if-text-gt-TEXT_MOST.false c.read_reply.ensures c.read_in.ensures.left _ _
    (search rules)
    (search rules)
