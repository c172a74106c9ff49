-- Where words and bytes stand (01): words of a set and of each table, fields of a node word, bytes of head and record.
use Rattle.std.specs.Prelude.{ℕ, ◌*◌}
use Rattle.rules.specs.definitions.Limits.{universals_most, clauses_most, lines_most}

-- ---- words: a set of variables is so many words of so many bits
unfoldable pub set_words : ℕ
set_words = 1

abbrev pub word_bits : ℕ
word_bits = 64

-- a clause: its variables plain, and those negated
unfoldable pub clause_width : ℕ
unfolding set_words
clause_width = 2 * set_words

-- ---- 01, Sizes: minimum lengths of the lent tables
-- a word for each variable of a set
unfoldable pub prefix_words : ℕ
unfolding set_words
prefix_words = set_words * word_bits

unfoldable pub clause_words : ℕ
unfolding clause_width
clause_words = clauses_most * clause_width

unfoldable pub line_words : ℕ
unfolding clause_width
line_words = lines_most * clause_width

-- nodes, and roots
unfoldable pub map_words : ℕ
map_words = lines_most * universals_most

-- ---- 01, Formula text: a universal's mark in the prefix table
abbrev pub universal_mark : ℕ
universal_mark = 256

-- ---- 01, Lines and maps: 2³⁰ + (x−1)·2²⁰ + (a−1)·2¹⁰ + (b−1)
abbrev pub branch_mark : ℕ
branch_mark = 1073741824

abbrev pub variable_step : ℕ
variable_step = 1048576

abbrev pub end_step : ℕ
end_step = 1024

-- ---- 01, Proof file
-- bytes of the head: mark, version, line count
abbrev pub head_bytes : ℕ
head_bytes = 7

abbrev pub record_bytes : ℕ
record_bytes = 8
