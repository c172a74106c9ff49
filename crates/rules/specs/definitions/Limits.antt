-- The sizes of document 01, each named once.
use Rattle.std.specs.Prelude.{ℕ}

-- ---- 01, Sizes
-- the longest text, in bytes
abbrev pub text_most : ℕ
text_most = 65536

-- the largest V
abbrev pub variables_most : ℕ
variables_most = 64

abbrev pub universals_most : ℕ
universals_most = 16

abbrev pub clauses_most : ℕ
clauses_most = 256

abbrev pub lines_most : ℕ
lines_most = 1024

-- a number of the text past this one counts as this one: it is past every limit
abbrev pub number_most : ℕ
number_most = 65536
