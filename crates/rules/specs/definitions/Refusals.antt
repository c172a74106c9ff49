-- The refusal numbers of document 01, each named once.
use Rattle.std.specs.Prelude.{ℕ, Result, Ok, Err}
use Rattle.rules.specs.declared.refusals.Refusal.{Refusal}
use Rattle.rules.specs.declared.refusals.Refusal.TheVariants as K

-- ---- 01, Refusal numbers
abbrev pub long_text : ℕ
long_text = 1

abbrev pub short_table : ℕ
short_table = 2

abbrev pub bad_token : ℕ
bad_token = 3

abbrev pub header_limit : ℕ
header_limit = 4

abbrev pub no_variable : ℕ
no_variable = 5

abbrev pub bound_twice : ℕ
bound_twice = 6

abbrev pub too_many_universals : ℕ
too_many_universals = 7

abbrev pub not_bound : ℕ
not_bound = 8

abbrev pub both_ways : ℕ
both_ways = 9

abbrev pub clause_count : ℕ
clause_count = 10

abbrev pub bad_mark : ℕ
bad_mark = 11

abbrev pub bad_length : ℕ
bad_length = 12

abbrev pub bad_line_count : ℕ
bad_line_count = 13

abbrev pub bad_kind : ℕ
bad_kind = 21

abbrev pub axiom_tail : ℕ
axiom_tail = 22

abbrev pub no_clause : ℕ
no_clause = 23

abbrev pub no_parent : ℕ
no_parent = 24

abbrev pub no_pivot : ℕ
no_pivot = 25

abbrev pub lacks_plain : ℕ
lacks_plain = 26

abbrev pub lacks_negated : ℕ
lacks_negated = 27

abbrev pub no_universal : ℕ
no_universal = 28

abbrev pub result_both_ways : ℕ
result_both_ways = 29

abbrev pub not_left : ℕ
not_left = 30

abbrev pub no_select : ℕ
no_select = 31

abbrev pub not_empty : ℕ
not_empty = 32

abbrev pub play_range : ℕ
play_range = 41

abbrev pub play_word : ℕ
play_word = 42

-- ---- the code's refusals
abbrev pub refusal_number : Refusal → ℕ
refusal_number K.LongText = long_text
refusal_number K.ShortTable = short_table
refusal_number K.BadToken = bad_token
refusal_number K.HeaderLimit = header_limit
refusal_number K.NoVariable = no_variable
refusal_number K.BoundTwice = bound_twice
refusal_number K.TooManyUniversals = too_many_universals
refusal_number K.NotBound = not_bound
refusal_number K.BothWays = both_ways
refusal_number K.ClauseCount = clause_count
refusal_number K.BadMark = bad_mark
refusal_number K.BadLength = bad_length
refusal_number K.BadLineCount = bad_line_count
refusal_number K.BadKind = bad_kind
refusal_number K.AxiomTail = axiom_tail
refusal_number K.NoClause = no_clause
refusal_number K.NoParent = no_parent
refusal_number K.NoPivot = no_pivot
refusal_number K.LacksPlain = lacks_plain
refusal_number K.LacksNegated = lacks_negated
refusal_number K.NoUniversal = no_universal
refusal_number K.ResultBothWays = result_both_ways
refusal_number K.NotLeft = not_left
refusal_number K.NoSelect = no_select
refusal_number K.NotEmpty = not_empty
refusal_number K.PlayRange = play_range
refusal_number K.PlayWord = play_word

-- an answer with a refusal's number in place of the refusal
abbrev pub numbered : {A : Type 0} → Result A Refusal → Result A ℕ
numbered (Ok a) = Ok a
numbered (Err k) = Err (refusal_number k)
