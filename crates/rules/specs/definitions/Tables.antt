-- Tables (01): what each word of each table is, and what every lent table holds after every reply.
use Rattle.std.specs.Prelude.{List, [], ◌∷◌, ◌++◌, map, ℕ, ◌+◌, ◌-◌, length, drop, replicate}
use Rattle.rules.specs.definitions.Layout.{prefix_words, clause_words, line_words, map_words, universal_mark}
use Rattle.rules.specs.definitions.Limits.{universals_most}
use Rattle.rules.specs.definitions.Formula.{Bound, Clause, Formula}
use Rattle.rules.specs.definitions.Formula.Quant.{exists, forall}
use Rattle.rules.specs.definitions.Maps.{node_word}
use Rattle.rules.specs.definitions.Lines.{Entry, Row}

-- ---- what each word is
-- word k−1 of the prefix table: the k-th variable of the prefix, plus 256 if it is universal
abbrev pub bound_word : Bound → ℕ
bound_word q = elim q.kind [ exists ↦ q.var | forall ↦ q.var + universal_mark ]

-- a clause: its variables plain, then negated
abbrev pub clause_row : Clause → List ℕ
clause_row c = c.plain ++ c.negated

-- a row of nodes and a row of roots: a place for each of 16 universals, unused places zero
unfoldable pub padded : ℕ → List ℕ → List ℕ
padded n ws = ws ++ replicate (n - length ws) 0

abbrev pub node_row : Row → List ℕ
node_row r = padded universals_most (map (λ (e : Entry). node_word e.node) r.entries)

abbrev pub root_row : Row → List ℕ
root_row r = padded universals_most (map (λ (e : Entry). e.root) r.entries)

unfoldable pub rows_of : {A : Type 0} → (A → List ℕ) → List A → List ℕ
rows_of f [] = []
rows_of f (a ∷ l) = f a ++ rows_of f l

-- ---- what a call leaves
pub data Leaves : Type 0 where
  -- 1, 2, 41, 42: as they came
  untouched : Leaves
  -- 3 to 32: the named words all zero
  zeroed : Leaves
  -- success: filled, and otherwise zero
  filled : Formula → List Row → Leaves

-- a lent table of at least n words that holds these, otherwise zero; the words past n are never touched
unfoldable pub holding : ℕ → List ℕ → List ℕ → List ℕ
holding n ws lent = padded n ws ++ drop n lent

abbrev pub table_after : ℕ → (Formula → List Row → List ℕ) → Leaves → List ℕ → List ℕ
table_after n words untouched lent = lent
table_after n words zeroed lent = holding n [] lent
table_after n words (filled F rows) lent = holding n (words F rows) lent

-- the five tables
abbrev pub prefix_table : Formula → List Row → List ℕ
prefix_table F rows = map bound_word F.prefix

abbrev pub clause_table : Formula → List Row → List ℕ
clause_table F rows = rows_of clause_row F.matrix

abbrev pub line_table : Formula → List Row → List ℕ
line_table F rows = rows_of (λ (r : Row). clause_row r.clause) rows

abbrev pub node_table : Formula → List Row → List ℕ
node_table F rows = rows_of node_row rows

abbrev pub root_table : Formula → List Row → List ℕ
root_table F rows = rows_of root_row rows

abbrev pub prefix_after : Leaves → List ℕ → List ℕ
prefix_after = table_after prefix_words prefix_table

abbrev pub clauses_after : Leaves → List ℕ → List ℕ
clauses_after = table_after clause_words clause_table

abbrev pub lines_after : Leaves → List ℕ → List ℕ
lines_after = table_after line_words line_table

abbrev pub nodes_after : Leaves → List ℕ → List ℕ
nodes_after = table_after map_words node_table

abbrev pub roots_after : Leaves → List ℕ → List ℕ
roots_after = table_after map_words root_table
