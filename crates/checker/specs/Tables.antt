-- The line, node and root tables of a proof: what they hold, by value, and what is written to them.
use Rattle.std.specs.Prelude.{◌≡◌, List, [], ◌++◌, ℕ, ◌+◌, ◌*◌, take, drop}
use Rattle.rules.specs.definitions.Layout.{set_words, line_words, map_words}
use Rattle.rules.specs.definitions.Limits.{universals_most}
use Rattle.rules.specs.definitions.Formula.{Formula}
use Rattle.rules.specs.definitions.Lines.{Row}
use Rattle.rules.specs.definitions.Tables.{holding, clause_row, line_table, node_table, root_table}
use Rattle.sets.specs.Values.{clause_of}
use Rattle.checker.specs.declared.axioms.Made.{Made}
use Rattle.checker.specs.declared.tables.ProofTables.{ProofTables}
use Rattle.checker.specs.declared.tables.ProofRows.{ProofRows}

-- the words of the three tables
pub record Held : Type 0 where
  pub lines : List ℕ
  pub nodes : List ℕ
  pub roots : List ℕ

abbrev pub words_of : ProofTables → Held
words_of t = record { lines = t.lines.now; nodes = t.nodes.now; roots = t.roots.now }

abbrev pub rows_of : ProofRows → Held
rows_of t = record { lines = t.lines.now; nodes = t.nodes.now; roots = t.roots.now }

-- all fields still lend the same tables
abbrev pub SameProofTables : ProofTables → ProofTables → Type 0
SameProofTables t t' =
    (t'.lines.ghost_name ≡ t.lines.ghost_name) × (t'.nodes.ghost_name ≡ t.nodes.ghost_name) × (t'.roots.ghost_name ≡ t.roots.ghost_name)

-- the rows, each table otherwise zero, and past its words as it was lent
abbrev pub held_in : Formula → List Row → Held → Held
held_in F rows lent = record {
  lines = holding line_words (line_table F rows) lent.lines;
  nodes = holding map_words (node_table F rows) lent.nodes;
  roots = holding map_words (root_table F rows) lent.roots;
}

-- no row
abbrev pub cleared : Held → Held
cleared lent = record {
  lines = holding line_words [] lent.lines;
  nodes = holding map_words [] lent.nodes;
  roots = holding map_words [] lent.roots;
}

-- what is past the words of each table is as it was
pub record KeptPast (lent T : Held) : Type 0 where
  pub lines_past : drop line_words T.lines ≡ drop line_words lent.lines
  pub nodes_past : drop map_words T.nodes ≡ drop map_words lent.nodes
  pub roots_past : drop map_words T.roots ≡ drop map_words lent.roots

-- a table with r in place of its row i of w words, rows counted from 0
abbrev pub with_row : ℕ → ℕ → List ℕ → List ℕ → List ℕ
with_row w i r t = take (w * i) t ++ (r ++ drop (w * i + w) t)

-- the tables with a line in place of row i of each
abbrev pub with_line : ℕ → Made → Held → Held
with_line i m T = record {
  lines = with_row (2 * set_words) i (clause_row (clause_of m.clause)) T.lines;
  nodes = with_row universals_most i m.row.nodes T.nodes;
  roots = with_row universals_most i m.row.roots T.roots;
}
