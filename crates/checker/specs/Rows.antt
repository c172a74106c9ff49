-- Rows by value and in the tables, as the rules' rows.
use Rattle.std.specs.Prelude.{◌≡◌, List, map, ℕ, ◌-◌, ◌*◌, take, drop}
use Rattle.rules.specs.definitions.Layout.{set_words}
use Rattle.rules.specs.definitions.Limits.{universals_most}
use Rattle.rules.specs.definitions.Formula.{Clause as Literals}
use Rattle.rules.specs.definitions.Maps.{node_word}
use Rattle.rules.specs.definitions.Lines.{Entry}
use Rattle.rules.specs.definitions.Tables.{padded}
use Rattle.sets.specs.Values.{clause_in}
use Rattle.checker.specs.declared.rows.MapRow.{MapRow}

-- the clause in row i of a table of clauses, rows counted from 1
abbrev pub clause_part : List ℕ → ℕ → Literals
clause_part t i = clause_in (take (2 * set_words) (drop (2 * set_words * (i - 1)) t))

-- the words of entries, a place for each of 16 universals
abbrev pub node_words : List Entry → List ℕ
node_words es = map (λ (e : Entry). node_word e.node) es

abbrev pub root_words : List Entry → List ℕ
root_words es = map (λ (e : Entry). e.root) es

pub record RowOf (es : List Entry) (r : MapRow) : Type 0 where
  pub nodes : r.nodes ≡ padded universals_most (node_words es)
  pub roots : r.roots ≡ padded universals_most (root_words es)
