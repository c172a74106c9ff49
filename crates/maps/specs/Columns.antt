-- A column as the definitions have it: its nodes, named by line numbers.
use Rattle.std.specs.Prelude.{ℕ, ◌+◌, ◌≤◌}
use Rattle.rules.specs.declared.Node.{Node}
use Rattle.rules.specs.definitions.Limits.{lines_most}
use Rattle.rules.specs.definitions.Services.{table_column}
use Rattle.maps.specs.declared.column.Column.{Column}

-- the code counts columns from 0, the definitions from 1
abbrev pub column_of : Column → ℕ → Node
column_of c = table_column c.nodes.now (c.index + 1)

-- a node's number: a line's
abbrev pub Numbered : ℕ → Type 0
Numbered k = (1 ≤ k) × (k ≤ lines_most)
