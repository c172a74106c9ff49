-- A column's node by its word.
use Rattle.std.specs.Prelude.{◌≡◌, List, ℕ, zero, suc, ◌+◌, ◌-◌, ◌*◌, ◌≤◌, get_or}
use Rattle.std.proofs.Common.{ap, arith}
use Rattle.rules.specs.definitions.Limits.{universals_most}
use Rattle.rules.specs.definitions.Maps.{node_of}
use Rattle.rules.specs.definitions.Services.{table_column}

-- node i of a column counted from 0, by its word
pub table_node : (nodes : List ℕ) (c i : ℕ) → 1 ≤ i → table_column nodes (c + 1) i ≡ node_of (get_or nodes ((i - 1) * 16 + c) 0)
unfolding table_column
table_node nodes c zero l = absurd (omega arith)
table_node nodes c (suc i) l = let e : universals_most * i + (c + 1 - 1) ≡ (suc i - 1) * 16 + c = omega arith in ap (λ (k : ℕ). node_of (get_or nodes k 0)) e
