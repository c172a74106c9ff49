-- The two lent tables of a formula, as one value.
use Rattle.std.specs.Prelude.{◌≡◌}
use Rattle.formula.specs.declared.tables.FormulaTables.{FormulaTables}

-- both fields still lend the same tables
abbrev pub SameFormulaTables : FormulaTables → FormulaTables → Type 0
SameFormulaTables t t' = (t'.prefix.ghost_name ≡ t.prefix.ghost_name) × (t'.clauses.ghost_name ≡ t.clauses.ghost_name)
