-- No literal stands in the clause where both sets are empty.
use Rattle.std.proofs.Common.{sym, ◌∙◌}
use Rattle.rules.specs.definitions.Formula.{empty_clause}
use Rattle.sets.specs.Values.{clause_of}
use Rattle.sets.proofs.Clause.is_empty.Goals as goal

pub returns-then-is_empty : goal.returns-then-is_empty
unfolding clause_of empty_clause
returns-then-is_empty c = rw (sym c.is_empty.ensures ∙ c.if-is_empty.true) c.is_empty-then-is_empty.ensures

pub returns-else-is_empty : goal.returns-else-is_empty
unfolding clause_of empty_clause
returns-else-is_empty c = rw (sym c.is_empty.ensures ∙ c.if-is_empty.false) c.if-is_empty.false
