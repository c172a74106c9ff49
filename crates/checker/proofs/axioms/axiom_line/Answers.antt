-- `checker::axioms::axiom_line` meets its contract: 23, or the row of the clause that the table holds (Formulas).
use Rattle.std.proofs.Common.{arith}
use Rattle.checker.proofs.Formulas.{clause_within}
use Rattle.checker.proofs.axioms.axiom_line.Goals as goal

pub clause_at-clause-requires : goal.clause_at-clause-requires
clause_at-clause-requires c = let p = c.requires in (omega arith, clause_within p.0 p.1 _ p.2 _ (omega arith))
