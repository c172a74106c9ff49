-- `tables::FormulaTables::clear` meets its contract.
use Rattle.std.proofs.Common.{arith}
use Rattle.rules.specs.definitions.Layout.{set_words, prefix_words, clause_width, clause_words}
use Rattle.theory.specs.laws.Tables.{holding_filled}
use Rattle.formula.proofs.tables.FormulaTables.clear.Goals as goal

pub returns-clause-prefix : goal.returns-clause-prefix
unfolding prefix_words set_words
returns-clause-prefix c = let s = c.args.self.now in holding_filled _ _ _ (omega (arith, s.long_prefix)) (c.fill.ensures.after (λ y e. e))

pub returns-clause-clauses : goal.returns-clause-clauses
unfolding clause_words clause_width set_words
returns-clause-clauses c = let s = c.args.self.now in holding_filled _ _ _ (omega (arith, s.long_clauses)) (c.fill-2.ensures.after (λ y e. e))
