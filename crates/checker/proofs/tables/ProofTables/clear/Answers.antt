-- `tables::ProofTables::clear` meets its contract: each table by itself.
use Rattle.std.proofs.Common.{arith}
use Rattle.rules.specs.definitions.Layout.{line_words, map_words}
use Rattle.theory.specs.laws.Tables.{holding_filled}
use Rattle.checker.proofs.Parts.{held_by}
use Rattle.checker.proofs.tables.ProofTables.clear.Goals as goal

pub returns-clause-words : goal.returns-clause-words
unfolding line_words map_words
returns-clause-words c =
    let s = c.args.self.now in
    held_by _ _ _ _
    (holding_filled _ _ _ (omega (arith, s.long_lines)) (c.fill.ensures.after (λ y e. e)))
    (holding_filled _ _ _ (omega (arith, s.long_nodes)) (c.fill-2.ensures.after (λ y e. e)))
    (holding_filled _ _ _ (omega (arith, s.long_roots)) (c.fill-3.ensures.after (λ y e. e)))
