-- `checker::axioms::leaf_row` meets its contract. The invariant: the first j places hold the words of the first j entries.
use Rattle.std.proofs.Common.{◌≡◌, take}
use Rattle.rules.specs.definitions.Limits.{universals_most}
use Rattle.rules.specs.definitions.Lines.{leaf_entry, each}
use Rattle.rules.specs.definitions.Tables.{padded}
use Rattle.sets.specs.Values.{clause_of}
use Rattle.checker.specs.Game.{variables}
use Rattle.checker.specs.Rows.{node_words, root_words}
use Rattle.checker.proofs.axioms.leaf_row.Given as goal

abbrev pub invariant-loop-j : goal.invariant-loop-j
invariant-loop-j l = record {
  nodes_so : l.nodes ≡ padded universals_most (take l.j (node_words (each (leaf_entry (clause_of l.clause) l.i) (variables l.universals) 0)));
  roots_so : l.roots ≡ padded universals_most (take l.j (root_words (each (leaf_entry (clause_of l.clause) l.i) (variables l.universals) 0)));
}
