-- `report::of` meets its contract: no table is short.
use lib.Dec.{lit≤}
use Rattle.rules.specs.definitions.Layout.{prefix_words, clause_words, line_words, map_words}
use Rattle.report.proofs.of.Goals as goal

pub print-n-requires : goal.print-n-requires
unfolding prefix_words clause_words line_words map_words
print-n-requires c = record {
  prefix = lit≤ tt;
  clauses = lit≤ tt;
  lines = lit≤ tt;
  nodes = lit≤ tt;
  roots = lit≤ tt;
  report = c.requires;
}
