-- `run::run` meets its contract. The invariant: after i lines their rows stand in the tables, and the run from the start is the run of the records left (Runs).
use Rattle.std.proofs.Common.{◌≡◌, ◌*◌, ◌≤◌, drop, take}
use Rattle.rules.specs.definitions.Layout.{head_bytes}
use Rattle.rules.specs.definitions.Formula.{Formula}
use Rattle.rules.specs.definitions.File.{split}
use Rattle.rules.specs.definitions.Lines.{Rules}
use Rattle.checker.specs.Tables.{words_of, SameProofTables}
use Rattle.checker.specs.Makes.{Whole}
use Rattle.checker.specs.Runs.{SoFar}
use Rattle.checker.proofs.run.run.Given as goal

abbrev pub invariant-loop-i : goal.invariant-loop-i
invariant-loop-i l = record {
  same : SameProofTables l.initial.tables l.tables;
  size : l.i-iterator.iter.size ≡ 8;
  few : l.i-iterator.count ≤ l.n;
  left : l.i-iterator.iter.rest.now ≡ drop (8 * l.i-iterator.count) (take (8 * l.n) (drop 7 l.proof));
  so_far : (R : Rules) (F : Formula) → Whole R F l.g → SoFar R F (split l.n (drop head_bytes l.proof)) (words_of l.initial.tables) (words_of l.tables) l.i-iterator.count;
}
