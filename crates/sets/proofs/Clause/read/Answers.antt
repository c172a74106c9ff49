-- The two sets of the row are the clause.
use borrow.Author.Rules.{rules}
use Rattle.sets.specs.Values.{clause_of}
use Rattle.sets.proofs.Words.{both_read}
use Rattle.sets.proofs.Clause.read.Goals as goal

pub returns : goal.returns
unfolding clause_of
returns c = rw (c.read.ensures, c.read-2.ensures) (both_read c.args.row.now c.words.result (search rules) c.words.ensures)
