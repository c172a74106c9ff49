-- Clauses are joined set by set.
use Rattle.sets.specs.Values.{clause_of}
use Rattle.sets.proofs.Clause.join.Goals as goal

pub returns : goal.returns
unfolding clause_of
returns c = rw (c.join.ensures, c.join-2.ensures)
