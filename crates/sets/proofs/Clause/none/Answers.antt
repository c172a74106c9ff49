-- Two sets with no variable are the clause with no literal.
use Rattle.sets.specs.Values.{clause_of}
use Rattle.sets.proofs.Clause.none.Goals as goal

pub returns : goal.returns
unfolding clause_of
returns c = rw (c.none.ensures, c.none-2.ensures)
