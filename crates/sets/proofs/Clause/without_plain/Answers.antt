-- The plain literal is taken out, the negated ones stay.
use Rattle.sets.specs.Values.{clause_of}
use Rattle.sets.proofs.Clause.without_plain.Goals as goal

pub returns : goal.returns
unfolding clause_of
returns c = rw c.without.ensures
