-- The negated literal is taken out, the plain ones stay.
use Rattle.sets.specs.Values.{clause_of}
use Rattle.sets.proofs.Clause.without_negated.Goals as goal

pub returns : goal.returns
unfolding clause_of
returns c = rw c.without.ensures
