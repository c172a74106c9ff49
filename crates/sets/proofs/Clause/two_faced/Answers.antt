-- A variable stands both ways where the two sets meet.
use Rattle.rules.specs.definitions.Formula.{two_faced}
use Rattle.sets.specs.Values.{clause_of}
use Rattle.sets.proofs.Clause.two_faced.Goals as goal

pub returns : goal.returns
unfolding clause_of two_faced
returns c = c.meets.ensures
