-- The opposite literal is looked for in the set of the other sign.
use Rattle.rules.specs.definitions.Formula.{has_opposite}
use Rattle.sets.specs.Values.{clause_of}
use Rattle.sets.proofs.Clause.has_opposite.Goals as goal

pub returns-then-l : goal.returns-then-l
unfolding clause_of has_opposite
returns-then-l c = rw (c.if-l.true, has_opposite) c.has.ensures

pub returns-else-l : goal.returns-else-l
unfolding clause_of has_opposite
returns-else-l c = rw (c.if-l.false, has_opposite) c.has-else-l.ensures
