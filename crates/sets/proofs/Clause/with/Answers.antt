-- The literal goes into the set of its sign.
use Rattle.rules.specs.definitions.Formula.{with_literal}
use Rattle.sets.specs.Values.{clause_of}
use Rattle.sets.proofs.Clause.with.Goals as goal

pub returns-then-l : goal.returns-then-l
unfolding clause_of with_literal
returns-then-l c = rw (c.if-l.true, with_literal, c.with.ensures)

pub returns-else-l : goal.returns-else-l
unfolding clause_of with_literal
returns-else-l c = rw (c.if-l.false, with_literal, c.with-else-l.ensures)
