-- The two clauses without the two literals, joined, are the resolvent.
use Rattle.rules.specs.definitions.Formula.{resolvent}
use Rattle.sets.proofs.Clause.resolvent.Goals as goal

pub returns : goal.returns
unfolding resolvent
returns c = rw (c.join.ensures, c.without_negated.ensures, c.without_plain.ensures)
