-- Each set keeps what is among the given variables.
use Rattle.rules.specs.definitions.Formula.{kept_by}
use Rattle.sets.specs.Values.{clause_of}
use Rattle.sets.proofs.Clause.kept_by.Goals as goal

pub returns : goal.returns
unfolding clause_of kept_by
returns c = rw (c.only.ensures, c.only-2.ensures)
