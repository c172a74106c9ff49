-- Or of the words is the union.
use mathlib.Core.Path.{refl}
use Rattle.rules.specs.definitions.Sets.{join}
use Rattle.sets.specs.Values.{set_of}
use Rattle.sets.proofs.Set.join.Goals as goal

pub returns : goal.returns
unfolding set_of join
returns c = refl
