-- And of the words is what is in both.
use mathlib.Core.Path.{refl}
use Rattle.rules.specs.definitions.Sets.{only}
use Rattle.sets.specs.Values.{set_of}
use Rattle.sets.proofs.Set.only.Goals as goal

pub returns : goal.returns
unfolding set_of only
returns c = refl
