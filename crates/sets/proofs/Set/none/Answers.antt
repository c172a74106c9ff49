-- The word 0 is the set with no variable.
use mathlib.Core.Path.{refl}
use Rattle.rules.specs.definitions.Layout.{set_words}
use Rattle.rules.specs.definitions.Sets.{none}
use Rattle.sets.specs.Values.{set_of}
use Rattle.sets.proofs.Set.none.Goals as goal

pub returns : goal.returns
unfolding set_of none set_words
returns c = refl
