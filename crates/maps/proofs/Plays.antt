-- What a walk comes to, by the node where it begins.
use Rattle.std.specs.Prelude.{◌≡◌, refl, ℕ}
use Rattle.std.proofs.Common.{ap}
use Rattle.rules.specs.definitions.Formula.{Assignment}
use Rattle.rules.specs.definitions.Maps.{Column, Walk, noting, walk_node, walk}
use Rattle.rules.specs.definitions.Maps.Walk.{ended, broken}
use Rattle.theory.specs.laws.Maps.{walk_at}
use Rattle.maps.specs.Playing.{outcome}

-- the walk comes to what its first node says, the walks from smaller nodes given
pub outcome_at : (T : Column) (s : Assignment) (i : ℕ) → outcome (walk T s i) ≡ outcome (walk_node s (walk T s) i (T i))
outcome_at T s i = ap outcome (walk_at T s i)

-- a variable read does not change what a walk comes to
pub outcome_noting : (x : ℕ) (w : Walk) → outcome (noting x w) ≡ outcome w
outcome_noting x (ended v k s) = refl
outcome_noting x broken = refl
