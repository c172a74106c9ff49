-- What maps keep to: no node of a map is none, and its numbers fall along each branch.
use Rattle.std.specs.Prelude.{◌≡◌, ◌≢◌, ℕ, ◌≤◌, ◌<◌}
use Rattle.rules.specs.declared.Node.{Node}
use Rattle.rules.specs.declared.Node.TheVariants.{None, Leaf, Branch}
use Rattle.rules.specs.definitions.Limits.{variables_most}
use Rattle.rules.specs.definitions.Layout.{end_step}
use Rattle.rules.specs.definitions.Maps.{Column, Reached}

-- ---- what maps keep to
-- both ends of each branch are below it
abbrev pub Falling : Column → Type 0
Falling T = (i x a b : ℕ) → T i ≡ Branch x a b → (a < i) × (b < i)

-- no branch ends in 0
abbrev pub Positive : Column → Type 0
Positive T = (i x a b : ℕ) → T i ≡ Branch x a b → (0 < a) × (0 < b)

-- the same of the branches reached from r
abbrev pub FallingFrom : Column → ℕ → Type 0
FallingFrom T r = (i x a b : ℕ) → Reached T r i → T i ≡ Branch x a b → (a < i) × (b < i)

abbrev pub PositiveFrom : Column → ℕ → Type 0
PositiveFrom T r = (i x a b : ℕ) → Reached T r i → T i ≡ Branch x a b → (0 < a) × (0 < b)

-- the map with root r: no node of it is none, and both ends of each branch are from 1 and below it
pub record Sound (T : Column) (r : ℕ) : Type 0 where
  pub some : (i : ℕ) → Reached T r i → T i ≢ None
  pub falling : FallingFrom T r
  pub positive : PositiveFrom T r

-- ---- node words
-- the numbers of a branch that has a word
abbrev pub InRange : Node → Type 0
InRange None = Unit {0}
InRange (Leaf v) = Unit {0}
InRange (Branch x a b) = ((1 ≤ x) × (x ≤ variables_most)) × ((1 ≤ a) × (a ≤ end_step)) × ((1 ≤ b) × (b ≤ end_step))
