-- Marks on node numbers: a list of truth values, true at k − 1 where k is marked.
use Rattle.std.specs.Prelude.{Bool, true, false, List, ℕ, zero, suc, ◌-◌, get_or, set}
use Rattle.rules.specs.declared.Node.{Node}
use Rattle.rules.specs.declared.Node.TheVariants.{None, Leaf, Branch}

-- the nodes that are marked
abbrev pub marks_of : List Bool → ℕ → Bool
marks_of ms zero = false
marks_of ms (suc k) = get_or ms k false

-- the marks with a node's ends besides
abbrev pub with_ends : Node → List Bool → List Bool
with_ends None ms = ms
with_ends (Leaf v) ms = ms
with_ends (Branch x a b) ms = set (set ms (b - 1) true) (a - 1) true
