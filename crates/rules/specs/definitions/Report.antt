-- What the bench program prints (01, The game G).
use Rattle.std.specs.Prelude.{Bool, true, false, ◌||◌, List, [], ◌∷◌, ◌++◌, ℕ, zero, suc, ◌+◌, ◌/◌, ◌%◌, eqb, ltb, length}
use Rattle.rules.specs.declared.Value.{Value}
use Rattle.rules.specs.declared.Value.TheVariants.{Star, One, Zero}
use Rattle.rules.specs.declared.Node.{Node}
use Rattle.rules.specs.declared.Node.TheVariants.{None, Leaf, Branch}
use Rattle.rules.specs.definitions.Limits.{text_most}
use Rattle.rules.specs.definitions.Refusals.{long_text}
use Rattle.rules.specs.definitions.Text.{line_feed}
use Rattle.rules.specs.definitions.Formula.{Formula, universals}
use Rattle.rules.specs.definitions.Maps.{Column}
use Rattle.rules.specs.definitions.Lines.{Row, column, root_at, each}
use Rattle.rules.specs.definitions.Checking.{Checked, checked}
use Rattle.rules.specs.definitions.Checking.Checked.{rejected, accepted}
use Rattle.rules.specs.definitions.Bytes.{text}

-- ---- numbers in decimal
-- the digits of n in front of what follows, of at most so many digits
unfoldable pub digits_before : ℕ → ℕ → List ℕ → List ℕ
digits_before zero n l = l
digits_before (suc f) n l = elim (ltb n 10) [ true ↦ (48 + n) ∷ l | false ↦ digits_before f (n / 10) ((48 + n % 10) ∷ l) ]

-- n has at most n + 1 digits
unfoldable pub decimal : ℕ → List ℕ
decimal n = digits_before (suc n) n []

-- ---- a map's nodes, falling
-- the ends of a node, besides what is marked
abbrev pub mark_ends : Node → (ℕ → Bool) → ℕ → Bool
mark_ends None m k = m k
mark_ends (Leaf v) m k = m k
mark_ends (Branch x a b) m k = eqb k a || (eqb k b || m k)

-- the marked nodes from i down, with all that they reach
unfoldable pub reached_from : Column → ℕ → (ℕ → Bool) → List ℕ
reached_from T zero m = []
reached_from T (suc i) m = elim (m (suc i)) [ true ↦ suc i ∷ reached_from T i (mark_ends (T (suc i)) m) | false ↦ reached_from T i m ]

-- the nodes of the map with root r, falling
unfoldable pub nodes_falling : Column → ℕ → List ℕ
nodes_falling T r = reached_from T r (λ k. eqb k r)

-- ---- lines
abbrev pub value_name : Value → List ℕ
value_name Star = text " star"
value_name One = text " one"
value_name Zero = text " zero"

-- a node: number and leaf, or variable, end for 1, end for 0
abbrev pub node_text : Node → List ℕ
node_text None = []
node_text (Leaf v) = value_name v
node_text (Branch x a b) = text " if " ++ (decimal x ++ (text " then " ++ (decimal b ++ (text " else " ++ decimal a))))

abbrev pub line : List ℕ → List ℕ
line l = l ++ (line_feed ∷ [])

abbrev pub node_line : Column → ℕ → List ℕ
node_line T k = line (decimal k ++ node_text (T k))

unfoldable pub joined : {A : Type 0} → (A → List ℕ) → List A → List ℕ
joined f [] = []
joined f (a ∷ l) = f a ++ joined f l

-- a universal's variable and root, then its nodes
unfoldable pub map_lines : Column → ℕ → ℕ → List ℕ
map_lines T r u = line (text "map " ++ (decimal u ++ (text " root " ++ decimal r))) ++ joined (node_line T) (nodes_falling T r)

-- the last line's maps by universal number
abbrev pub maps_text : Formula → List Row → List ℕ
maps_text F rows = joined (λ (l : List ℕ). l) (each (λ j u. map_lines (column rows j) (root_at rows j (length rows)) u) (universals F.prefix) 0)

-- ---- the whole output
unfoldable pub refused_line : ℕ → ℕ → ℕ → List ℕ
refused_line n at v = line (text "refused " ++ (decimal n ++ (text " " ++ (decimal at ++ (text " " ++ decimal v)))))

unfoldable pub accepted_text : Formula → List Row → List ℕ
accepted_text F rows = line (text "accepted " ++ decimal (length rows)) ++ maps_text F rows

abbrev pub report : Checked → List ℕ
report (rejected n at v) = refused_line n at v
report (accepted F rows) = accepted_text F rows

-- what is printed for the bytes of the two files
unfoldable pub printed : List ℕ → List ℕ → List ℕ
printed t p = elim (ltb text_most (length t)) [ true ↦ refused_line long_text 0 0 | false ↦ report (checked t p) ]
