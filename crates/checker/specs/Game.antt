-- What checking keeps of a formula, by the definitions, and the formula's prefix as it stands in the prefix table.
use Rattle.std.specs.Prelude.{◌≡◌, true, false, ◌||◌, List, [], map, ℕ, ◌+◌, ◌-◌, ◌≤◌, ◌<◌, eqb, leb, length, get_or, set, take}
use Rattle.rules.specs.definitions.Layout.{prefix_words, universal_mark}
use Rattle.rules.specs.definitions.Limits.{variables_most, universals_most}
use Rattle.rules.specs.definitions.Sets.{has, with}
use Rattle.rules.specs.definitions.Sets.{Set as Variables}
use Rattle.rules.specs.definitions.Formula.{Bound, Formula, bound, universals, existentials, left_of}
use Rattle.rules.specs.statements.Proper.{Proper}
use Rattle.rules.specs.definitions.File.{decoded}
use Rattle.rules.specs.definitions.Lines.{Rules, strict}
use Rattle.rules.specs.definitions.Tables.{padded, holding, prefix_table}
use Rattle.sets.specs.declared.Set.{Set}
use Rattle.sets.specs.Values.{set_of}
use Rattle.checker.specs.declared.game.Game.{Game}
use Rattle.checker.specs.declared.game.Universal.{Universal}

-- the table holds the formula's prefix
pub record Prefixed (F : Formula) (t : List ℕ) : Type 0 where
  pub proper : Proper F
  pub words : t ≡ holding prefix_words (prefix_table F []) t

-- some formula's
abbrev pub Readable : List ℕ → Type 0
Readable t = (F : Formula) × Prefixed F t

-- a prefix word's variable is within the limit
pub record Narrow (word : ℕ) : Type 0 where
  pub low : word < universal_mark → word ≤ variables_most
  pub high : universal_mark ≤ word → (universal_mark < word) × (word ≤ universal_mark + variables_most)

-- the set and the word's variable, if that is existential
unfoldable pub with_word : Variables → ℕ → Variables
with_word s w = elim (eqb w 0 || leb universal_mark w) [ true ↦ s | false ↦ with s w ]

-- the variables of universals
abbrev pub variables : List Universal → List ℕ
variables us = map (λ (u : Universal). u.variable) us

-- a place that holds no universal
abbrev pub nobody : Universal
nobody = record { variable = 0; left = record { word = 0 } }

-- the universals' variables
abbrev pub players : Game → List ℕ
players g = variables (take g.universal_count g.universals)

-- the variables left of the universal at offset j
abbrev pub left_set : Game → ℕ → Variables
left_set g j = set_of (get_or g.universals j nobody).left

-- the game of a formula under rules
pub record GameOf (R : Rules) (F : Formula) (g : Game) : Type 0 where
  -- the rules are those that the game is played by
  pub decodes : R.decode ≡ decoded
  pub third_ground : R.third_ground ≡ strict
  pub count : g.count ≡ length F.matrix
  pub universal_count : g.universal_count ≡ length (universals F.prefix)
  pub existential_set : set_of g.existentials ≡ existentials F.prefix
  pub vars : variables g.universals ≡ padded universals_most (universals F.prefix)
  pub left : (j x : ℕ) → j < length (universals F.prefix) → has (left_set g j) x ≡ R.left x (get_or (universals F.prefix) j 0)

-- ---- word by word
-- the first i variables of the prefix Q are bound
pub record BoundFirst (Q : List Bound) (i : ℕ) (g : Game) : Type 0 where
  pub universal_count : g.universal_count ≡ length (universals (take i Q))
  pub vars : variables g.universals ≡ padded universals_most (universals (take i Q))
  pub left : (j x : ℕ) → j < length (universals (take i Q)) → has (left_set g j) x ≡ left_of Q x (get_or (universals (take i Q)) j 0)
  pub places : length g.universals ≡ universals_most
  pub bound_set : (x : ℕ) → has (set_of g.bound) x ≡ bound (take i Q) x

-- what stays
pub record SameCounts (g r : Game) : Type 0 where
  pub clauses : r.clauses.now ≡ g.clauses.now
  pub count : r.count ≡ g.count
  pub existential_set : r.existentials ≡ g.existentials

-- an existential variable more
pub record MoreExists (g : Game) (v : ℕ) (r : Game) : Type 0 where
  pub universal_count : r.universal_count ≡ g.universal_count
  pub universals : r.universals ≡ g.universals
  pub bound_set : set_of r.bound ≡ with (set_of g.bound) v

-- a universal more: those left of it are the ones bound so far
pub record MoreForall (g : Game) (v : ℕ) (r : Game) : Type 0 where
  pub universal_count : r.universal_count ≡ g.universal_count + 1
  pub universals : r.universals ≡ set g.universals g.universal_count (record { variable = v; left = g.bound })
  pub bound_set : set_of r.bound ≡ with (set_of g.bound) v

-- the variable of one more prefix word
pub record BoundMore (g : Game) (word : ℕ) (r : Game) : Type 0 where
  pub low : word < universal_mark → MoreExists g word r
  pub high : universal_mark ≤ word → MoreForall g (word - universal_mark) r
  pub same : SameCounts g r

-- nothing is bound yet
pub record Unbound (cs : List ℕ) (n : ℕ) (es : Set) (r : Game) : Type 0 where
  pub clauses : r.clauses.now ≡ cs
  pub count : r.count ≡ n
  pub existential_set : r.existentials ≡ es
  pub begun : (Q : List Bound) → BoundFirst Q 0 r
