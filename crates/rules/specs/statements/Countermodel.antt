-- Demand 3: a countermodel, whatever stands for "left"; a strategy that looks only left.
use Rattle.std.specs.Prelude.{◌≡◌, Bool, true, ◌≢◌, ℕ, ◌≤◌, ◌<◌, length, get_or}
use mathlib.Core.List.{List, Memᴰ}
use Rattle.rules.specs.declared.Node.TheVariants.{None, Branch}
use Rattle.rules.specs.definitions.Formula.{Bound, Clause, Formula, Assignment, Satisfies, bound_by, universals}
use Rattle.rules.specs.definitions.Formula.Quant.{exists, forall}
use Rattle.rules.specs.definitions.Maps.{plays, Reached}
use Rattle.rules.specs.definitions.Lines.{Row, column, root_at}
use Rattle.rules.specs.statements.Proper.{var_at, kind_at}
use Rattle.rules.specs.statements.Plays.{played}

-- ---- a countermodel, whatever stands for "left"
-- the last line's map for the universal at offset j
abbrev pub last_root : List Row → ℕ → ℕ
last_root rows j = root_at rows j (length rows)

pub record Countermodel (left : ℕ → ℕ → Bool) (F : Formula) (rows : List Row) : Type 0 where
  -- whatever the settings, the values that the last maps give, star as 0, make some clause false
  pub wins : (s : Assignment) → (c : Clause) × Memᴰ c F.matrix × (Satisfies (played F rows (length rows) s) c → ⊥)
  -- each map reads only existential variables left of its universal
  pub reads : (j : ℕ) → j < length (universals F.prefix) → (i x a b : ℕ) → Reached (column rows j) (last_root rows j) i → column rows j i ≡ Branch x a b
      → (bound_by exists F.prefix x ≡ true) × (left x (get_or (universals F.prefix) j 0) ≡ true)
  -- so that the value depends on nothing else
  pub depends : (j : ℕ) → j < length (universals F.prefix) → (s t : Assignment)
      → ((x : ℕ) → bound_by exists F.prefix x ≡ true → left x (get_or (universals F.prefix) j 0) ≡ true → s x ≡ t x)
      → plays (column rows j) s (last_root rows j) ≡ plays (column rows j) t (last_root rows j)
  -- its nodes are lines from 1 to the root, none of them none, and their numbers fall along each branch
  pub numbered : (j : ℕ) → j < length (universals F.prefix) → (i : ℕ) → Reached (column rows j) (last_root rows j) i → (1 ≤ i) × (i ≤ last_root rows j)
  pub given : (j : ℕ) → j < length (universals F.prefix) → (i : ℕ) → Reached (column rows j) (last_root rows j) i → column rows j i ≢ None
  pub falling : (j : ℕ) → j < length (universals F.prefix) → (i x a b : ℕ) → Reached (column rows j) (last_root rows j) i → column rows j i ≡ Branch x a b → (a < i) × (b < i)

-- ---- false by the prefix
-- the universal player's values: the value of the variable at place j, from the values of the others
abbrev pub Strategy : Type 0
Strategy = ℕ → Assignment → Bool

-- the universal at place j looks only at existentials left of it
abbrev pub LooksLeft : List Bound → Strategy → Type 0
LooksLeft Q h =
    (j : ℕ) (s t : Assignment) → j < length Q → kind_at Q j ≡ forall → ((i : ℕ) → i < j → kind_at Q i ≡ exists → s (var_at Q i) ≡ t (var_at Q i)) → h j s ≡ h j t

-- s is a play in which each universal took the strategy's value
abbrev pub KeepsTo : List Bound → Strategy → ℕ → Assignment → Type 0
KeepsTo Q h k s = (j : ℕ) → j < k → kind_at Q j ≡ forall → s (var_at Q j) ≡ h j s
