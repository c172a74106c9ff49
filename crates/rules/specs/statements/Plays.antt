-- The play of a line's maps, star as 0, and what select's third ground guarantees.
use Rattle.std.specs.Prelude.{◌≡◌, Bool, true, cond, List, [], ◌∷◌, ℕ, suc, ◌<◌, eqb}
use Rattle.rules.specs.definitions.Formula.{Formula, Assignment, universals}
use Rattle.rules.specs.definitions.Maps.{Column, plays, as_bool}
use Rattle.rules.specs.statements.Sound.{Sound}
use Rattle.rules.specs.definitions.Lines.{Row, column, root_at}

-- ---- the play of a line's maps
-- s with each of the variables us, from offset j on, at the value given for its offset
unfoldable pub with_values : (ℕ → Bool) → List ℕ → ℕ → Assignment → Assignment
with_values value [] j s v = s v
with_values value (u ∷ us) j s v = cond (eqb v u) (value j) (with_values value us (suc j) s v)

-- the value that line i's map gives the universal at offset j: star counts as 0
abbrev pub line_plays : List Row → ℕ → Assignment → ℕ → Bool
line_plays rows i s j = as_bool (plays (column rows j) s (root_at rows j i))

-- s with each universal at the value that line i's map gives it
unfoldable pub played : Formula → List Row → ℕ → Assignment → Assignment
played F rows i s = with_values (line_plays rows i s) (universals F.prefix) 0 s

-- what select's third ground guarantees: two sound maps for which it holds play the same
abbrev pub PlaysAlike : (Column → ℕ → ℕ → Bool) → Type 0
PlaysAlike third_ground =
    (T : Column) (r t : ℕ) → Sound T r → Sound T t → 0 < r → 0 < t → third_ground T r t ≡ true → (s : Assignment) → plays T s r ≡ plays T s t
