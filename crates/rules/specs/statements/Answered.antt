-- An answer 0 of checking.
use Rattle.std.specs.Prelude.{◌≡◌, false, List, ℕ, length}
use Rattle.rules.specs.definitions.Formula.{Formula}
use Rattle.rules.specs.definitions.Lines.{Row}
use Rattle.rules.specs.definitions.Checking.{checked}
use Rattle.rules.specs.definitions.Checking.Checked.{accepted}
use Rattle.rules.specs.definitions.Tables.Leaves.{filled}
use Rattle.rules.specs.definitions.Services.{Lent, success, short_tables, checking}

-- ---- an answer 0
-- what a call of checking that answers 0 says of its text and proof
pub record Answered (text proof : List ℕ) (T : Lent) : Type 0 where
  pub formula_is : Formula
  pub rows : List Row
  pub accepts : checked text proof ≡ accepted formula_is rows
  pub long : short_tables T ≡ false
  pub answer : checking text proof T ≡ record { reply = success formula_is (length rows); leaves = filled formula_is rows }
