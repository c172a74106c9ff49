-- Demand 2: a text and the bytes of a proof prove lines.
use Rattle.std.specs.Prelude.{◌≡◌, true, List, ◌↔◌, ℕ, ◌≤◌, ◌<◌, get_or}
use Rattle.rules.specs.definitions.Faults.Found.{passes}
use Rattle.rules.specs.definitions.File.{records, announced, head_fault}
use Rattle.rules.specs.definitions.Formula.{Formula}
use Rattle.rules.specs.definitions.Reading.{read}
use Rattle.rules.specs.definitions.Reading.Reading.{formula}
use Rattle.rules.specs.definitions.Paper.{Calculus, ProofLine, Empty}
use Rattle.rules.specs.definitions.Maps.{Column}
use Rattle.rules.specs.definitions.Lines.{Rules}
use Rattle.rules.specs.definitions.Checking.{Manner, rules_of}
use Rattle.rules.specs.definitions.Named.{Follow}
use Rattle.rules.specs.statements.Sound.{Sound}
use Rattle.rules.specs.statements.Held.{map_at}
use Rattle.rules.specs.definitions.Sets.{has}

-- ---- bytes
abbrev pub AllBytes : List ℕ → Type 0
AllBytes s = (i : ℕ) → get_or s i 0 < 256

-- ---- a calculus is what rules decide: left of, and the same maps at two roots of one column
pub record Decides (R : Rules) (C : Calculus) : Type 0 where
  pub left : (x u : ℕ) → C.Left x u ↔ (R.left x u ≡ true)
  pub same : (T : Column) (a b : ℕ) → Sound T a → Sound T b → 1 ≤ a → 1 ≤ b → C.Same (map_at T a) (map_at T b) ↔ (R.third_ground T a b ≡ true)

-- ---- a text and a file derive lines: the text is a formula, the head is right, the lines follow from their records
pub record Derives (m : Manner) (C : Calculus) (text proof : List ℕ) (F : Formula) (L : ℕ → ProofLine) : Type 0 where
  pub text_read : read text ≡ formula F
  pub head_right : head_fault m.form F proof ≡ passes
  pub follow : Follow (rules_of m F proof).decode C F L (records m.form F proof)

-- and prove them: the last clause is empty
pub record Proves (m : Manner) (C : Calculus) (text proof : List ℕ) (F : Formula) (L : ℕ → ProofLine) : Type 0 where
  pub derives : Derives m C text proof F L
  pub empty : Empty (L (announced proof)).clause

-- 01's house rule for line i: no variable stands in its clause both ways
abbrev pub OneWay : (ℕ → ProofLine) → ℕ → Type 0
OneWay L i = (v : ℕ) → has (L i).clause.plain v ≡ true → has (L i).clause.negated v ≡ true → ⊥
