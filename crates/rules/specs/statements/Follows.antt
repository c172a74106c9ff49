-- A line that follows from the rows before it, and rows made one by one, each by a line that follows.
use Rattle.std.specs.Prelude.{◌≡◌, Bool, true, false, List, [], ◌∷◌, ◌++◌, ℕ, suc, ◌^◌, ◌≤◌, ◌<◌, length, get_or}
use Rattle.rules.specs.declared.Resolution.{Resolution}
use Rattle.rules.specs.declared.Line.{Line}
use Rattle.rules.specs.declared.Line.TheVariants as L
use Rattle.rules.specs.definitions.Sets.{has}
use Rattle.rules.specs.definitions.Formula.{Formula, bound_by, universals, two_faced}
use Rattle.rules.specs.definitions.Formula.Quant.{exists}
use Rattle.rules.specs.definitions.Lines.{Row, clause_at, Rules, axiom_row, defined, in_set, result, selected, resolution_row}

-- ---- what a line that passes says
-- the maps of a resolution: x left of each universal chosen, select defined for each other
pub record MapsFollow (R : Rules) (F : Formula) (rows : List Row) (r : Resolution) (chosen : ℕ → Bool) : Type 0 where
  pub left : (j : ℕ) → j < length (universals F.prefix) → chosen j ≡ true → R.left r.pivot (get_or (universals F.prefix) j 0) ≡ true
  pub selects : (j : ℕ) → j < length (universals F.prefix) → chosen j ≡ false → defined (selected R rows r j) ≡ true

-- 24 to 27: parents before line i, an existential pivot, plain in a and negated in b
pub record ParentsFollow (F : Formula) (rows : List Row) (i : ℕ) (r : Resolution) : Type 0 where
  pub a_earlier : (1 ≤ r.a) × (r.a < i)
  pub b_earlier : (1 ≤ r.b) × (r.b < i)
  pub pivot : bound_by exists F.prefix r.pivot ≡ true
  pub plain : has (clause_at rows r.a).plain r.pivot ≡ true
  pub negated : has (clause_at rows r.b).negated r.pivot ≡ true

pub record Resolves (R : Rules) (F : Formula) (rows : List Row) (i : ℕ) (r : Resolution) : Type 0 where
  pub parents : ParentsFollow F rows i r
  pub merge : r.merge < 2 ^ length (universals F.prefix)
  pub one_way : two_faced (result rows r) ≡ false
  pub maps : MapsFollow R F rows r (in_set r.merge)

-- line i keeps to the rules after the rows, and makes this row
abbrev pub Follows : Rules → Formula → List Row → ℕ → Line → Row → Type 0
Follows R F rows i (L.Axiom c) row = ((1 ≤ c) × (c ≤ length F.matrix)) × (row ≡ axiom_row F i c)
Follows R F rows i (L.Resolve r) row = Resolves R F rows i r × (row ≡ resolution_row R F rows i r (in_set r.merge))

-- ---- all lines: rows made one by one, each by a line that follows
pub data Derived (R : Rules) (F : Formula) : List Row → Type 0 where
  start : Derived R F []
  line : {rows : List Row} → Derived R F rows → (l : Line) (row : Row) → Follows R F rows (suc (length rows)) l row → Derived R F (rows ++ (row ∷ []))
