-- What the rows that all pass keep to, whatever stands for "left" and for select's third ground.
use Rattle.std.specs.Prelude.{◌≡◌, true, List, ◌≢◌, ℕ, ◌≤◌, ◌<◌, length, get_or}
use Rattle.rules.specs.declared.Node.{Node}
use Rattle.rules.specs.declared.Node.TheVariants.{None, Branch}
use Rattle.rules.specs.definitions.Layout.{set_words}
use Rattle.rules.specs.definitions.Sets.{has}
use Rattle.rules.specs.definitions.Formula.{Formula, bound_by, universals}
use Rattle.rules.specs.definitions.Formula.Quant.{exists}
use Rattle.rules.specs.definitions.Lines.{Row, Rules, row_at, clause_at, column, root_at}

-- a node of a map for u at line i: a branch reads an existential variable left of u, and its ends are nodes before it
pub record GoodBranch (R : Rules) (F : Formula) (T : ℕ → Node) (u i x a b : ℕ) : Type 0 where
  pub existential : bound_by exists F.prefix x ≡ true
  pub left : R.left x u ≡ true
  pub low : (1 ≤ a) × (a < i) × (T a ≢ None)
  pub high : (1 ≤ b) × (b < i) × (T b ≢ None)

-- line i's entry for the universal at offset j
pub record GoodEntry (R : Rules) (F : Formula) (rows : List Row) (i j : ℕ) : Type 0 where
  pub root : (1 ≤ root_at rows j i) × (root_at rows j i ≤ i)
  pub rooted : column rows j (root_at rows j i) ≢ None
  pub branch : (x a b : ℕ) → column rows j i ≡ Branch x a b → GoodBranch R F (column rows j) (get_or (universals F.prefix) j 0) i x a b

pub record GoodLine (R : Rules) (F : Formula) (rows : List Row) (i : ℕ) : Type 0 where
  pub entries : length (row_at rows i).entries ≡ length (universals F.prefix)
  pub entry : (j : ℕ) → j < length (universals F.prefix) → GoodEntry R F rows i j
  -- the clause keeps existential literals only, in so many words
  pub plain : (v : ℕ) → has (clause_at rows i).plain v ≡ true → bound_by exists F.prefix v ≡ true
  pub negated : (v : ℕ) → has (clause_at rows i).negated v ≡ true → bound_by exists F.prefix v ≡ true
  pub plain_words : length (clause_at rows i).plain ≡ set_words
  pub negated_words : length (clause_at rows i).negated ≡ set_words

abbrev pub Good : Rules → Formula → List Row → Type 0
Good R F rows = (i : ℕ) → 1 ≤ i → i ≤ length rows → GoodLine R F rows i
