-- 004's lines in rows: the map at a root of a column, and rows that hold lines.
use Rattle.std.specs.Prelude.{◌≡◌, true, false, ℕ, zero, suc, ◌<◌, ◌≤◌, List, [], ◌∷◌, length, eqb}
use Rattle.rules.specs.declared.Node.{Node}
use Rattle.rules.specs.declared.Node.TheVariants.{None, Leaf, Branch}
use Rattle.rules.specs.definitions.Maps.{Column}
use Rattle.rules.specs.definitions.Paper.{Map, single, merge, ProofLine, SameLiterals}
use Rattle.rules.specs.definitions.Formula.{Formula, bound_by, universals}
use Rattle.rules.specs.definitions.Formula.Quant.{exists}
use Rattle.rules.specs.definitions.Lines.{Row, Rules, clause_at, column, root_at}
use Rattle.rules.specs.definitions.Named.{universal_at}

-- ---- the map at a node of a column: a leaf alone, or the merge of the maps at the branch's ends
abbrev pub nothing : ℕ → Map
nothing r = record { greatest = r; node = λ k. None }

abbrev pub map_of : (ℕ → Map) → ℕ → Node → Map
map_of at r None = nothing r
map_of at r (Leaf v) = single r v
map_of at r (Branch x a b) = merge (at a) (at b) r x

-- over at most so many nodes on the way down
unfoldable pub map_over : ℕ → Column → ℕ → Map
map_over zero T r = nothing r
map_over (suc f) T r = map_of (λ k. map_over f T k) r (T r)

-- the ends fall, so that r + 1 nodes are enough
unfoldable pub map_at : Column → ℕ → Map
map_at T r = map_over (suc r) T r

-- ---- rows hold lines: the clause's literals, and for each universal the map that stands at the line's root
pub record HoldsLine (F : Formula) (L : ℕ → ProofLine) (rows : List Row) (i : ℕ) : Type 0 where
  pub clause : SameLiterals (L i).clause (clause_at rows i)
  pub maps : (j : ℕ) → j < length (universals F.prefix) → (L i).map (universal_at F j) ≡ map_at (column rows j) (root_at rows j i)

abbrev pub Hold : Formula → (ℕ → ProofLine) → List Row → Type 0
Hold F L rows = (i : ℕ) → 1 ≤ i → i ≤ length rows → HoldsLine F L rows i

-- ---- 004's lines of rows: each row's clause, and for each universal the map at the row's root
-- the offset of u among the universals
unfoldable pub offset_of : List ℕ → ℕ → ℕ
offset_of [] u = 0
offset_of (w ∷ ws) u = elim (eqb w u) [ true ↦ 0 | false ↦ suc (offset_of ws u) ]

unfoldable pub paper_lines : Formula → List Row → ℕ → ProofLine
paper_lines F rows i = record {
  clause = clause_at rows i;
  map = λ u. let j = offset_of (universals F.prefix) u in map_at (column rows j) (root_at rows j i);
}

-- the existential variables left of u
abbrev pub LeftExistential : Rules → Formula → ℕ → ℕ → Type 0
LeftExistential R F u x = (bound_by exists F.prefix x ≡ true) × (R.left x u ≡ true)
