-- Lines and maps (01): the row that each line makes, and the line rules in the listed order.
use Rattle.std.specs.Prelude.{Ok, Err, Bool, true, false, cond, not, ◌&&◌, ◌||◌, List, [], ◌∷◌, ◌++◌, ℕ, zero, suc, ◌-◌, ◌^◌, leb, ltb, length, get_or}
use Rattle.rules.specs.declared.Value.{Value}
use Rattle.rules.specs.declared.Value.TheVariants.{Star, One, Zero}
use Rattle.rules.specs.declared.Node.{Node}
use Rattle.rules.specs.declared.Node.TheVariants.{None, Leaf, Branch}
use Rattle.rules.specs.declared.Resolution.{Resolution}
use Rattle.rules.specs.declared.Line.{Line}
use Rattle.rules.specs.declared.Line.TheVariants as L
use Rattle.rules.specs.definitions.File.{Decoded}
use Rattle.rules.specs.definitions.Refusals.{no_clause, no_parent, no_pivot, lacks_plain, lacks_negated, no_universal, result_both_ways, not_left, no_select}
use Rattle.rules.specs.definitions.Bits.{bit}
use Rattle.rules.specs.definitions.Sets.{has}
use Rattle.rules.specs.definitions.Faults.{Fault, fault, Found, first_of}
use Rattle.rules.specs.definitions.Faults.Found.{passes, fails}
use Rattle.rules.specs.definitions.Formula.{Clause, Formula, bound_by, universals, existentials, no_literal, kept_by, resolvent, two_faced}
use Rattle.rules.specs.definitions.Formula.Quant.{exists}
use Rattle.rules.specs.definitions.Maps.{Column, star?}
use Rattle.rules.specs.definitions.Comparing.{isomorphic}

-- ---- rows: the line as it was given, its clause and, for each universal in order, its node (or none) and its root
pub record Entry : Type 0 where
  pub node : Node
  pub root : ℕ

pub record Row : Type 0 where
  pub line : Line
  pub clause : Clause
  pub entries : List Entry

abbrev pub no_entry : Entry
no_entry = record { node = None; root = 0 }

abbrev pub no_row : Row
no_row = record { line = L.Axiom 0; clause = no_literal; entries = [] }

-- line i's row, lines counted from 1
unfoldable pub row_at : List Row → ℕ → Row
row_at rows zero = no_row
row_at rows (suc i) = get_or rows i no_row

abbrev pub clause_at : List Row → ℕ → Clause
clause_at rows i = (row_at rows i).clause

abbrev pub entry_at : List Row → ℕ → ℕ → Entry
entry_at rows j i = get_or (row_at rows i).entries j no_entry

-- the column of the universal at offset j
abbrev pub column : List Row → ℕ → Column
column rows j i = (entry_at rows j i).node

-- line i's root for the universal at offset j
abbrev pub root_at : List Row → ℕ → ℕ → ℕ
root_at rows j i = (entry_at rows j i).root

-- for each universal in order, from its offset and its variable
unfoldable pub each {ℓ} : {A : Type ℓ} → (ℕ → ℕ → A) → List ℕ → ℕ → List A
each f [] j = []
each f (u ∷ us) j = f j u ∷ each f us (suc j)

-- ---- what may differ between rules: how a record is decoded, which x stands left of which u,
-- and select's third ground, on the nodes of two roots of one column
pub record Rules : Type 0 where
  pub decode : List ℕ → Decoded
  pub left : ℕ → ℕ → Bool
  pub third_ground : Column → ℕ → ℕ → Bool

-- 01's third ground: isomorphic maps
abbrev pub strict : Column → ℕ → ℕ → Bool
strict T r t = isomorphic T r T t

-- ---- axiom: zero if u stands plain in the clause, one if negated, star if absent
abbrev pub falsifying : Clause → ℕ → Value
falsifying c u = cond (has c.plain u) Zero (cond (has c.negated u) One Star)

abbrev pub clause_number : Formula → ℕ → Clause
clause_number F c = get_or F.matrix (c - 1) no_literal

abbrev pub leaf_entry : Clause → ℕ → ℕ → ℕ → Entry
leaf_entry c i j u = record { node = Leaf (falsifying c u); root = i }

unfoldable pub axiom_row : Formula → ℕ → ℕ → Row
axiom_row F i c = record {
  line = L.Axiom c;
  clause = kept_by (existentials F.prefix) (clause_number F c);
  entries = each (leaf_entry (clause_number F c) i) (universals F.prefix) 0;
}

abbrev pub axiom_faults : Formula → ℕ → List Fault
axiom_faults F c = fault no_clause (ltb c 1 || ltb (length F.matrix) c) ∷ []

-- ---- select: if a's map is one star leaf, b's root; else if b's is one star leaf, or the third ground holds, a's root
pub data Selected : Type 0 where
  kept : ℕ → Selected
  undefined : Selected

unfoldable pub select : (Column → ℕ → ℕ → Bool) → Column → ℕ → ℕ → Selected
select third_ground T a b =
    elim (star? (T a)) [
      | true ↦ kept b
      | false ↦ elim (star? (T b)) [ true ↦ kept a | false ↦ elim (third_ground T a b) [ true ↦ kept a | false ↦ undefined ] ]
    ]

abbrev pub defined : Selected → Bool
defined (kept r) = true
defined undefined = false

abbrev pub kept_root : Selected → ℕ
kept_root (kept r) = r
kept_root undefined = 0

-- ---- resolution: the clause part, then the maps for a merge set
-- the universal at offset j is in the merge set
abbrev pub in_set : ℕ → ℕ → Bool
in_set m j = bit m j

-- a line before line i
abbrev pub earlier : ℕ → ℕ → Bool
earlier i a = leb 1 a && ltb a i

abbrev pub result : List Row → Resolution → Clause
result rows r = resolvent (clause_at rows r.a) (clause_at rows r.b) r.pivot

-- 24 to 27
abbrev pub parent_faults : Formula → List Row → ℕ → Resolution → List Fault
parent_faults F rows i r =
    fault no_parent (not (earlier i r.a) || not (earlier i r.b))
    ∷ fault no_pivot (not (bound_by exists F.prefix r.pivot))
    ∷ fault lacks_plain (not (has (clause_at rows r.a).plain r.pivot))
    ∷ fault lacks_negated (not (has (clause_at rows r.b).negated r.pivot))
    ∷ []

-- 28: a bit at or past the number of universals
abbrev pub set_faults : Formula → ℕ → List Fault
set_faults F m = fault no_universal (leb (2 ^ length (universals F.prefix)) m) ∷ []

-- 29, the house rule
abbrev pub result_faults : List Row → Resolution → List Fault
result_faults rows r = fault result_both_ways (two_faced (result rows r)) ∷ []

abbrev pub selected : Rules → List Row → Resolution → ℕ → Selected
selected R rows r j = select R.third_ground (column rows j) (root_at rows j r.a) (root_at rows j r.b)

-- 30 for a universal in the merge set, 31 for another
abbrev pub map_fault : Rules → List Row → Resolution → (ℕ → Bool) → ℕ → ℕ → Fault
map_fault R rows r chosen j u =
    elim (chosen j) [
      | true ↦ record { number = not_left; variable = u; when = not (R.left r.pivot u) }
      | false ↦ record { number = no_select; variable = u; when = not (defined (selected R rows r j)) }
    ]

abbrev pub map_faults : Rules → Formula → List Row → Resolution → (ℕ → Bool) → List Fault
map_faults R F rows r chosen = each (map_fault R rows r chosen) (universals F.prefix) 0

-- in the merge set node i is (x, root in a, root in b), root i; otherwise the root that select keeps, and no node
abbrev pub map_entry : Rules → List Row → ℕ → Resolution → (ℕ → Bool) → ℕ → ℕ → Entry
map_entry R rows i r chosen j u =
    elim (chosen j) [
      | true ↦ record { node = Branch r.pivot (root_at rows j r.a) (root_at rows j r.b); root = i }
      | false ↦ record { node = None; root = kept_root (selected R rows r j) }
    ]

unfoldable pub resolution_row : Rules → Formula → List Row → ℕ → Resolution → (ℕ → Bool) → Row
resolution_row R F rows i r chosen = record {
  line = L.Resolve r;
  clause = result rows r;
  entries = each (map_entry R rows i r chosen) (universals F.prefix) 0;
}

-- ---- one line: the first rule that it breaks, or its row
pub data Made : Type 0 where
  made : Row → Made
  refused : ℕ → ℕ → Made

abbrev pub unless_found : Found → Row → Made
unless_found passes row = made row
unless_found (fails n v) row = refused n v

-- a resolution's tests in order, with what is asked at the places of 28, and of 30 and 31
abbrev pub resolution_faults : Formula → List Row → ℕ → Resolution → List Fault → List Fault → List Fault
resolution_faults F rows i r set maps = parent_faults F rows i r ++ (set ++ (result_faults rows r ++ maps))

-- the rules for line i, in the listed order
unfoldable pub line_faults : Rules → Formula → List Row → ℕ → Line → List Fault
line_faults R F rows i (L.Axiom c) = axiom_faults F c
line_faults R F rows i (L.Resolve r) = resolution_faults F rows i r (set_faults F r.merge) (map_faults R F rows r (in_set r.merge))

unfoldable pub line_row : Rules → Formula → List Row → ℕ → Line → Row
line_row R F rows i (L.Axiom c) = axiom_row F i c
line_row R F rows i (L.Resolve r) = resolution_row R F rows i r (in_set r.merge)

unfoldable pub line_made : Rules → Formula → List Row → ℕ → Line → Made
line_made R F rows i l = unless_found (first_of (line_faults R F rows i l)) (line_row R F rows i l)

abbrev pub decoded_made : Rules → Formula → List Row → ℕ → Decoded → Made
decoded_made R F rows i (Ok l) = line_made R F rows i l
decoded_made R F rows i (Err n) = refused n 0

-- the line that comes after the rows, from its record
unfoldable pub next_line : Rules → Formula → List Row → List ℕ → Made
next_line R F rows bytes = decoded_made R F rows (suc (length rows)) (R.decode bytes)
