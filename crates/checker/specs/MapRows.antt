-- The maps of a resolution: what is asked of the tables that hold the rows so far, and what each universal and all of them get.
use Rattle.std.specs.Prelude.{◌≡◌, Result, Ok, Err, Bool, true, false, not, List, ℕ, suc, ◌+◌, ◌-◌, ◌*◌, ◌≤◌, ◌<◌, length, get_or}
use Rattle.rules.specs.declared.Resolution.{Resolution}
use Rattle.rules.specs.declared.Node.TheVariants.{None}
use Rattle.rules.specs.declared.refusals.Refusal.{Refusal}
use Rattle.rules.specs.declared.refusals.Fault.{Fault}
use Rattle.rules.specs.definitions.Limits.{universals_most, lines_most}
use Rattle.rules.specs.definitions.Layout.{map_words}
use Rattle.rules.specs.definitions.Refusals.{refusal_number, no_select}
use Rattle.rules.specs.definitions.Sets.{has}
use Rattle.rules.specs.definitions.Faults.{Found, first_of}
use Rattle.rules.specs.definitions.Faults.Found.{passes, fails}
use Rattle.rules.specs.definitions.Formula.{Formula, bound_by, universals}
use Rattle.rules.specs.definitions.Formula.Quant.{exists}
use Rattle.rules.specs.statements.Proper.{Proper}
use Rattle.rules.specs.statements.Good.{Good}
use Rattle.rules.specs.definitions.Maps.{node_word}
use Rattle.rules.specs.definitions.Lines.{Entry, Row, Rules, strict, defined, kept_root, each, in_set, map_fault, map_faults, map_entry}
use Rattle.rules.specs.definitions.Lines.{Selected as KeptRoot}
use Rattle.rules.specs.definitions.Tables.{holding, node_table, root_table}
use Rattle.sets.specs.declared.Set.{Set}
use Rattle.sets.specs.Values.{set_of}
use Rattle.checker.specs.declared.maps_row.MapEntry.{MapEntry}
use Rattle.checker.specs.declared.rows.MapRow.{MapRow}
use Rattle.checker.specs.Rows.{RowOf}

-- line i resolves after the rows that the tables hold: its parents come before it, and its pivot is existential
pub record Resolving (R : Rules) (F : Formula) (rows : List Row) (nodes nodes₀ roots roots₀ : List ℕ) (r : Resolution) (i : ℕ) : Type 0 where
  pub proper : Proper F
  pub third_ground : R.third_ground ≡ strict
  pub good : Good R F rows
  pub in_nodes : nodes ≡ holding map_words (node_table F rows) nodes₀
  pub in_roots : roots ≡ holding map_words (root_table F rows) roots₀
  pub line : i ≡ suc (length rows)
  pub few : i ≤ lines_most
  pub a_earlier : (1 ≤ r.a) × (r.a < i)
  pub b_earlier : (1 ≤ r.b) × (r.b < i)
  pub pivot : bound_by exists F.prefix r.pivot ≡ true

-- of a formula with P, some rows and tables
abbrev pub SomeResolving : (Rules → Formula → Type 0) → List ℕ → List ℕ → Resolution → ℕ → Type 0
SomeResolving P nodes roots r i = (R : Rules) × (F : Formula) × (rows : List Row) × (nodes₀ : List ℕ) × (roots₀ : List ℕ) × P R F × Resolving R F rows nodes nodes₀ roots roots₀ r i

-- of every formula with P and all rows that the tables may hold, Q
abbrev pub EachResolving : (Rules → Formula → Type 0) → List ℕ → List ℕ → Resolution → ℕ → (Rules → Formula → List Row → Type 0) → Type 0
EachResolving P nodes roots r i Q = (R : Rules) (F : Formula) (rows : List Row) (nodes₀ roots₀ : List ℕ) → P R F → Resolving R F rows nodes nodes₀ roots roots₀ r i → Q R F rows

-- there is a universal at offset j, and the set has what stands left of it
pub record LeftSet (R : Rules) (F : Formula) (j : ℕ) (s : Set) : Type 0 where
  pub offset : j < length (universals F.prefix)
  pub members : (x : ℕ) → has (set_of s) x ≡ R.left x (get_or (universals F.prefix) j 0)

-- the place of a word in a table of the full length: the offset of a universal, and a line
pub record Place (table : List ℕ) (j i : ℕ) : Type 0 where
  pub offset : j < universals_most
  pub from : 1 ≤ i
  pub most : i ≤ lines_most
  pub long : map_words ≤ length table

-- the word of a root table for the universal at offset j, lines counted from 1
abbrev pub root_word : List ℕ → ℕ → ℕ → ℕ
root_word roots j i = get_or roots (universals_most * (i - 1) + j) 0

-- the refusal where the fault is to be given, else the words of the entry
abbrev pub Enters : Bool → ℕ → Entry → Result MapEntry Refusal → Type 0
Enters true n e (Ok m) = ⊥
Enters true n e (Err k) = refusal_number k ≡ n
Enters false n e (Ok m) = (m.node ≡ node_word e.node) × (m.root ≡ e.root)
Enters false n e (Err k) = ⊥

-- select's answer: no node and the root that is kept, or 31
abbrev pub Keeps : KeptRoot → Result MapEntry Refusal → Type 0
Keeps s m = Enters (not (defined s)) no_select (record { node = None; root = kept_root s }) m

-- what the universal u at offset j gets
abbrev pub Gets : Rules → Formula → List Row → Resolution → ℕ → ℕ → ℕ → Result MapEntry Refusal → Type 0
Gets R F rows r i j u m =
    Enters (map_fault R rows r (in_set r.merge) j u).when (map_fault R rows r (in_set r.merge) j u).number (map_entry R rows i r (in_set r.merge) j u) m

-- the row of all entries, or the first fault and its variable
abbrev pub MakesMaps : Found → List Entry → Result MapRow Fault → Type 0
MakesMaps passes es (Ok m) = RowOf es m
MakesMaps passes es (Err e) = ⊥
MakesMaps (fails n v) es (Ok m) = ⊥
MakesMaps (fails n v) es (Err e) = (refusal_number e.refusal ≡ n) × (e.variable ≡ v)

-- the row that was lent, where no universal refuses
abbrev pub row_made : Result Unit Fault → MapRow → Result MapRow Fault
row_made (Ok u) m = Ok m
row_made (Err e) m = Err e

-- what all universals get
abbrev pub AllGet : Rules → Formula → List Row → Resolution → ℕ → Result MapRow Fault → Type 0
AllGet R F rows r i m = MakesMaps (first_of (map_faults R F rows r (in_set r.merge))) (each (map_entry R rows i r (in_set r.merge)) (universals F.prefix) 0) m
