-- Checking (01): all lines in order, and the last clause; the stages of checking a text with a proof.
use Rattle.std.specs.Prelude.{Bool, true, false, List, [], ◌∷◌, ◌++◌, ℕ, suc, length}
use Rattle.rules.specs.definitions.Refusals.{not_empty}
use Rattle.rules.specs.definitions.Faults.Found.{passes, fails}
use Rattle.rules.specs.definitions.Formula.{Formula, empty_clause}
use Rattle.rules.specs.definitions.Reading.{read}
use Rattle.rules.specs.definitions.Reading.Reading.{unread, formula}
use Rattle.rules.specs.definitions.Maps.{Column}
use Rattle.rules.specs.definitions.File.{Form, merge_proof, version_in, head_fault, records}
use Rattle.rules.specs.definitions.Lines.{Row, Rules, strict, clause_at, next_line}
use Rattle.rules.specs.definitions.Lines.Made.{made, refused}

-- all lines pass and make these rows, or the number, the line and the variable of the first that does not
pub data Passed : Type 0 where
  passed : List Row → Passed
  stopped : ℕ → ℕ → ℕ → Passed

-- the records left, after the rows made so far; lines go in order
unfoldable pub lines_from : Rules → Formula → List Row → List (List ℕ) → Passed
lines_from R F rows [] = passed rows
lines_from R F rows (r ∷ rs) =
    elim (next_line R F rows r) [ made row ↦ lines_from R F (rows ++ (row ∷ [])) rs | refused n v ↦ stopped n (suc (length rows)) v ]

unfoldable pub all_lines : Rules → Formula → List (List ℕ) → Passed
all_lines R F rs = lines_from R F [] rs

-- a refutation is a proof whose last line's clause is empty
abbrev pub last_empty : List Row → Bool
last_empty rows = empty_clause (clause_at rows (length rows))

-- ---- checking a text with a proof
pub data Checked : Type 0 where
  -- the refusal's number, place and variable
  rejected : ℕ → ℕ → ℕ → Checked
  accepted : Formula → List Row → Checked

-- ---- how a service checks
pub record Manner : Type 0 where
  -- select's third ground
  pub third_ground : Column → ℕ → ℕ → Bool
  -- the kind of file
  pub form : Form
  -- what is asked of rows that all pass
  pub asks : List Row → Bool

-- a refutation is asked for
abbrev pub refuting : (Column → ℕ → ℕ → Bool) → Form → Manner
refuting third_ground form = record { third_ground = third_ground; form = form; asks = last_empty }

-- 01's own
abbrev pub base : Manner
base = refuting strict merge_proof

-- the rules for the lines of a file
abbrev pub rules_of : Manner → Formula → List ℕ → Rules
rules_of m F proof = record { decode = (version_in m.form proof).decode; left = (version_in m.form proof).left F proof; third_ground = m.third_ground }

-- all lines of a file
abbrev pub lines_of : Manner → Formula → List ℕ → Passed
lines_of m F proof = all_lines (rules_of m F proof) F (records m.form F proof)

-- ---- by stages: the text, the file's head, the lines, the last clause
abbrev pub last_checked : Manner → Formula → List Row → Checked
last_checked m F rows = elim (m.asks rows) [ true ↦ accepted F rows | false ↦ rejected not_empty (length rows) 0 ]

abbrev pub when_passed : Manner → Formula → Passed → Checked
when_passed m F (passed rows) = last_checked m F rows
when_passed m F (stopped n i v) = rejected n i v

abbrev pub proof_checked : Manner → Formula → List ℕ → Checked
proof_checked m F proof = elim (head_fault m.form F proof) [ passes ↦ when_passed m F (lines_of m F proof) | fails n v ↦ rejected n 0 v ]

unfoldable pub checked_by : Manner → List ℕ → List ℕ → Checked
checked_by m text proof = elim (read text) [ unread n at ↦ rejected n at 0 | formula F ↦ proof_checked m F proof ]

-- 01's checking
abbrev pub checked : List ℕ → List ℕ → Checked
checked = checked_by base
