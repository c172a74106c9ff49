-- All lines: what is asked of the tables, and what they hold afterwards.
use Rattle.std.specs.Prelude.{◌≡◌, Result, Ok, Err, List, ℕ, length, drop}
use Rattle.rules.specs.declared.refusals.Refused.{Refused}
use Rattle.rules.specs.definitions.Refusals.{refusal_number}
use Rattle.rules.specs.definitions.Formula.{Formula}
use Rattle.rules.specs.definitions.Lines.{Row, Rules}
use Rattle.rules.specs.definitions.Checking.{Passed, lines_from, all_lines}
use Rattle.rules.specs.definitions.Checking.Passed.{passed, stopped}
use Rattle.checker.specs.Tables.{Held, cleared, KeptPast}
use Rattle.checker.specs.Makes.{Standing}

-- the tables hold no row
abbrev pub Blank : Held → Type 0
Blank T = T ≡ cleared T

-- all rows stand in the tables; or the refusal, its line and its variable
abbrev pub Ran : Rules → Formula → Passed → Held → Held → Result Unit Refused → Type 0
Ran R F (passed rows) lent T (Ok u) = Standing R F rows lent T
Ran R F (passed rows) lent T (Err e) = ⊥
Ran R F (stopped n i v) lent T (Ok u) = ⊥
Ran R F (stopped n i v) lent T (Err e) = (refusal_number e.refusal ≡ n) × (e.place ≡ i) × (e.variable ≡ v) × KeptPast lent T

-- after i lines: the rows so far stand, and the run from the start is the run of the records left
pub record SoFar (R : Rules) (F : Formula) (records : List (List ℕ)) (lent T : Held) (i : ℕ) : Type 0 where
  pub rows : List Row
  pub count : i ≡ length rows
  pub standing : Standing R F rows lent T
  pub rest : all_lines R F records ≡ lines_from R F rows (drop i records)
