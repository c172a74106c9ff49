-- What a line makes, by value, and the formula as checking has it: its game.
use Rattle.std.specs.Prelude.{◌≡◌, Result, Ok, Err, List, [], ℕ, suc, ◌≤◌, length}
use Rattle.rules.specs.declared.refusals.Refusal.{Refusal}
use Rattle.rules.specs.declared.refusals.Fault.{Fault}
use Rattle.rules.specs.definitions.Refusals.{refusal_number}
use Rattle.rules.specs.definitions.Layout.{clause_words}
use Rattle.rules.specs.definitions.Limits.{lines_most}
use Rattle.rules.specs.definitions.Formula.{Formula}
use Rattle.rules.specs.statements.Proper.{Proper}
use Rattle.rules.specs.statements.Good.{Good}
use Rattle.rules.specs.definitions.Lines.{Row, Rules}
use Rattle.rules.specs.definitions.Lines.{Made as Outcome}
use Rattle.rules.specs.definitions.Lines.Made.{made, refused}
use Rattle.rules.specs.definitions.Tables.{holding, clause_table}
use Rattle.sets.specs.Values.{clause_of}
use Rattle.checker.specs.declared.game.Game.{Game}
use Rattle.checker.specs.declared.axioms.Made.{Made}
use Rattle.checker.specs.Game.{GameOf}
use Rattle.checker.specs.Rows.{RowOf}
use Rattle.checker.specs.Tables.{Held, held_in}

-- the line's clause and its row, or the refusal and its variable
abbrev pub Makes : Outcome → Result Made Fault → Type 0
Makes (made row) (Ok m) = (clause_of m.clause ≡ row.clause) × RowOf row.entries m.row
Makes (made row) (Err e) = ⊥
Makes (refused n v) (Ok m) = ⊥
Makes (refused n v) (Err e) = (refusal_number e.refusal ≡ n) × (e.variable ≡ v)

-- a refusal that names no variable, as one with the variable 0
abbrev pub faulted : {A : Type 0} → Result A Refusal → Result A Fault
faulted (Ok a) = Ok a
faulted (Err k) = Err (record { refusal = k; variable = 0 })

-- the rules, the formula and its game, whose clause table holds the formula's clauses
pub record Whole (R : Rules) (F : Formula) (g : Game) : Type 0 where
  pub proper : Proper F
  pub game : GameOf R F g
  pub long : clause_words ≤ length g.clauses.now
  pub words : g.clauses.now ≡ holding clause_words (clause_table F []) g.clauses.now

-- the rows so far, and the tables that hold them
pub record Standing (R : Rules) (F : Formula) (rows : List Row) (lent T : Held) : Type 0 where
  pub good : Good R F rows
  pub few : length rows ≤ lines_most
  pub words : T ≡ held_in F rows lent

-- line i comes after the rows
pub record Ready (R : Rules) (F : Formula) (rows : List Row) (g : Game) (lent T : Held) (i : ℕ) : Type 0 where
  pub whole : Whole R F g
  pub standing : Standing R F rows lent T
  pub line : i ≡ suc (length rows)
  pub within : i ≤ lines_most

-- some formula's rows
abbrev pub SomeReady : Game → Held → ℕ → Type 0
SomeReady g T i = (R : Rules) × (F : Formula) × (rows : List Row) × (lent : Held) × Ready R F rows g lent T i

-- of all rows that the tables may hold, the outcome that the line makes
abbrev pub EachMakes : Game → Held → ℕ → (Rules → Formula → List Row → Outcome) → Result Made Fault → Type 0
EachMakes g T i made_by m = (R : Rules) (F : Formula) (rows : List Row) (lent : Held) → Ready R F rows g lent T i → Makes (made_by R F rows) m
