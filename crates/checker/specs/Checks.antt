-- A proof over a formula that the tables hold: what is asked of the tables, and what the answer says of them.
use Rattle.std.specs.Prelude.{◌≡◌, Result, Ok, Err, List, [], ℕ, ◌+◌, ◌*◌, ◌≤◌, length, drop}
use Rattle.rules.specs.declared.refusals.Refused.{Refused}
use Rattle.rules.specs.definitions.Refusals.{refusal_number}
use Rattle.rules.specs.definitions.Layout.{prefix_words, clause_words, head_bytes, record_bytes}
use Rattle.rules.specs.definitions.Limits.{lines_most}
use Rattle.rules.specs.definitions.Formula.{Formula}
use Rattle.rules.specs.statements.Proper.{Proper}
use Rattle.rules.specs.definitions.File.{split}
use Rattle.rules.specs.definitions.Checking.{Checked, base, rules_of, all_lines, when_passed}
use Rattle.rules.specs.definitions.Checking.Checked.{rejected, accepted}
use Rattle.rules.specs.definitions.Tables.{holding, prefix_table, clause_table}
use Rattle.checker.specs.Tables.{Held, held_in, KeptPast}

-- the tables hold the formula, which has so many clauses
pub record InTables (F : Formula) (prefix : List ℕ) (count : ℕ) (clauses : List ℕ) : Type 0 where
  pub proper : Proper F
  pub count_is : count ≡ length F.matrix
  pub in_prefix : prefix ≡ holding prefix_words (prefix_table F []) prefix
  pub in_clauses : clauses ≡ holding clause_words (clause_table F []) clauses

-- some formula, in tables of full length
pub record FilledTables (prefix : List ℕ) (count : ℕ) (clauses : List ℕ) : Type 0 where
  pub long_prefix : prefix_words ≤ length prefix
  pub long_clauses : clause_words ≤ length clauses
  pub some : (F : Formula) × InTables F prefix count clauses

-- a file with n records
pub record Headed (proof : List ℕ) (n : ℕ) : Type 0 where
  pub from : 1 ≤ n
  pub most : n ≤ lines_most
  pub whole : length proof ≡ head_bytes + record_bytes * n

-- the n records behind the head, checked
abbrev pub lines_checked : Formula → ℕ → List ℕ → Checked
lines_checked F n proof = when_passed base F (all_lines (rules_of base F proof) F (split n (drop head_bytes proof)))

-- the refusal, its place and its variable; or the line count, and the rows in the tables
abbrev pub Checks : Checked → Held → Held → Result ℕ Refused → Type 0
Checks (rejected n at v) lent T (Ok m) = ⊥
Checks (rejected n at v) lent T (Err e) = (refusal_number e.refusal ≡ n) × (e.place ≡ at) × (e.variable ≡ v) × KeptPast lent T
Checks (accepted F rows) lent T (Err e) = ⊥
Checks (accepted F rows) lent T (Ok m) = (m ≡ length rows) × (T ≡ held_in F rows lent)
