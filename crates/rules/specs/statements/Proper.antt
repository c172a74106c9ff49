-- What every formula that reading gives keeps to.
use Rattle.std.specs.Prelude.{◌≡◌, true, ◌⊎◌, ℕ, ◌≤◌, ◌<◌, length, get_or}
use mathlib.Core.List.{List, Memᴰ}
use Rattle.rules.specs.definitions.Limits.{variables_most, universals_most, clauses_most}
use Rattle.rules.specs.definitions.Layout.{set_words}
use Rattle.rules.specs.definitions.Sets.{has}
use Rattle.rules.specs.definitions.Formula.{Quant, Bound, Clause, Formula, bound, universals}
use Rattle.rules.specs.definitions.Formula.Quant.{exists}

-- the variable and the quantifier at a place of the prefix, counted from 0
abbrev pub nowhere : Bound
nowhere = record { kind = exists; var = 0 }

abbrev pub var_at : List Bound → ℕ → ℕ
var_at Q i = (get_or Q i nowhere).var

abbrev pub kind_at : List Bound → ℕ → Quant
kind_at Q i = (get_or Q i nowhere).kind

-- no variable is bound twice
abbrev pub Distinct : List Bound → Type 0
Distinct Q = (i j : ℕ) → i < length Q → j < length Q → var_at Q i ≡ var_at Q j → i ≡ j

pub record Proper (F : Formula) : Type 0 where
  pub variables : F.variables ≤ variables_most
  pub in_range : (i : ℕ) → i < length F.prefix → (1 ≤ var_at F.prefix i) × (var_at F.prefix i ≤ F.variables)
  pub distinct : Distinct F.prefix
  pub universals : length (universals F.prefix) ≤ universals_most
  pub clauses : length F.matrix ≤ clauses_most
  -- each clause's variables are bound, and none stands in it both ways
  pub closed : (c : Clause) → Memᴰ c F.matrix → (v : ℕ) → (has c.plain v ≡ true) ⊎ (has c.negated v ≡ true) → bound F.prefix v ≡ true
  pub one_way : (c : Clause) → Memᴰ c F.matrix → (v : ℕ) → has c.plain v ≡ true → has c.negated v ≡ true → ⊥
  -- each clause has its two sets in so many words
  pub plain_words : (c : Clause) → Memᴰ c F.matrix → length c.plain ≡ set_words
  pub negated_words : (c : Clause) → Memᴰ c F.matrix → length c.negated ≡ set_words
