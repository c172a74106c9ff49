-- What a set and a clause by value stand for: the sets and clauses of the rules; and the literal of a signed number.
use Rattle.std.specs.Prelude.{◌≡◌, refl, true, false, List, [], ◌∷◌, ◌++◌, ℕ, suc, ℤ, pos, negsuc, ◌+◌, ◌*◌, length, take, drop}
use Rattle.std.proofs.Common.{◌∙◌, arith, length-append, take_at, drop_at}
use Rattle.rules.specs.definitions.Layout.{set_words}
use Rattle.rules.specs.definitions.Sets.{Set as Variables, without, join}
use Rattle.rules.specs.definitions.Formula.{Clause as Literals}
use Rattle.theory.specs.laws.Formula.{Worded}
use Rattle.rules.specs.definitions.Tables.{clause_row}
use Rattle.sets.specs.declared.Set.{Set}
use Rattle.sets.specs.declared.Literal.{Literal}
use Rattle.sets.specs.declared.Clause.{Clause}

-- the variables of a set
unfoldable pub set_of : Set → Variables
set_of s = s.word ∷ []

-- a literal is a signed number: minus for negated
abbrev pub literal_of : ℤ → Literal
literal_of (pos n) = record { variable = n; negated = false }
literal_of (negsuc n) = record { variable = suc n; negated = true }

-- the literals of a clause
unfoldable pub clause_of : Clause → Literals
clause_of c = record { plain = set_of c.plain; negated = set_of c.negated }

-- 01: a clause without one of its literals
abbrev pub less_plain : Literals → ℕ → Literals
less_plain c x = record { plain = without c.plain x; negated = c.negated }

abbrev pub less_negated : Literals → ℕ → Literals
less_negated c x = record { plain = c.plain; negated = without c.negated x }

-- 01: two clauses joined
abbrev pub joined : Literals → Literals → Literals
joined c d = record { plain = join c.plain d.plain; negated = join c.negated d.negated }

-- ---- in the words of a table
-- the words ws in place of those of a row from a place on
unfoldable pub put_in : List ℕ → ℕ → List ℕ → List ℕ
put_in row place ws = take place row ++ (ws ++ drop (place + length ws) row)

-- the clause of a row: the words of its variables plain, then negated
unfoldable pub clause_in : List ℕ → Literals
clause_in row = record { plain = take set_words row; negated = drop set_words row }

pub length_set_of : (s : Set) → length (set_of s) ≡ set_words
unfolding set_of set_words
length_set_of s = refl

pub clause_of_words : (c : Clause) → Worded (clause_of c)
unfolding clause_of
clause_of_words c = record { plain = length_set_of c.plain; negated = length_set_of c.negated }

-- a clause is read from the row that it is written to
pub clause_in_row : (c : Literals) → Worded c → clause_in (clause_row c) ≡ c
unfolding clause_in
clause_in_row c w = rw (take_at c.plain c.negated set_words w.plain, drop_at c.plain c.negated set_words w.plain)

pub length_clause_row : (c : Literals) → Worded c → length (clause_row c) ≡ 2 * set_words
length_clause_row c w = length-append c.plain c.negated ∙ omega (arith, w.plain, w.negated)
