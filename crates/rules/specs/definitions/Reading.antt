-- Formula text (01): header, blocks, clauses, read left to right; the first faulty token decides.
use Rattle.std.specs.Prelude.{Bool, true, false, cond, not, ◌&&◌, List, [], ◌∷◌, ◌++◌, ℕ, zero, suc, leb, ltb, pos, negsuc, length}
use Rattle.rules.specs.definitions.Limits.{variables_most, universals_most, clauses_most}
use Rattle.rules.specs.definitions.Refusals.{bad_token, header_limit, no_variable, bound_twice, too_many_universals, not_bound, both_ways, clause_count}
use Rattle.rules.specs.definitions.Faults.{fault, Found, first_of}
use Rattle.rules.specs.definitions.Faults.Found.{passes, fails}
use Rattle.rules.specs.definitions.Formula.{Quant, Bound, Clause, Formula, Literal, universal?, bound, universals, completed, no_literal, with_literal, has_opposite}
use Rattle.rules.specs.definitions.Formula.Quant.{exists, forall}
use Rattle.rules.specs.definitions.Text.{Rest, uncommented, Token, tokens, spelled, Number, number_of}
use Rattle.rules.specs.definitions.Text.Number.{number, no_number}

-- ---- what is read so far, and what may stand next
pub data Place : Type 0 where
  -- the header's four tokens
  at_mark at_cnf at_variables at_count : Place
  -- a block's place: a block, or the first clause, begins
  at_block : Place
  -- within a block, of this kind; whether a variable stands in it
  in_block : Quant → Bool → Place
  -- a clause's place, past the first clause
  at_clause : Place
  -- within a clause, with its literals so far
  in_clause : Clause → Place

pub record State : Type 0 where
  pub place : Place
  pub variables : ℕ
  pub count : ℕ
  pub blocks : List Bound
  pub clauses : List Clause

abbrev pub begin : State
begin = record { place = at_mark; variables = 0; count = 0; blocks = []; clauses = [] }

abbrev pub moved : State → Place → State
moved st p = record { place = p; variables = st.variables; count = st.count; blocks = st.blocks; clauses = st.clauses }

-- one token: the refusal's number, or what is read then
pub data Next : Type 0 where
  stop : ℕ → Next
  go : State → Next

abbrev pub unless : Found → State → Next
unless passes st = go st
unless (fails n v) st = stop n

-- ---- the words of the text
abbrev pub word_p : List ℕ
word_p = 112 ∷ []

abbrev pub word_cnf : List ℕ
word_cnf = 99 ∷ 110 ∷ 102 ∷ []

abbrev pub word_a : List ℕ
word_a = 97 ∷ []

abbrev pub word_e : List ℕ
word_e = 101 ∷ []

-- ---- the header
abbrev pub expect : List ℕ → List ℕ → State → Next
expect w bytes st = cond (spelled w bytes) (go st) (stop bad_token)

-- a header number up to its limit; a negative one is no token there
abbrev pub limited : ℕ → Number → (ℕ → State) → Next
limited most no_number st = stop bad_token
limited most (number (negsuc n)) st = stop bad_token
limited most (number (pos n)) st = unless (first_of (fault header_limit (ltb most n) ∷ [])) (st n)

abbrev pub with_variables : State → ℕ → State
with_variables st n = record { place = at_count; variables = n; count = st.count; blocks = st.blocks; clauses = st.clauses }

abbrev pub with_count : State → ℕ → State
with_count st n = record { place = at_block; variables = st.variables; count = n; blocks = st.blocks; clauses = st.clauses }

-- ---- blocks
abbrev pub bind : State → Quant → ℕ → State
bind st q v = record {
  place = in_block q true;
  variables = st.variables;
  count = st.count;
  blocks = st.blocks ++ (record { kind = q; var = v } ∷ []);
  clauses = st.clauses;
}

-- a 17th universal
abbrev pub full : State → Quant → Bool
full st q = universal? q && leb universals_most (length (universals st.blocks))

abbrev pub block_token : State → Quant → Bool → Number → Next
block_token st q some no_number = stop bad_token
block_token st q some (number (negsuc n)) = stop no_variable
block_token st q some (number (pos zero)) = cond some (go (moved st at_block)) (stop bad_token)
block_token st q some (number (pos (suc n))) =
    unless
    (first_of
    (fault no_variable (ltb st.variables (suc n))
    ∷ fault bound_twice (bound st.blocks (suc n))
    ∷ fault too_many_universals (full st q)
    ∷ []))
    (bind st q (suc n))

-- ---- clauses
abbrev pub clause_ended : State → Clause → State
clause_ended st c = record {
  place = at_clause;
  variables = st.variables;
  count = st.count;
  blocks = st.blocks;
  clauses = st.clauses ++ (c ∷ []);
}

-- a literal is a signed number: minus for negated
abbrev pub literal_token : State → Clause → Literal → Next
literal_token st c l =
    unless
    (first_of
    (fault no_variable (ltb st.variables l.variable)
    ∷ fault not_bound (not (bound st.blocks l.variable))
    ∷ fault both_ways (has_opposite c l)
    ∷ []))
    (moved st (in_clause (with_literal c l)))

abbrev pub clause_token : State → Clause → Number → Next
clause_token st c no_number = stop bad_token
clause_token st c (number (pos zero)) = go (clause_ended st c)
clause_token st c (number (pos (suc n))) = literal_token st c (record { variable = suc n; negated = false })
clause_token st c (number (negsuc n)) = literal_token st c (record { variable = suc n; negated = true })

-- as many clauses as the header says
abbrev pub complete : State → Bool
complete st = leb st.count (length st.clauses)

-- a clause's token where a clause may begin: past the last clause it is one too many
abbrev pub begin_clause : State → List ℕ → Next
begin_clause st bytes = elim (complete st) [ true ↦ stop clause_count | false ↦ clause_token st no_literal (number_of bytes) ]

abbrev pub block_place : State → List ℕ → Next
block_place st bytes =
    elim (spelled word_a bytes) [
      | true ↦ go (moved st (in_block forall false))
      | false ↦ elim (spelled word_e bytes) [ true ↦ go (moved st (in_block exists false)) | false ↦ begin_clause st bytes ]
    ]

-- ---- one token
abbrev pub step_at : Place → State → List ℕ → Next
step_at at_mark st bytes = expect word_p bytes (moved st at_cnf)
step_at at_cnf st bytes = expect word_cnf bytes (moved st at_variables)
step_at at_variables st bytes = limited variables_most (number_of bytes) (with_variables st)
step_at at_count st bytes = limited clauses_most (number_of bytes) (with_count st)
step_at at_block st bytes = block_place st bytes
step_at (in_block q some) st bytes = block_token st q some (number_of bytes)
step_at at_clause st bytes = begin_clause st bytes
step_at (in_clause c) st bytes = clause_token st c (number_of bytes)

unfoldable pub step : State → List ℕ → Next
step st bytes = step_at st.place st bytes

-- ---- the text's end
abbrev pub formula_of : State → Formula
formula_of st = record { variables = st.variables; prefix = completed st.blocks st.clauses; matrix = st.clauses }

-- reading gives a formula, or a refusal's number and its offset
pub data Reading : Type 0 where
  unread : ℕ → ℕ → Reading
  formula : Formula → Reading

abbrev pub between_clauses : ℕ → State → Reading
between_clauses n st = cond (complete st) (formula (formula_of st)) (unread clause_count n)

-- the text ends at its length n
abbrev pub end_at : Place → ℕ → State → Reading
end_at at_mark n st = unread bad_token n
end_at at_cnf n st = unread bad_token n
end_at at_variables n st = unread bad_token n
end_at at_count n st = unread bad_token n
end_at at_block n st = between_clauses n st
end_at (in_block q some) n st = unread bad_token n
end_at at_clause n st = between_clauses n st
end_at (in_clause c) n st = unread bad_token n

-- the tokens in order; the first faulty one decides
unfoldable pub read_from : ℕ → State → List Token → Reading
read_from n st [] = end_at st.place n st
read_from n st (t ∷ ts) = elim (step st t.bytes) [ stop k ↦ unread k t.at | go st' ↦ read_from n st' ts ]

abbrev pub tokens_of : Rest → List Token
tokens_of r = tokens false r.bytes r.at

-- what a text reads to
unfoldable pub read : List ℕ → Reading
read s = read_from (length s) begin (tokens_of (uncommented false s 0))
