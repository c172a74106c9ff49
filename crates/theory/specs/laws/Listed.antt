-- A refusal's number is one of the list: 3 to 10 from the text, 11 to 13 from the head, 21 to 31 from a line, 32 from the last clause.
use Rattle.std.specs.Prelude.{Ok, Err, ◌≡◌, refl, Bool, true, false, cond, not, List, [], ◌∷◌, ◌++◌, ℕ, zero, suc, ◌≤◌, ltb, eqb, pos, negsuc, length, get_or}
use Rattle.std.proofs.Common.{subst, sym, arith}
use Rattle.rules.specs.declared.Line.{Line}
use Rattle.rules.specs.declared.Line.TheVariants as L
use Rattle.rules.specs.definitions.File.{Decoded}
use Rattle.rules.specs.declared.Resolution.{Resolution}
use Rattle.rules.specs.definitions.Faults.{Fault, fault, Found, first_of}
use Rattle.rules.specs.definitions.Faults.Found.{passes, fails}
use Rattle.rules.specs.definitions.Limits.{variables_most, clauses_most}
use Rattle.rules.specs.definitions.Refusals.{header_limit, no_variable, bound_twice, too_many_universals, not_bound, both_ways, clause_count, bad_kind, axiom_tail, not_left, no_select, not_empty}
use Rattle.rules.specs.definitions.Formula.{Quant, Clause, Formula, Literal, universals, bound, has_opposite, with_literal, no_literal}
use Rattle.rules.specs.definitions.Formula.Quant.{exists, forall}
use Rattle.rules.specs.definitions.Text.{Token, Number, number_of, spelled, uncommented}
use Rattle.rules.specs.definitions.Text.Number.{number, no_number}
use Rattle.rules.specs.definitions.Reading.{Place, State, Next, unless, expect, limited, block_token, clause_token, literal_token, begin_clause, block_place, complete, step_at, step, Reading, end_at, between_clauses, read_from, read, begin, tokens_of, word_p, word_cnf, word_a, word_e, with_variables, with_count, moved, bind, full, formula_of}
use Rattle.rules.specs.definitions.Reading.Place.{at_mark, at_cnf, at_variables, at_count, at_block, in_block, at_clause, in_clause}
use Rattle.rules.specs.definitions.Reading.Next.{stop, go}
use Rattle.rules.specs.definitions.Reading.Reading.{unread, formula}
use Rattle.rules.specs.definitions.File.{Form, merge_proof, version_in, head_faults, head_fault, records, decoded, bare_tail, pair_at, resolution_at}
use Rattle.rules.specs.definitions.Lines.{Row, Rules, Made, each, unless_found, line_faults, line_row, line_made, decoded_made, next_line, map_fault, in_set, selected, defined}
use Rattle.rules.specs.definitions.Lines.Made.{made, refused}
use Rattle.rules.specs.definitions.Checking.{Passed, lines_from, all_lines, Checked, Manner, base, rules_of, lines_of, last_checked, when_passed, proof_checked, checked_by, checked}
use Rattle.rules.specs.definitions.Checking.Passed.{passed, stopped}
use Rattle.rules.specs.definitions.Checking.Checked.{rejected, accepted}

-- n is one of lo to hi
abbrev pub Within : ℕ → ℕ → ℕ → Type 0
Within lo hi n = (lo ≤ n) × (n ≤ hi)

-- ---- lists of tests
abbrev AllWithin : ℕ → ℕ → List Fault → Type 0
AllWithin lo hi [] = Unit {0}
AllWithin lo hi (f ∷ fs) = Within lo hi f.number × AllWithin lo hi fs

abbrev FoundWithin : ℕ → ℕ → Found → Type 0
FoundWithin lo hi passes = Unit {0}
FoundWithin lo hi (fails n v) = Within lo hi n

first_within : (lo hi : ℕ) (fs : List Fault) → AllWithin lo hi fs → FoundWithin lo hi (first_of fs)
unfolding first_of
first_within lo hi [] a = tt
first_within lo hi (f ∷ fs) (w, a) = by f.when (first_within lo hi fs a)
  where
    by : (b : Bool) → FoundWithin lo hi (first_of fs) → FoundWithin lo hi (elim b [ true ↦ fails f.number f.variable | false ↦ first_of fs ])
    by true ih = w
    by false ih = ih

each_within : (lo hi : ℕ) (f : ℕ → ℕ → Fault) → ((j u : ℕ) → Within lo hi (f j u).number) → (us : List ℕ) (j : ℕ) → AllWithin lo hi (each f us j)
unfolding each
each_within lo hi f w [] j = tt
each_within lo hi f w (u ∷ us) j = (w j u, each_within lo hi f w us (suc j))

-- ---- the text
abbrev NextWithin : Next → Type 0
NextWithin (stop k) = Within 3 10 k
NextWithin (go st) = Unit {0}

unless_within : (f : Found) (st : State) → FoundWithin 3 10 f → NextWithin (unless f st)
unless_within passes st w = tt
unless_within (fails n v) st w = w

cond_within : (b : Bool) (m n : Next) → NextWithin m → NextWithin n → NextWithin (cond b m n)
cond_within true m n p q = p
cond_within false m n p q = q

elim_within : (b : Bool) (m n : Next) → NextWithin m → NextWithin n → NextWithin (elim b [ true ↦ m | false ↦ n ])
elim_within true m n p q = p
elim_within false m n p q = q

expect_within : (w bytes : List ℕ) (st : State) → NextWithin (expect w bytes st)
expect_within w bytes st = cond_within (spelled w bytes) (go st) (stop 3) tt (omega arith)

limited_within : (most : ℕ) (n : Number) (st : ℕ → State) → NextWithin (limited most n st)
limited_within most no_number st = omega arith
limited_within most (number (negsuc n)) st = omega arith
limited_within most (number (pos n)) st =
    let fs : List Fault = fault header_limit (ltb most n) ∷ [] in unless_within (first_of fs) (st n) (first_within 3 10 fs (omega arith, tt))

block_within : (st : State) (q : Quant) (some : Bool) (n : Number) → NextWithin (block_token st q some n)
block_within st q some no_number = omega arith
block_within st q some (number (negsuc n)) = omega arith
block_within st q some (number (pos zero)) = cond_within some (go (moved st at_block)) (stop 3) tt (omega arith)
block_within st q some (number (pos (suc n))) =
    let fs : List Fault =
    fault no_variable (ltb st.variables (suc n)) ∷ fault bound_twice (bound st.blocks (suc n)) ∷ fault too_many_universals (full st q) ∷ [] in
    unless_within (first_of fs) (bind st q (suc n)) (first_within 3 10 fs (omega arith, (omega arith, (omega arith, tt))))

literal_within : (st : State) (c : Clause) (l : Literal) → NextWithin (literal_token st c l)
literal_within st c l =
    let fs : List Fault =
    fault no_variable (ltb st.variables l.variable)
    ∷ fault not_bound (not (bound st.blocks l.variable))
    ∷ fault both_ways (has_opposite c l)
    ∷ [] in
    unless_within (first_of fs) (moved st (in_clause (with_literal c l))) (first_within 3 10 fs (omega arith, (omega arith, (omega arith, tt))))

clause_within : (st : State) (c : Clause) (n : Number) → NextWithin (clause_token st c n)
clause_within st c no_number = omega arith
clause_within st c (number (pos zero)) = tt
clause_within st c (number (pos (suc n))) = literal_within st c (record { variable = suc n; negated = false })
clause_within st c (number (negsuc n)) = literal_within st c (record { variable = suc n; negated = true })

begin_within : (st : State) (bytes : List ℕ) → NextWithin (begin_clause st bytes)
begin_within st bytes = elim_within (complete st) (stop clause_count) (clause_token st no_literal (number_of bytes)) (omega arith) (clause_within st no_literal (number_of bytes))

place_within : (st : State) (bytes : List ℕ) → NextWithin (block_place st bytes)
place_within st bytes = by (spelled word_a bytes) (spelled word_e bytes)
  where
    by : (a b : Bool)
        → NextWithin
        (elim a [ true ↦ go (moved st (in_block forall false)) | false ↦ elim b [ true ↦ go (moved st (in_block exists false)) | false ↦ begin_clause st bytes ] ])
    by true b = tt
    by false true = tt
    by false false = begin_within st bytes

step_within : (p : Place) (st : State) (bytes : List ℕ) → NextWithin (step_at p st bytes)
step_within at_mark st bytes = expect_within word_p bytes (moved st at_cnf)
step_within at_cnf st bytes = expect_within word_cnf bytes (moved st at_variables)
step_within at_variables st bytes = limited_within variables_most (number_of bytes) (with_variables st)
step_within at_count st bytes = limited_within clauses_most (number_of bytes) (with_count st)
step_within at_block st bytes = place_within st bytes
step_within (in_block q some) st bytes = block_within st q some (number_of bytes)
step_within at_clause st bytes = begin_within st bytes
step_within (in_clause c) st bytes = clause_within st c (number_of bytes)

-- a refused text's place is at most its length, given that the tokens' are
abbrev ReadWithin : Reading → Type 0
ReadWithin (unread k at) = Within 3 10 k
ReadWithin (formula F) = Unit {0}

between_within : (n : ℕ) (st : State) → ReadWithin (between_clauses n st)
between_within n st = by (complete st)
  where
    by : (b : Bool) → ReadWithin (cond b (formula (formula_of st)) (unread 10 n))
    by true = tt
    by false = omega arith

end_within : (p : Place) (n : ℕ) (st : State) → ReadWithin (end_at p n st)
end_within at_mark n st = omega arith
end_within at_cnf n st = omega arith
end_within at_variables n st = omega arith
end_within at_count n st = omega arith
end_within at_block n st = between_within n st
end_within (in_block q some) n st = omega arith
end_within at_clause n st = between_within n st
end_within (in_clause c) n st = omega arith

from_within : (n : ℕ) (st : State) (ts : List Token) → ReadWithin (read_from n st ts)
unfolding read_from step
from_within n st [] = end_within st.place n st
from_within n st (t ∷ ts) = by (step_at st.place st t.bytes) (step_within st.place st t.bytes) (λ st'. from_within n st' ts)
  where
    by : (m : Next) → NextWithin m → ((st' : State) → ReadWithin (read_from n st' ts)) → ReadWithin (elim m [ stop k ↦ unread k t.at | go st' ↦ read_from n st' ts ])
    by (stop k) w ih = w
    by (go st') w ih = ih st'

pub text_listed : (s : List ℕ) (n at : ℕ) → read s ≡ unread n at → Within 3 10 n
unfolding read
text_listed s n at e = subst ReadWithin e (from_within (length s) begin (tokens_of (uncommented false s 0)))

-- ---- the head, with a version that has no tests of its own
pub head_listed : (form : Form) (F : Formula) (s : List ℕ) → (version_in form s).faults F s ≡ [] → (n v : ℕ) → head_fault form F s ≡ fails n v → Within 11 13 n
unfolding head_fault
head_listed form F s none n v e =
    subst (FoundWithin 11 13) e (first_within 11 13 (head_faults form F s) (omega arith, (omega arith, (omega arith, subst (AllWithin 11 13) (sym none) tt))))

-- ---- a line
abbrev MadeWithin : Made → Type 0
MadeWithin (made row) = Unit {0}
MadeWithin (refused n v) = Within 21 31 n

map_within : (R : Rules) (rows : List Row) (r : Resolution) (chosen : ℕ → Bool) (j u : ℕ) → Within 21 31 (map_fault R rows r chosen j u).number
map_within R rows r chosen j u = by (chosen j)
  where
    by : (b : Bool)
        → Within 21 31
        (elim b as (λ _. Fault) [
          | true ↦ record { number = not_left; variable = u; when = not (R.left r.pivot u) }
          | false ↦ record { number = no_select; variable = u; when = not (defined (selected R rows r j)) }
        ]).number
    by true = omega arith
    by false = omega arith

faults_within : (R : Rules) (F : Formula) (rows : List Row) (i : ℕ) (l : Line) → AllWithin 21 31 (line_faults R F rows i l)
unfolding line_faults
faults_within R F rows i (L.Axiom c) = (omega arith, tt)
faults_within R F rows i (L.Resolve r) = (
  omega arith,
  (
    omega arith,
    (
      omega arith,
      (
        omega arith,
        (
          omega arith,
          (omega arith, each_within 21 31 (map_fault R rows r (in_set r.merge)) (map_within R rows r (in_set r.merge)) (universals F.prefix) 0),
        ),
      ),
    ),
  ),
)

made_within : (f : Found) (row : Row) → FoundWithin 21 31 f → MadeWithin (unless_found f row)
made_within passes row w = tt
made_within (fails n v) row w = w

-- a record that is no line is refused with 21 or 22
abbrev pub DecodedWithin : Decoded → Type 0
DecodedWithin (Ok l) = Unit {0}
DecodedWithin (Err n) = Within 21 31 n

pub decoded_within : (s : List ℕ) → DecodedWithin (decoded s)
unfolding decoded
decoded_within s = by (eqb (get_or s 0 0) 1) (bare_tail s) (eqb (get_or s 0 0) 2)
  where
    by : (a b c : Bool)
        → DecodedWithin
        (elim a [
          | true ↦ elim b [ true ↦ Ok (L.Axiom (pair_at s 1)) | false ↦ Err axiom_tail ]
          | false ↦ elim c [ true ↦ Ok (L.Resolve (resolution_at s)) | false ↦ Err bad_kind ]
        ])
    by true true c = tt
    by true false c = omega arith
    by false b true = tt
    by false b false = omega arith

-- a line, where decoding keeps to the list
line_within : (R : Rules) → ((s : List ℕ) → DecodedWithin (R.decode s)) → (F : Formula) (rows : List Row) (bytes : List ℕ) → MadeWithin (next_line R F rows bytes)
unfolding next_line line_made
line_within R decodes F rows bytes = by (R.decode bytes) (decodes bytes)
  where
    i : ℕ
    i = suc (length rows)

    by : (d : Decoded) → DecodedWithin d → MadeWithin (decoded_made R F rows (suc (length rows)) d)
    by (Ok l) w =
        made_within (first_of (line_faults R F rows i l)) (line_row R F rows i l) (first_within 21 31 (line_faults R F rows i l) (faults_within R F rows i l))
    by (Err n) w = w

abbrev PassedWithin : Passed → Type 0
PassedWithin (passed rows) = Unit {0}
PassedWithin (stopped n i v) = Within 21 31 n

lines_within : (R : Rules) → ((s : List ℕ) → DecodedWithin (R.decode s)) → (F : Formula) (rows : List Row) (rs : List (List ℕ)) → PassedWithin (lines_from R F rows rs)
unfolding lines_from
lines_within R decodes F rows [] = tt
lines_within R decodes F rows (r ∷ rs) = by (next_line R F rows r) (line_within R decodes F rows r) (λ rows'. lines_within R decodes F rows' rs)
  where
    by : (m : Made) → MadeWithin m → ((rows' : List Row) → PassedWithin (lines_from R F rows' rs))
        → PassedWithin (elim m [ made row ↦ lines_from R F (rows ++ (row ∷ [])) rs | refused n v ↦ stopped n (suc (length rows)) v ])
    by (made row) w ih = ih (rows ++ (row ∷ []))
    by (refused n v) w ih = w

pub lines_listed : (R : Rules) → ((s : List ℕ) → DecodedWithin (R.decode s)) → (F : Formula) (rs : List (List ℕ)) (n i v : ℕ) → all_lines R F rs ≡ stopped n i v → Within 21 31 n
unfolding all_lines
lines_listed R decodes F rs n i v e = subst PassedWithin e (lines_within R decodes F [] rs)

-- ---- checking
abbrev CheckedWithin : Checked → Type 0
CheckedWithin (rejected n at v) = Within 3 32 n
CheckedWithin (accepted F rows) = Unit {0}

last_within : (m : Manner) (F : Formula) (rows : List Row) → CheckedWithin (last_checked m F rows)
last_within m F rows = by (m.asks rows)
  where
    by : (b : Bool) → CheckedWithin (elim b [ true ↦ accepted F rows | false ↦ rejected not_empty (length rows) 0 ])
    by true = tt
    by false = omega arith

passed_within : (m : Manner) (F : Formula) (p : Passed) → PassedWithin p → CheckedWithin (when_passed m F p)
passed_within m F (passed rows) w = last_within m F rows
passed_within m F (stopped n i v) w = omega arith

proof_within : (F : Formula) (proof : List ℕ) → CheckedWithin (proof_checked base F proof)
unfolding all_lines
proof_within F proof = by (head_fault merge_proof F proof) refl
  where
    by : (f : Found) → head_fault merge_proof F proof ≡ f → CheckedWithin (elim f [ passes ↦ when_passed base F (lines_of base F proof) | fails n v ↦ rejected n 0 v ])
    by passes e = passed_within base F (lines_of base F proof) (lines_within (rules_of base F proof) decoded_within F [] (records merge_proof F proof))
    by (fails n v) e = omega (arith, head_listed merge_proof F proof refl n v e)

pub check_listed : (text proof : List ℕ) (n at v : ℕ) → checked text proof ≡ rejected n at v → Within 3 32 n
unfolding checked_by
check_listed text proof n at v e = subst CheckedWithin e (by (read text) refl)
  where
    by : (r : Reading) → read text ≡ r → CheckedWithin (elim r [ unread k p ↦ rejected k p 0 | formula F ↦ proof_checked base F proof ])
    by (unread k p) f = omega (arith, text_listed text k p f)
    by (formula F) f = proof_within F proof
