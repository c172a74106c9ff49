-- The stages of checking a proof over a formula that the tables hold: the head, the lines, the last clause.
use mathlib.Core.Path.{◌≡◌, refl, sym, ap, ap₂, subst, ◌∙◌}
use mathlib.Core.Bool.{Bool, true, false}
use mathlib.Core.List.{List, [], ◌∷◌}
use Prim.Native.Nat.{ℕ, ◌+◌, ◌*◌, ◌≤◌}
use native.Mathlib.Omega.{arith}
use lib.Dec.{ltb}
use lib.ListN.{length, drop}
use borrow.Author.Tests.{not-false, eqb-true, ltb-false}
use Rattle.rules.specs.definitions.Limits.{lines_most}
use Rattle.rules.specs.definitions.Layout.{head_bytes}
use Rattle.std.specs.Prelude.{Result, Ok, Err}
use Rattle.rules.specs.declared.refusals.Refusal.{Refusal}
use Rattle.rules.specs.declared.refusals.Refusal.TheVariants as K
use Rattle.rules.specs.declared.refusals.Refused.{Refused}
use Rattle.rules.specs.definitions.Refusals.{refusal_number, not_empty, bad_mark, bad_length, bad_line_count}
use Rattle.rules.specs.definitions.Faults.{fault, Found, first_of}
use Rattle.rules.specs.definitions.Faults.Found.{passes, fails}
use Rattle.rules.specs.definitions.Formula.{Formula, empty_clause}
use Rattle.rules.specs.statements.Proper.{Proper}
use Rattle.rules.specs.definitions.File.{merge_proof, announced, head_fault, split, records}
use Rattle.theory.specs.laws.File.{length_split}
use Rattle.rules.specs.definitions.Lines.{Row, clause_at, Rules}
use Rattle.theory.specs.laws.Lines.{neither, all_derived}
use Rattle.rules.specs.definitions.Checking.{Passed, all_lines, last_empty, base, rules_of, last_checked, when_passed, proof_checked}
use Rattle.rules.specs.definitions.Checking.Passed.{passed, stopped}
use Rattle.rules.specs.definitions.Checking.Checked.{rejected, accepted}
use Rattle.sets.specs.declared.Clause.{Clause}
use Rattle.sets.specs.Values.{clause_of}
use Rattle.proof.specs.Head.{headed, head_of}
use Rattle.checker.specs.declared.game.Game.{Game}
use Rattle.checker.specs.Game.{Prefixed, GameOf}
use Rattle.checker.specs.Rows.{clause_part}
use Rattle.checker.specs.Tables.{Held}
use Rattle.checker.specs.Makes.{Whole, Standing}
use Rattle.checker.specs.Runs.{Ran}
use Rattle.checker.specs.Checks.{InTables, FilledTables, Headed, lines_checked, Checks}
use Rattle.checker.proofs.Resolves.{standing_read}
use Rattle.checker.proofs.Runs.{kept_past}

-- ---- the formula in its tables
pub prefixed : (F : Formula) (prefix : List ℕ) (n : ℕ) (clauses : List ℕ) → InTables F prefix n clauses → Prefixed F prefix
prefixed F prefix n clauses I = record { proper = I.proper; words = I.in_prefix }

pub whole_formula : (prefix : List ℕ) (n : ℕ) (clauses : List ℕ) → FilledTables prefix n clauses
    → (g : Game) → ((F : Formula) (s : List ℕ) → Prefixed F prefix → n ≡ length F.matrix → GameOf (rules_of base F s) F g)
    → g.clauses.now ≡ clauses → (s : List ℕ) (F : Formula) → InTables F prefix n clauses → Whole (rules_of base F s) F g
whole_formula prefix n clauses X g G e s F I = record { proper = I.proper; game = G F s (prefixed F prefix n clauses I) I.count_is; long = rw e X.long_clauses; words = rw e I.in_clauses }

-- ---- the last clause
last_refutes : (F : Formula) (rows : List Row) → last_empty rows ≡ true → last_checked base F rows ≡ accepted F rows
last_refutes F rows e = rw (last_checked, e)

last_remains : (F : Formula) (rows : List Row) → last_empty rows ≡ false → last_checked base F rows ≡ rejected not_empty (length rows) 0
last_remains F rows e = rw (last_checked, e)

-- ---- the lines
module _ (F : Formula) (n : ℕ) (proof : List ℕ) (lent T : Held) where
  abbrev R : Rules
  R = rules_of base F proof

  abbrev recs : List (List ℕ)
  recs = split n (drop head_bytes proof)

  abbrev RanSo : Result Unit Refused → Type 0
  RanSo v = Ran R F (all_lines R F recs) lent T v

  abbrev ChecksSo : Result ℕ Refused → Type 0
  ChecksSo r = Checks (lines_checked F n proof) lent T r

  -- a line is refused
  pub lines_stopped : (e : Refused) → RanSo (Err e) → ChecksSo (Err e)
  lines_stopped e ran = by (all_lines R F recs) refl ran
    where
      by : (p : Passed) → all_lines R F recs ≡ p → Ran R F p lent T (Err e) → ChecksSo (Err e)
      by (passed rows) t S = absurd S
      by (stopped k i w) t S = rw t S

  -- all lines pass
  pub record PassedAll : Type 0 where
    pub rows : List Row
    pub made_rows : all_lines R F recs ≡ passed rows
    pub count_rows : length rows ≡ n
    pub standing : Standing R F rows lent T

  pub lines_passed : RanSo (Ok tt) → PassedAll
  lines_passed ran = by (all_lines R F recs) refl ran
    where
      by : (p : Passed) → all_lines R F recs ≡ p → Ran R F p lent T (Ok tt) → PassedAll
      by (passed rows) e S = record { rows = rows; made_rows = e; count_rows = (all_derived R F recs rows e).1 ∙ length_split n (drop head_bytes proof); standing = S }
      by (stopped k i w) e S = absurd S

  module _ (A : PassedAll) (from : 1 ≤ n) where
    -- the last clause, read from the line table
    last_read : (last : Clause) → clause_of last ≡ clause_part T.lines n → empty_clause (clause_of last) ≡ last_empty A.rows
    last_read last e =
        ap empty_clause (e ∙ standing_read R F A.rows lent T A.standing n from (omega (arith, A.count_rows)) ∙ ap (clause_at A.rows) (sym A.count_rows))

    checked_is : lines_checked F n proof ≡ last_checked base F A.rows
    checked_is = ap (when_passed base F) A.made_rows

    -- it is empty
    pub last_accepted : (last : Clause) → clause_of last ≡ clause_part T.lines n → empty_clause (clause_of last) ≡ true → ChecksSo (Ok n)
    last_accepted last e t =
        rw (checked_is ∙ last_refutes F A.rows (sym (last_read last e) ∙ t)) (sym A.count_rows, A.standing.words)

    -- it is not
    pub last_rejected : Proper F → (last : Clause) → clause_of last ≡ clause_part T.lines n → empty_clause (clause_of last) ≡ false → ChecksSo (Err (record { refusal = K.NotEmpty; place = n; variable = 0 }))
    last_rejected proper last e t =
        rw (checked_is ∙ last_remains F A.rows (sym (last_read last e) ∙ t)) (refl, sym A.count_rows, refl, kept_past R F proper A.rows lent T A.standing)

-- ---- the head
-- the head's refusals have no variable
found_plain : (s t u : Bool) (n v : ℕ) → first_of (fault bad_mark s ∷ fault bad_length t ∷ fault bad_line_count u ∷ []) ≡ fails n v → v ≡ 0
unfolding first_of
found_plain true t u n v e = cc
found_plain false true u n v e = cc
found_plain false false true n v e = cc
found_plain false false false n v e = absurd cc

head_plain : (F : Formula) (m v : ℕ) (s : List ℕ) → head_fault merge_proof F s ≡ fails m v → v ≡ 0
unfolding head_fault
head_plain F m v s p = found_plain _ _ _ m v p

-- a head that passes: so many records, from 1 to 1,024
found_passes : (s t u : Bool) → first_of (fault bad_mark s ∷ fault bad_length t ∷ fault bad_line_count u ∷ []) ≡ passes → (t ≡ false) × (u ≡ false)
unfolding first_of
found_passes true t u e = absurd cc
found_passes false true u e = absurd cc
found_passes false false true e = absurd cc
found_passes false false false e = (refl, refl)

head_passes : (F : Formula) (s : List ℕ) → head_fault merge_proof F s ≡ passes → Headed s (announced s)
unfolding head_fault
head_passes F s p =
    let f = found_passes _ _ _ p in
    let l : length s ≡ 7 + 0 + 8 * announced s = eqb-true _ _ (not-false _ f.0) in
    let b = neither (ltb (announced s) 1) (ltb lines_most (announced s)) f.1 in
    record { from = ltb-false _ _ b.0; most = ltb-false _ _ b.1; whole = omega arith }

module _ (F : Formula) (proof : List ℕ) where
  pub head_rejected : (k : Refusal) → Err (refusal_number k) ≡ head_of F proof → proof_checked base F proof ≡ rejected (refusal_number k) 0 0
  unfolding head_of
  head_rejected k e = by (head_fault merge_proof F proof) refl
    where
      by : (t : Found) → head_fault merge_proof F proof ≡ t → proof_checked base F proof ≡ rejected (refusal_number k) 0 0
      by passes p = let q : ◌≡◌ {A = Result ℕ ℕ} (Err (refusal_number k)) (Ok (announced proof)) = e ∙ ap (λ (f : Found). headed f (announced proof)) p in absurd cc
      by (fails m v) p =
          let q : ◌≡◌ {A = Result ℕ ℕ} (Err (refusal_number k)) (Err m) = e ∙ ap (λ (f : Found). headed f (announced proof)) p in
          let w : m ≡ refusal_number k = cc in
          rw (proof_checked, p) (ap₂ (λ (i j : ℕ). rejected i 0 j) w (head_plain F m v proof p))

  pub head_passed : (n : ℕ) → Ok n ≡ head_of F proof → (proof_checked base F proof ≡ lines_checked F n proof) × Headed proof n
  unfolding head_of records
  head_passed n e = by (head_fault merge_proof F proof) refl
    where
      by : (t : Found) → head_fault merge_proof F proof ≡ t → (proof_checked base F proof ≡ lines_checked F n proof) × Headed proof n
      by passes p =
          let q : ◌≡◌ {A = Result ℕ ℕ} (Ok n) (Ok (announced proof)) = e ∙ ap (λ (f : Found). headed f (announced proof)) p in
          let w : announced proof ≡ n = cc in
          (rw (proof_checked, p) (ap (λ (i : ℕ). lines_checked F i proof) w), subst (Headed proof) w (head_passes F proof p))
      by (fails m v) p = let q : ◌≡◌ {A = Result ℕ ℕ} (Ok n) (Err m) = e ∙ ap (λ (f : Found). headed f (announced proof)) p in absurd cc
