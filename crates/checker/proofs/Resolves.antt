-- A resolution's line from what the tables give: the tests on the tables are the rules' on the rows.
use mathlib.Core.Path.{◌≡◌, refl, sym, ap, ap₂, ◌∙◌}
use mathlib.Core.Bool.{Bool, true, false, not, ◌||◌}
use mathlib.Core.List.{List, [], ◌∷◌, ◌++◌}
use Prim.Native.Nat.{ℕ, zero, suc, ◌-◌, ◌*◌, ◌≤◌}
use native.Mathlib.Omega.{arith}
use lib.ListN.{length}
use borrow.Author.Tests.{not-false}
use Rattle.std.specs.Prelude.{Ok, Err}
use Rattle.rules.specs.declared.Resolution.{Resolution}
use Rattle.rules.specs.declared.refusals.Refusal.{Refusal}
use Rattle.rules.specs.declared.refusals.Fault.{Fault as LineFault}
use Rattle.rules.specs.declared.Line.TheVariants as L
use Rattle.rules.specs.definitions.Layout.{set_words, line_words}
use Rattle.rules.specs.definitions.Sets.{has}
use Rattle.rules.specs.definitions.Faults.{Fault, Found, first_of}
use Rattle.rules.specs.definitions.Faults.Found.{passes, fails}
use Rattle.rules.specs.definitions.Formula.{Formula, bound_by, universals, resolvent}
use Rattle.rules.specs.definitions.Formula.{Clause as Literals}
use Rattle.rules.specs.definitions.Formula.Quant.{exists}
use Rattle.theory.specs.laws.Formula.{has_existentials, proper_fits}
use Rattle.theory.specs.laws.Lines.{passes_cons, neither, earlier_iff, good_words}
use Rattle.rules.specs.definitions.Lines.{Entry, Row, no_row, earlier, row_at, clause_at, result, in_set, parent_faults, set_faults, result_faults, map_faults, map_entry, each, resolution_row, unless_found, line_faults, line_row, line_made, Rules}
use Rattle.rules.specs.definitions.Tables.{clause_row}
use Rattle.sets.specs.declared.Clause.{Clause}
use Rattle.sets.specs.Values.{set_of, clause_of, clause_in, clause_in_row, length_clause_row}
use Rattle.checker.specs.declared.game.Game.{Game}
use Rattle.checker.specs.declared.rows.MapRow.{MapRow}
use Rattle.checker.specs.Rows.{clause_part}
use Rattle.checker.specs.Tables.{Held}
use Rattle.checker.specs.Makes.{Makes, Standing, Ready}
use Rattle.checker.specs.Resolutions.{table_result, clause_tests, Joins}
use Rattle.checker.specs.MapRows.{Resolving, MakesMaps}
use Rattle.theory.specs.laws.Tables.{Wide, table_part}

-- ---- tests in a row: the first part decides, or passes and leaves it to the second
first_fails : (fs gs : List Fault) (n v : ℕ) → first_of fs ≡ fails n v → first_of (fs ++ gs) ≡ fails n v
unfolding first_of
first_fails [] gs n v e = let z : ◌≡◌ {A = ℕ} 0 1 = cc in absurd (omega arith)
first_fails (f ∷ fs) gs n v e = by f.when refl (first_fails fs gs n v)
  where
    by : (t : Bool) → f.when ≡ t → (first_of fs ≡ fails n v → first_of (fs ++ gs) ≡ fails n v) → first_of (f ∷ (fs ++ gs)) ≡ fails n v
    by true t ih = rw (first_of, t) (rw (first_of, t) at e)
    by false t ih = rw (first_of, t) (ih (rw (first_of, t) at e))

first_passes : (fs gs : List Fault) → first_of fs ≡ passes → first_of (fs ++ gs) ≡ first_of gs
unfolding first_of
first_passes [] gs e = refl
first_passes (f ∷ fs) gs e = let p = (passes_cons f fs).0 e in rw (first_of, p.0) (first_passes fs gs p.1)

-- the clause of line a, read from the line table
pub standing_read : (R : Rules) (F : Formula) (rows : List Row) (lent T : Held) → Standing R F rows lent T
    → (a : ℕ) → 1 ≤ a → a ≤ length rows → clause_part T.lines a ≡ clause_at rows a
unfolding row_at
standing_read R F rows lent T S zero o h = absurd (omega arith)
standing_read R F rows lent T S (suc a) o h =
    let m : suc a - 1 ≡ a = omega arith in
    let W : Wide (2 * set_words) (λ (r : Row). clause_row r.clause) no_row rows
    = λ k p. length_clause_row _ (good_words R F rows (suc k) (S.good (suc k) (omega arith) (omega arith))) in
    rw m (
    ap clause_in (table_part (2 * set_words) line_words (λ (r : Row). clause_row r.clause) no_row rows lent.lines T.lines W (ap (λ (t : Held). t.lines) S.words) a h)
    ∙ clause_in_row (clause_at rows (suc a)) (good_words R F rows (suc a) (S.good (suc a) o h))
    )

module _ (R : Rules) (F : Formula) (rows : List Row) (g : Game) (lent T : Held) (i : ℕ) (S : Ready R F rows g lent T i) where
  module _ (r : Resolution) where
    abbrev tests : List Fault
    tests = clause_tests (set_of g.existentials) g.universal_count T.lines i r

    existential_same : has (set_of g.existentials) r.pivot ≡ bound_by exists F.prefix r.pivot
    existential_same = ap (λ (s : List ℕ). has s r.pivot) S.whole.game.existential_set ∙ has_existentials F.prefix (proper_fits F S.whole.proper) r.pivot

    -- with both parents before line i the tests are the rules'
    module _ (a : earlier i r.a ≡ true) (b : earlier i r.b ≡ true) where
      read_a : clause_part T.lines r.a ≡ clause_at rows r.a
      read_a = let p = (earlier_iff i r.a).0 a in standing_read R F rows lent T S.standing r.a p.0 (omega (arith, p.1, S.line))

      read_b : clause_part T.lines r.b ≡ clause_at rows r.b
      read_b = let p = (earlier_iff i r.b).0 b in standing_read R F rows lent T S.standing r.b p.0 (omega (arith, p.1, S.line))

      result_same : table_result T.lines r ≡ result rows r
      result_same = ap₂ (λ (c d : Literals). resolvent c d r.pivot) read_a read_b

      tests_same : tests ≡ parent_faults F rows i r ++ (set_faults F r.merge ++ result_faults rows r)
      tests_same = rw (existential_same, read_a, read_b, S.whole.game.universal_count)

    -- what passes the tests: both parents come before line i, and the pivot is existential
    tests_passed : first_of tests ≡ passes → (earlier i r.a ≡ true) × (earlier i r.b ≡ true) × (has (set_of g.existentials) r.pivot ≡ true)
    tests_passed e =
        let p = (passes_cons _ _).0 e in
        let q = (passes_cons _ _).0 p.1 in
        let n = neither (not (earlier i r.a)) (not (earlier i r.b)) p.0 in
        (not-false _ n.0, not-false _ n.1, not-false _ q.0)

    abbrev faults : List Fault
    faults = line_faults R F rows i (L.Resolve r)

    abbrev maps : List Fault
    maps = map_faults R F rows r (in_set r.merge)

    -- the tests, then those of the maps, are the line's
    all_same : earlier i r.a ≡ true → earlier i r.b ≡ true → tests ++ maps ≡ faults
    unfolding line_faults
    all_same a b = ap (λ (l : List Fault). l ++ maps) (tests_same a b)

    -- a parent that does not come before line i is refused by both
    no_parent_tests : (not (earlier i r.a) || not (earlier i r.b)) ≡ true → first_of tests ≡ fails 24 0
    unfolding first_of
    no_parent_tests e = rw e

    no_parent_faults : (not (earlier i r.a) || not (earlier i r.b)) ≡ true → first_of faults ≡ fails 24 0
    unfolding first_of line_faults
    no_parent_faults e = rw e

    faults_fail : (n v : ℕ) → first_of tests ≡ fails n v → first_of faults ≡ fails n v
    faults_fail n v e = by (not (earlier i r.a) || not (earlier i r.b)) refl
      where
        by : (t : Bool) → (not (earlier i r.a) || not (earlier i r.b)) ≡ t → first_of faults ≡ fails n v
        by true t = no_parent_faults t ∙ sym (no_parent_tests t) ∙ e
        by false t =
            let p = neither (not (earlier i r.a)) (not (earlier i r.b)) t in
            ap first_of (sym (all_same (not-false _ p.0) (not-false _ p.1))) ∙ first_fails tests maps n v e

    faults_maps : first_of tests ≡ passes → first_of faults ≡ first_of maps
    faults_maps e = let p = tests_passed e in ap first_of (sym (all_same p.0 p.1)) ∙ first_passes tests maps e

    -- line i resolves
    pub resolving : first_of tests ≡ passes → Resolving R F rows T.nodes lent.nodes T.roots lent.roots r i
    resolving e =
        let p = tests_passed e in
        record {
          proper = S.whole.proper;
          third_ground = S.whole.game.third_ground;
          good = S.standing.good;
          in_nodes = ap (λ (t : Held). t.nodes) S.standing.words;
          in_roots = ap (λ (t : Held). t.roots) S.standing.words;
          line = S.line;
          few = S.within;
          a_earlier = (earlier_iff i r.a).0 p.0;
          b_earlier = (earlier_iff i r.b).0 p.1;
          pivot = sym existential_same ∙ p.2;
        }

    abbrev entries : List Entry
    entries = each (map_entry R rows i r (in_set r.merge)) (universals F.prefix) 0

    made_by : (t : Found) → first_of faults ≡ t → line_made R F rows i (L.Resolve r) ≡ unless_found t (resolution_row R F rows i r (in_set r.merge))
    unfolding line_made line_row
    made_by t e = ap (λ (f : Found). unless_found f (resolution_row R F rows i r (in_set r.merge))) e

    -- a clause that is refused
    pub stopped_line : (k : Refusal) → Joins (first_of tests) (table_result T.lines r) (Err k) → Makes (line_made R F rows i (L.Resolve r)) (Err (record { refusal = k; variable = 0 }))
    stopped_line k J = by (first_of tests) refl J
      where
        by : (t : Found) → first_of tests ≡ t → Joins t (table_result T.lines r) (Err k) → Makes (line_made R F rows i (L.Resolve r)) (Err (record { refusal = k; variable = 0 }))
        by passes t K = absurd K
        by (fails n w) t K = rw (made_by (fails n w) (faults_fail n w t)) (K.0, sym K.1)

    -- a clause that passes
    pub joined_line : (c : Clause) → Joins (first_of tests) (table_result T.lines r) (Ok c) → (first_of tests ≡ passes) × (clause_of c ≡ result rows r)
    joined_line c J = by (first_of tests) refl J
      where
        by : (t : Found) → first_of tests ≡ t → Joins t (table_result T.lines r) (Ok c) → (first_of tests ≡ passes) × (clause_of c ≡ result rows r)
        by passes t K = let p = tests_passed t in (t, K ∙ result_same p.0 p.1)
        by (fails n w) t K = absurd K

    module _ (p : first_of tests ≡ passes) where
      -- maps that are refused
      pub unmapped_line : (e : LineFault) → MakesMaps (first_of maps) entries (Err e) → Makes (line_made R F rows i (L.Resolve r)) (Err e)
      unmapped_line e M = by (first_of maps) refl M
        where
          by : (t : Found) → first_of maps ≡ t → MakesMaps t entries (Err e) → Makes (line_made R F rows i (L.Resolve r)) (Err e)
          by passes t K = absurd K
          by (fails n w) t K = rw (made_by (fails n w) (faults_maps p ∙ t)) K

      -- the line's row
      pub mapped_line : (c : Clause) (o : MapRow) → clause_of c ≡ result rows r → MakesMaps (first_of maps) entries (Ok o) → Makes (line_made R F rows i (L.Resolve r)) (Ok (record { clause = c; row = o }))
      unfolding resolution_row
      mapped_line c o e M = by (first_of maps) refl M
        where
          by : (t : Found) → first_of maps ≡ t → MakesMaps t entries (Ok o) → Makes (line_made R F rows i (L.Resolve r)) (Ok (record { clause = c; row = o }))
          by passes t K = rw (made_by passes (faults_maps p ∙ t)) (e, K)
          by (fails n w) t K = absurd K
