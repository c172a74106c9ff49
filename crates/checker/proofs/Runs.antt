-- One line after another: the row written, the rows that then stand, and the records that are left.
use mathlib.Core.Path.{◌≡◌, refl, sym, ap, ◌∙◌}
use mathlib.Core.List.{List, [], ◌∷◌, ◌++◌, map}
use Prim.Native.Nat.{ℕ, suc, ◌+◌, ◌-◌, ◌*◌, ◌≤◌, ◌<◌}
use native.Mathlib.Omega.{arith}
use native.Mathlib.Numerals.{add-one}
use lib.ListN.{length, get_or, take, drop, length-append, length-drop, length-map, drop_of_length-le}
use lib.Seq.{drop-cons, drop-drop, take-take, take_at, drop_at, length-take-le}
use Rattle.std.proofs.lemmas.List.{drop-take}
use Rattle.std.specs.Prelude.{Ok, Err}
use Rattle.rules.specs.declared.refusals.Fault.{Fault}
use Rattle.rules.specs.definitions.Refusals.{refusal_number}
use Rattle.rules.specs.definitions.Layout.{set_words, line_words, map_words, head_bytes, record_bytes}
use Rattle.rules.specs.definitions.Limits.{universals_most, lines_most}
use Rattle.rules.specs.definitions.Formula.{Formula}
use Rattle.rules.specs.statements.Proper.{Proper}
use Rattle.rules.specs.definitions.File.{split}
use Rattle.theory.specs.laws.File.{length_split, split_at}
use Rattle.rules.specs.statements.Good.{Good}
use Rattle.theory.specs.laws.Lines.{row_new, good_next, good_words, rows_grown}
use Rattle.rules.specs.definitions.Maps.{node_word}
use Rattle.rules.specs.definitions.Lines.{Entry, Row, no_row, row_at, next_line, Rules}
use Rattle.rules.specs.definitions.Lines.{Made as Outcome}
use Rattle.rules.specs.definitions.Lines.Made.{made, refused}
use Rattle.rules.specs.definitions.Checking.{lines_from, all_lines}
use Rattle.rules.specs.definitions.Checking.Passed.{stopped}
use Rattle.rules.specs.definitions.Tables.{padded, holding, rows_of, clause_row, line_table, node_table, root_table}
use Rattle.sets.specs.Values.{clause_of, length_clause_row}
use Rattle.checker.specs.declared.game.Game.{Game}
use Rattle.checker.specs.declared.axioms.Made.{Made}
use Rattle.checker.specs.Rows.{RowOf}
use Rattle.checker.specs.Tables.{Held, KeptPast, with_row, with_line}
use Rattle.checker.specs.Makes.{Makes, Whole, Standing, Ready}
use Rattle.checker.specs.Runs.{Blank, Ran, SoFar}
use Rattle.theory.specs.laws.Tables.{rows_snoc, holding_put, padded_length, Wide, rows_length, holding_drop}
use Rattle.checker.proofs.Parts.{held_by}

-- ---- a row of a table
-- row i lies in the table
line_row_room : (i : ℕ) → i < lines_most → 2 * set_words * i + 2 * set_words ≤ line_words
unfolding set_words line_words
line_row_room i h = omega arith

map_row_room : (i : ℕ) → i < lines_most → universals_most * i + universals_most ≤ map_words
unfolding map_words
map_row_room i h = omega arith

-- one row more in a table of rows
table_put : {A : Type 0} (w n : ℕ) (f : A → List ℕ) (d : A) (rows : List A) (lent t t' : List ℕ) → Wide w f d rows → t ≡ holding n (rows_of f rows) lent
    → (row : A) (i : ℕ) (r : List ℕ) → i ≡ length rows → length (f row) ≡ w → w * i + w ≤ n → r ≡ f row → t' ≡ with_row w i r t → t' ≡ holding n (rows_of f (rows ++ (row ∷ []))) lent
table_put w n f d rows lent t t' W e row i r c k h p q =
    let l : length (rows_of f rows) ≡ w * i = rows_length w f d rows W ∙ ap (λ (m : ℕ). w * m) (sym c) in
    q ∙ rw (p, e, rows_snoc f rows row) (holding_put n (rows_of f rows) lent (f row) (w * i) (w * i + w) l (omega arith) h)

-- ---- the rows that stand
-- each row of good rows has its words
module _ (R : Rules) (F : Formula) (proper : Proper F) (rows : List Row) (good : Good R F rows) where
  entries_few : (i : ℕ) → i < length rows → length (get_or rows i no_row).entries ≤ universals_most
  unfolding row_at
  entries_few i h = omega (arith, (good (suc i) (omega arith) h).entries, proper.universals)

  words_wide : (word : Entry → ℕ) (i : ℕ) → i < length rows → length (padded universals_most (map word (get_or rows i no_row).entries)) ≡ universals_most
  words_wide word i h =
      padded_length universals_most (map word (get_or rows i no_row).entries) [] (omega (arith, length-map (get_or rows i no_row).entries word, entries_few i h))

  clause_wide : (i : ℕ) → i < length rows → length (clause_row (get_or rows i no_row).clause) ≡ 2 * set_words
  unfolding row_at
  clause_wide i h = length_clause_row _ (good_words R F rows (suc i) (good (suc i) (omega arith) h))

-- one line more
module _ (R : Rules) (F : Formula) (proper : Proper F) (rows : List Row) (lent T : Held) (S : Standing R F rows lent T) (bytes : List ℕ) (row : Row) (makes_row : next_line R F rows bytes ≡ made row) (i : ℕ) (at : i ≡ length rows) (room : i < lines_most) where
  good' : Good R F (rows ++ (row ∷ []))
  good' = good_next R F rows bytes row proper S.good makes_row

  last_row : get_or (rows ++ (row ∷ [])) (length rows) no_row ≡ row
  unfolding row_at
  last_row = row_new rows row

  last_in : length rows < length (rows ++ (row ∷ []))
  last_in = omega (arith, rows_grown rows row)

  -- in the node table and in the root table
  map_put : (word : Entry → ℕ) (lent t t' r : List ℕ) → t ≡ holding map_words (rows_of (λ (r : Row). padded universals_most (map word r.entries)) rows) lent
      → r ≡ padded universals_most (map word row.entries) → t' ≡ with_row universals_most i r t
      → t' ≡ holding map_words (rows_of (λ (r : Row). padded universals_most (map word r.entries)) (rows ++ (row ∷ []))) lent
  map_put word lent t t' r e p q =
      table_put universals_most map_words (λ (r : Row). padded universals_most (map word r.entries)) no_row rows lent t t' (words_wide R F proper rows S.good word) e row i r at
      (rw last_row at (words_wide R F proper (rows ++ (row ∷ [])) good' word (length rows) last_in)) (map_row_room i room) p q

  pub standing_more : (m : Made) (T' : Held) → clause_of m.clause ≡ row.clause → RowOf row.entries m.row → T' ≡ with_line i m T → Standing R F (rows ++ (row ∷ [])) lent T'
  standing_more m T' c W e = record {
    good = good';
    few = omega (arith, rows_grown rows row);
    words = held_by T' _ _ _
        (table_put (2 * set_words) line_words (λ (r : Row). clause_row r.clause) no_row rows lent.lines T.lines T'.lines (clause_wide R F proper rows S.good) (ap (λ (t : Held). t.lines) S.words) row i (clause_row (clause_of m.clause)) at
        (rw last_row at (clause_wide R F proper (rows ++ (row ∷ [])) good' (length rows) last_in)) (line_row_room i room) (ap clause_row c) (ap (λ (t : Held). t.lines) e))
        (map_put (λ (e : Entry). node_word e.node) lent.nodes T.nodes T'.nodes m.row.nodes (ap (λ (t : Held). t.nodes) S.words) W.nodes (ap (λ (t : Held). t.nodes) e))
        (map_put (λ (e : Entry). e.root) lent.roots T.roots T'.roots m.row.roots (ap (λ (t : Held). t.roots) S.words) W.roots (ap (λ (t : Held). t.roots) e));
  }

-- ---- the records left
-- record i first, then those behind it
pub records_from : (n : ℕ) (s : List ℕ) (i : ℕ) → i < n → drop i (split n s) ≡ take record_bytes (drop (record_bytes * i) s) ∷ drop (suc i) (split n s)
records_from n s i h =
    drop-cons (split n s) i [] (omega (arith, length_split n s)) ∙ ap (λ (r : List ℕ). r ∷ drop (suc i) (split n s)) (split_at n s i h)

-- the records that are left of n, and the one that a turn takes from their front: record i
pub record_taken : (proof left bytes more : List ℕ) (n k i : ℕ) → head_bytes + record_bytes * n ≤ length proof → k ≤ n
    → left ≡ drop (8 * k) (take (8 * n) (drop 7 proof)) → left ≡ bytes ++ more → length bytes ≡ 8 → i ≡ k
    → (i < n) × (bytes ≡ take record_bytes (drop (record_bytes * i) (drop head_bytes proof))) × (more ≡ drop (8 * (k + 1)) (take (8 * n) (drop 7 proof)))
record_taken proof left bytes more n k i room few e p w same =
    let body : List ℕ = drop 7 proof in
    let long : length (take (8 * n) body) ≡ 8 * n = length-take-le (8 * n) body (omega (arith, length-drop 7 proof, room)) in
    let h : k < n = omega (arith, ap length e, ap length p, length-append bytes more, length-drop (8 * k) (take (8 * n) body), long, w) in
    let m : ℕ = 8 * n - 8 * k in
    let cut : 8 * n ≡ 8 * k + m = omega (arith, h) in
    let first : bytes ≡ take 8 (drop (8 * k) body) =
    sym (take_at bytes more 8 w) ∙ ap (take 8) (sym p ∙ e ∙ ap (λ (j : ℕ). drop (8 * k) (take j body)) cut ∙ drop-take (8 * k) m body) ∙ take-take 8 m (drop (8 * k) body) (omega (arith, h)) in
    let next : 8 * k + 8 ≡ 8 * (k + 1) = omega arith in
    (rw same h, rw same first, sym (drop_at bytes more 8 w) ∙ ap (drop 8) (sym p ∙ e) ∙ drop-drop 8 (8 * k) (take (8 * n) body) ∙ ap (λ (j : ℕ). drop j (take (8 * n) body)) next)

-- ---- what a line made
pub made_of : (X : Outcome) (m : Made) → Makes X (Ok m) → (row : Row) × (X ≡ made row) × (clause_of m.clause ≡ row.clause) × RowOf row.entries m.row
made_of (made row) m M = (row, refl, M.0, M.1)
made_of (refused n v) m M = absurd M

pub refused_of : (X : Outcome) (e : Fault) → Makes X (Err e) → X ≡ refused (refusal_number e.refusal) e.variable
refused_of (made row) e M = absurd M
refused_of (refused k v) e M = rw (M.0, M.1)

-- the run goes on, stops, or is at its end
run_on : (R : Rules) (F : Formula) (rows : List Row) (r : List ℕ) (rs : List (List ℕ)) (row : Row) → next_line R F rows r ≡ made row
    → lines_from R F rows (r ∷ rs) ≡ lines_from R F (rows ++ (row ∷ [])) rs
unfolding lines_from
run_on R F rows r rs row e = rw (lines_from, e)

run_stop : (R : Rules) (F : Formula) (rows : List Row) (r : List ℕ) (rs : List (List ℕ)) (n v : ℕ) → next_line R F rows r ≡ refused n v
    → lines_from R F rows (r ∷ rs) ≡ stopped n (suc (length rows)) v
unfolding lines_from
run_stop R F rows r rs n v e = rw (lines_from, e)

-- no more words than the table has
few_lines : (R : Rules) (F : Formula) (rows : List Row) → Proper F → Good R F rows → length rows ≤ lines_most → length (line_table F rows) ≤ line_words
unfolding set_words line_words
few_lines R F rows proper good h = omega (arith, rows_length (2 * set_words) (λ (r : Row). clause_row r.clause) no_row rows (clause_wide R F proper rows good))

few_words : (R : Rules) (F : Formula) (rows : List Row) → Proper F → Good R F rows → length rows ≤ lines_most → (word : Entry → ℕ)
    → length (rows_of (λ (r : Row). padded universals_most (map word r.entries)) rows) ≤ map_words
unfolding map_words
few_words R F rows proper good h word =
    omega (arith, rows_length universals_most (λ (r : Row). padded universals_most (map word r.entries)) no_row rows (words_wide R F proper rows good word))

-- nothing past the words of a table is written
pub kept_past : (R : Rules) (F : Formula) → Proper F → (rows : List Row) (lent T : Held) → Standing R F rows lent T → KeptPast lent T
kept_past R F proper rows lent T S = record {
  lines_past = ap (λ (t : Held). drop line_words t.lines) S.words ∙ holding_drop line_words (line_table F rows) lent.lines (few_lines R F rows proper S.good S.few);
  nodes_past = ap (λ (t : Held). drop map_words t.nodes) S.words ∙ holding_drop map_words (node_table F rows) lent.nodes (few_words R F rows proper S.good S.few (λ (e : Entry). node_word e.node));
  roots_past = ap (λ (t : Held). drop map_words t.roots) S.words ∙ holding_drop map_words (root_table F rows) lent.roots (few_words R F rows proper S.good S.few (λ (e : Entry). e.root));
}

module _ (R : Rules) (F : Formula) (g : Game) (proof : List ℕ) (n : ℕ) (W : Whole R F g) (few : n ≤ lines_most) (lent : Held) where
  abbrev recs : List (List ℕ)
  recs = split n (drop head_bytes proof)

  -- no line yet
  pub so_far_none : Blank lent → SoFar R F recs lent lent 0
  unfolding all_lines rows_of
  so_far_none B = record {
    rows = [];
    count = refl;
    standing = record { good = λ i p q. absurd (omega arith); few = omega arith; words = B };
    rest = refl;
  }

  module _ (T : Held) (i : ℕ) (S : SoFar R F recs lent T i) where
    -- the next line can be made
    pub ready : i < n → Ready R F S.rows g lent T (i + 1)
    ready h = record { whole = W; standing = S.standing; line = add-one i ∙ ap suc S.count; within = omega arith }

    module _ (h : i < n) (bytes : List ℕ) (part : bytes ≡ take record_bytes (drop (record_bytes * i) (drop head_bytes proof))) where
      left_from : drop i recs ≡ bytes ∷ drop (suc i) recs
      left_from = records_from n (drop head_bytes proof) i h ∙ ap (λ (r : List ℕ). r ∷ drop (suc i) recs) (sym part)

      -- a line that is refused
      pub so_far_stop : (e : Fault) → Makes (next_line R F S.rows bytes) (Err e)
          → Ran R F (all_lines R F recs) lent T (Err (record { refusal = e.refusal; place = i + 1; variable = e.variable }))
      so_far_stop e M =
          rw (S.rest ∙ ap (lines_from R F S.rows) left_from ∙ run_stop R F S.rows bytes (drop (suc i) recs) (refusal_number e.refusal) e.variable (refused_of (next_line R F S.rows bytes) e M))
          (refl, omega (arith, S.count), refl, kept_past R F W.proper S.rows lent T S.standing)

      -- a line that is made
      pub so_far_more : (m : Made) → Makes (next_line R F S.rows bytes) (Ok m) → (T' : Held) → T' ≡ with_line i m T → SoFar R F recs lent T' (i + 1)
      so_far_more m M T' e =
          let X = made_of (next_line R F S.rows bytes) m M in
          record {
            rows = S.rows ++ (X.0 ∷ []);
            count = omega (arith, S.count, rows_grown S.rows X.0);
            standing = standing_more R F W.proper S.rows lent T S.standing bytes X.0 X.1 i S.count (omega arith) m T' X.2 X.3 e;
            rest = S.rest ∙ ap (lines_from R F S.rows) left_from ∙ run_on R F S.rows bytes (drop (suc i) recs) X.0 X.1 ∙ ap (λ (k : ℕ). lines_from R F (S.rows ++ (X.0 ∷ [])) (drop k recs)) (sym (add-one i));
          }

    -- all lines made
    pub so_far_all : n ≤ i → Ran R F (all_lines R F recs) lent T (Ok tt)
    unfolding lines_from
    so_far_all h =
        let e : drop i recs ≡ [] = drop_of_length-le recs {i = i} (omega (arith, length_split n (drop head_bytes proof))) in
        rw (S.rest ∙ ap (lines_from R F S.rows) e) S.standing
