-- What the tables of an accepted proof hold: the maps that they name are the last line's.
use mathlib.Core.Path.{◌≡◌, refl, sym, ◌∙◌, ap, subst}
use mathlib.Core.List.{List, [], ◌∷◌, ◌++◌, map}
use Prim.Native.Nat.{ℕ, zero, suc, ◌+◌, ◌-◌, ◌*◌, ◌≤◌, ◌<◌}
use native.Mathlib.Numerals.{add-one}
use native.Mathlib.Omega.{arith}
use lib.ListN.{length, get_or, take, drop, replicate, length-map, length-append, length-replicate}
use lib.Seq.{take_at}
use Rattle.rules.specs.definitions.Limits.{variables_most, universals_most, lines_most}
use Rattle.rules.specs.definitions.Layout.{universal_mark, prefix_words, map_words}
use Rattle.rules.specs.definitions.Formula.{Quant, Bound, Formula, universals}
use Rattle.rules.specs.definitions.Formula.Quant.{exists, forall}
use Rattle.rules.specs.statements.Proper.{Proper, var_at}
use Rattle.theory.specs.laws.Formula.{proper_length}
use Rattle.rules.specs.definitions.Lines.{Row, no_row, column, root_at, each}
use Rattle.rules.specs.definitions.Tables.{bound_word, node_row, root_row, rows_of, padded, holding}
use Rattle.theory.specs.laws.Tables.{rows_length, holding_length}
use Rattle.theory.specs.laws.Playing.{nodes_wide, roots_wide, table_column_rows, table_root_rows}
use Rattle.rules.specs.definitions.Services.{table_column}
use Rattle.rules.specs.statements.Good.{Good}
use Rattle.rules.specs.definitions.Checking.{checked}
use Rattle.rules.specs.definitions.Checking.Checked.{accepted}
use Rattle.rules.specs.definitions.Checking.{base, rules_of}
use Rattle.theory.specs.theorems.Countermodel.{accepted_good, accepted_lines}
use Rattle.rules.specs.definitions.Report.{joined, map_lines, maps_text}
use Rattle.theory.specs.laws.Report.{map_lines_same}
use Rattle.report.specs.Tabled.{last_root, word_maps, InTable, Ready, Printable}
use Rattle.report.proofs.Maps.{maps_universal, maps_other, ready_universal, ready_other}

-- ---- a prefix in words
-- each variable is from 1 to 64
abbrev Small : List Bound → Type 0
Small Q = (i : ℕ) → i < length Q → (1 ≤ var_at Q i) × (var_at Q i ≤ variables_most)

small_tail : (q : Bound) (Q : List Bound) → Small (q ∷ Q) → Small Q
small_tail q Q h i l = h (suc i) (omega arith)

word_exists : (q : Bound) → q.kind ≡ exists → bound_word q ≡ q.var
word_exists q e = rw e

word_forall : (q : Bound) → q.kind ≡ forall → bound_word q ≡ q.var + universal_mark
word_forall q e = rw e

module _ (nodes roots : List ℕ) (n : ℕ) where
  -- the map of a universal, from its offset and its variable
  abbrev table_map : ℕ → ℕ → List ℕ
  table_map j u = map_lines (table_column nodes (j + 1)) (last_root roots n j) u

  zeros_maps : (m j : ℕ) → word_maps nodes roots n (replicate m 0) j ≡ []
  unfolding word_maps
  zeros_maps zero j = refl
  zeros_maps (suc m) j = maps_other nodes roots n 0 (replicate m 0) j (omega arith) ∙ zeros_maps m j

  -- the words of a prefix name its universals' maps
  prefix_maps : (Q : List Bound) (m j : ℕ) → Small Q → word_maps nodes roots n (map bound_word Q ++ replicate m 0) j ≡ joined (λ (l : List ℕ). l) (each table_map (universals Q) j)
  unfolding joined each universals
  prefix_maps [] m j h = zeros_maps m j
  prefix_maps (q ∷ Q) m j h = by q.kind refl (λ i. prefix_maps Q m i (small_tail q Q h))
    where
      ws : List ℕ
      ws = map bound_word Q ++ replicate m 0

      v : (1 ≤ q.var) × (q.var ≤ variables_most)
      v = h 0 (omega arith)

      by : (k : Quant) → q.kind ≡ k → ((i : ℕ) → word_maps nodes roots n (map bound_word Q ++ replicate m 0) i ≡ joined (λ (l : List ℕ). l) (each table_map (universals Q) i))
          → word_maps nodes roots n (bound_word q ∷ (map bound_word Q ++ replicate m 0)) j ≡ joined (λ (l : List ℕ). l) (each table_map (elim k [ exists ↦ universals Q | forall ↦ q.var ∷ universals Q ]) j)
      by exists e ih = maps_other nodes roots n (bound_word q) ws j (omega (arith, word_exists q e, v)) ∙ ih j
      by forall e ih =
          maps_universal nodes roots n (bound_word q) ws j (omega (arith, word_forall q e, v))
          ∙ ap (λ (u : ℕ). map_lines (table_column nodes (j + 1)) (last_root roots n j) u ++ word_maps nodes roots n ws (suc j)) (omega (arith, word_forall q e))
          ∙ ap (λ (l : List ℕ). table_map j q.var ++ l) (ih (suc j))

  zeros_ready : (m j : ℕ) → Ready roots n (replicate m 0) j
  unfolding Ready
  zeros_ready zero j = tt
  zeros_ready (suc m) j = subst (λ (X : Type 0). X) (sym (ready_other roots n 0 (replicate m 0) j (omega arith))) (zeros_ready m j)

  -- and each of them is in the tables
  prefix_ready : (Q : List Bound) (m j : ℕ) → Small Q → ((i : ℕ) → j ≤ i → i < j + length (universals Q) → InTable roots n i) → Ready roots n (map bound_word Q ++ replicate m 0) j
  unfolding universals
  prefix_ready [] m j h t = zeros_ready m j
  prefix_ready (q ∷ Q) m j h t = by q.kind refl t (λ i t'. prefix_ready Q m i (small_tail q Q h) t')
    where
      ws : List ℕ
      ws = map bound_word Q ++ replicate m 0

      v : (1 ≤ q.var) × (q.var ≤ variables_most)
      v = h 0 (omega arith)

      by : (k : Quant) → q.kind ≡ k → ((i : ℕ) → j ≤ i → i < j + length {A = ℕ} (elim k as (λ _. List ℕ) [ exists ↦ universals Q | forall ↦ q.var ∷ universals Q ]) → InTable roots n i)
          → ((i : ℕ) → ((i' : ℕ) → i ≤ i' → i' < i + length (universals Q) → InTable roots n i') → Ready roots n (map bound_word Q ++ replicate m 0) i)
          → Ready roots n (bound_word q ∷ (map bound_word Q ++ replicate m 0)) j
      by exists e s ih = subst (λ (X : Type 0). X) (sym (ready_other roots n (bound_word q) ws j (omega (arith, word_exists q e, v)))) (ih j s)
      by forall e s ih =
          subst (λ (X : Type 0). X) (sym (ready_universal roots n (bound_word q) ws j (omega (arith, word_forall q e, v))))
          (s j (omega arith) (omega arith), ih (suc j) (λ i l u. s i (omega arith) (omega arith)))

-- maps that agree for each universal
each_same : (f g : ℕ → ℕ → List ℕ) (us : List ℕ) (j : ℕ) → ((i u : ℕ) → j ≤ i → i < j + length us → f i u ≡ g i u) → each f us j ≡ each g us j
unfolding each
each_same f g [] j h = refl
each_same f g (u ∷ us) j h =
    ap (λ (l : List ℕ). l ∷ each f us (suc j)) (h j u (omega arith) (omega arith))
    ∙ ap (λ (l : List (List ℕ)). g j u ∷ l) (each_same f g us (suc j) (λ i v l m. h i v (omega arith) (omega arith)))

-- the first words of a table are what it holds, and zeros
first_words : (n : ℕ) (ws lent : List ℕ) → length ws ≤ n → take n (holding n ws lent) ≡ ws ++ replicate (n - length ws) 0
unfolding holding padded
first_words n ws lent h =
    take_at (ws ++ replicate (n - length ws) 0) (drop n lent) n (length-append ws (replicate (n - length ws) 0) ∙ omega (arith, length-replicate {A = ℕ} (n - length ws) 0))

-- ---- an accepted proof
module _ (text proof : List ℕ) (F : Formula) (rows : List Row) (accepts : checked text proof ≡ accepted F rows)
    (lent_prefix lent_nodes lent_roots prefix nodes roots : List ℕ)
    (prefix_is : prefix ≡ holding prefix_words (map bound_word F.prefix) lent_prefix)
    (nodes_are : nodes ≡ holding map_words (rows_of node_row rows) lent_nodes)
    (roots_are : roots ≡ holding map_words (rows_of root_row rows) lent_roots)
    (prefix_long : 64 ≤ length lent_prefix) (nodes_long : 16384 ≤ length lent_nodes) (roots_long : 16384 ≤ length lent_roots) where
  proper : Proper F
  proper = (accepted_good base text proof F rows accepts).0

  good : Good (rules_of base F proof) F rows
  good = (accepted_good base text proof F rows accepts).1

  count : (1 ≤ length rows) × (length rows ≤ lines_most)
  count = accepted_lines base text proof F rows accepts

  words : length (map bound_word F.prefix) ≤ 64
  words = omega (arith, length-map F.prefix bound_word, proper_length F proper, proper.variables)

  small : Small F.prefix
  small i l = ((proper.in_range i l).0, omega (arith, (proper.in_range i l).1, proper.variables))

  root_is : (j : ℕ) → j < length (universals F.prefix) → last_root roots (length rows) j ≡ root_at rows j (length rows)
  root_is j l =
      let z : (length rows - 1) * universals_most + j ≡ universals_most * (length rows - 1) + j = omega arith in
      let s : suc (length rows - 1) ≡ length rows = omega (arith, count) in
      ap (λ (k : ℕ). get_or roots k 0) z
      ∙ table_root_rows (rules_of base F proof) F proper rows good count.1 j l lent_roots roots roots_are (length rows - 1) (omega (arith, count))
      ∙ ap (root_at rows j) s

  root_range : (j : ℕ) → j < length (universals F.prefix) → (1 ≤ root_at rows j (length rows)) × (root_at rows j (length rows) ≤ length rows)
  root_range j l = ((good (length rows) count.0 (omega arith)).entry j l).root

  in_table : (j : ℕ) → j < length (universals F.prefix) → InTable roots (length rows) j
  in_table j l =
      (omega (arith, proper.universals), (omega (arith, root_is j l, root_range j l), omega (arith, root_is j l, root_range j l, count)))

  map_same : (j u : ℕ) → j < length (universals F.prefix)
      → map_lines (table_column nodes (j + 1)) (last_root roots (length rows) j) u ≡ map_lines (column rows j) (root_at rows j (length rows)) u
  map_same j u l =
      ap (λ (r : ℕ). map_lines (table_column nodes (j + 1)) r u) (root_is j l)
      ∙ ap (λ (c : ℕ). map_lines (table_column nodes c) (root_at rows j (length rows)) u) (add-one j)
      ∙ map_lines_same (table_column nodes (suc j)) (column rows j) (root_at rows j (length rows)) u
      (λ k h. table_column_rows (rules_of base F proof) F proper rows good count.1 j l lent_nodes nodes nodes_are k (omega (arith, root_range j l, count)))

  taken : take 64 prefix ≡ map bound_word F.prefix ++ replicate (64 - length (map bound_word F.prefix)) 0
  unfolding prefix_words
  taken = ap (take 64) prefix_is ∙ first_words 64 (map bound_word F.prefix) lent_prefix words

  pub accepted_maps : word_maps nodes roots (length rows) (take 64 prefix) 0 ≡ maps_text F rows
  accepted_maps =
      ap (λ (ws : List ℕ). word_maps nodes roots (length rows) ws 0) taken
      ∙ prefix_maps nodes roots (length rows) F.prefix (64 - length (map bound_word F.prefix)) 0 small
      ∙ ap (joined (λ (l : List ℕ). l))
      (each_same (λ j u. map_lines (table_column nodes (j + 1)) (last_root roots (length rows) j) u) (λ j u. map_lines (column rows j) (root_at rows j (length rows)) u) (universals F.prefix) 0
      (λ i u h l. map_same i u (omega arith)))

  pub accepted_printable : Printable prefix nodes roots (length rows)
  unfolding prefix_words map_words
  accepted_printable = record {
    some = count.0;
    most = count.1;
    prefix_long = omega (arith, ap length prefix_is, holding_length 64 (map bound_word F.prefix) lent_prefix words prefix_long);
    nodes_long =
        omega (
          arith,
          ap length nodes_are,
          holding_length 16384 (rows_of node_row rows) lent_nodes
              (omega (arith, rows_length universals_most node_row no_row rows (nodes_wide (rules_of base F proof) F proper rows good), count)) nodes_long,
        );
    roots_long =
        omega (
          arith,
          ap length roots_are,
          holding_length 16384 (rows_of root_row rows) lent_roots
              (omega (arith, rows_length universals_most root_row no_row rows (roots_wide (rules_of base F proof) F proper rows good), count)) roots_long,
        );
    ready =
        subst (λ (ws : List ℕ). Ready roots (length rows) ws 0) (sym taken)
        (prefix_ready nodes roots (length rows) F.prefix (64 - length (map bound_word F.prefix)) 0 small (λ i h l. in_table i (omega arith)));
  }
