-- A resolution's maps: the tables that hold the rows give what the rules ask of the rows, and the universals' answers in order give the row or the first fault.
use mathlib.Core.Path.{◌≡◌, refl, sym, ap, ap₂, subst, ◌∙◌}
use mathlib.Core.Bool.{Bool, true, false, not}
use mathlib.Core.List.{List, [], ◌∷◌, ◌++◌}
use Prim.Native.Nat.{ℕ, zero, suc, ◌+◌, ◌-◌, ◌≤◌, ◌<◌}
use native.Mathlib.Omega.{arith}
use native.Mathlib.Nat.{add-zero, add-suc, suc-add, zero-add}
use native.Mathlib.Numerals.{add-one}
use borrow.Author.Count.{below_more}
use lib.ListN.{get_or-map, length, get_or, take, drop, set, replicate, length-append, length-replicate, get_or-append}
use Rattle.std.specs.Prelude.{Result, Ok, Err}
use Rattle.rules.specs.declared.Resolution.{Resolution}
use Rattle.rules.specs.declared.refusals.Refusal.{Refusal}
use Rattle.rules.specs.declared.Node.TheVariants.{Branch}
use Rattle.rules.specs.definitions.Limits.{universals_most, lines_most}
use Rattle.rules.specs.definitions.Layout.{map_words}
use Rattle.rules.specs.definitions.Refusals.{refusal_number, not_left}
use Rattle.rules.specs.definitions.Sets.{has}
use Rattle.rules.specs.definitions.Faults.{Fault, first_of}
use Rattle.rules.specs.definitions.Faults.Found.{fails}
use Rattle.rules.specs.definitions.Formula.{Formula, universals}
use Rattle.rules.specs.definitions.Formula.Quant.{exists}
use Rattle.theory.specs.laws.Formula.{bound_by_place}
use Rattle.rules.specs.definitions.Maps.{Column, node_word, star?}
use Rattle.rules.specs.definitions.Comparing.{isomorphic}
use Rattle.rules.specs.statements.Sound.{InRange, Sound}
use Rattle.rules.specs.definitions.Lines.{Entry, Row, column, root_at, each, select, selected, in_set, map_fault, map_entry, Rules}
use Rattle.rules.specs.definitions.Lines.{Selected as KeptRoot}
use Rattle.rules.specs.definitions.Lines.Selected.{kept, undefined}
use Rattle.theory.specs.laws.Lines.{root_sound, passes_each}
use Rattle.rules.specs.definitions.Tables.{padded, holding, node_table, root_table}
use Rattle.theory.specs.laws.Playing.{table_column_rows, table_root_rows}
use Rattle.rules.specs.definitions.Services.{table_column}
use Rattle.sets.specs.declared.Set.{Set}
use Rattle.sets.specs.Values.{set_of}
use Rattle.maps.specs.Columns.{Numbered}
use Rattle.checker.specs.declared.game.Game.{Game}
use Rattle.checker.specs.declared.maps_row.MapEntry.{MapEntry}
use Rattle.checker.specs.Game.{GameOf, nobody}
use Rattle.checker.specs.declared.game.Universal.{Universal}
use Rattle.checker.specs.Rows.{node_words, root_words}
use Rattle.checker.specs.Selects.{strict_select}
use Rattle.checker.specs.MapRows.{Resolving, LeftSet, Place, root_word, Enters, Keeps, Gets, AllGet}
use Rattle.checker.proofs.Columns.{sound_there, isomorphic_agree}
use Rattle.checker.proofs.Leaves.{words_more, words_all, no_node}

-- ---- one universal's answer
module _ (n : ℕ) (e : Entry) where
  -- an entry: the fault is not to be given
  enters_entry : (t : Bool) (m : MapEntry) → Enters t n e (Ok m) → (t ≡ false) × (m.node ≡ node_word e.node) × (m.root ≡ e.root)
  enters_entry true m p = absurd p
  enters_entry false m p = (refl, p.0, p.1)

  -- a refusal: it is
  enters_given : (t : Bool) (k : Refusal) → Enters t n e (Err k) → (t ≡ true) × (refusal_number k ≡ n)
  enters_given true k p = (refl, p)
  enters_given false k p = absurd p

-- the root that select keeps
pub keeps_root : (s : KeptRoot) (k : ℕ) → kept k ≡ s → Keeps s (Ok (record { node = 0; root = k }))
unfolding node_word
keeps_root s k e = subst (λ (t : KeptRoot). Keeps t (Ok (record { node = 0; root = k }))) e (refl, refl)

-- ---- select asks of a column the two nodes and the comparison
tests : Bool → Bool → Bool → ℕ → ℕ → KeptRoot
tests s t o a b = elim s [ true ↦ kept b | false ↦ elim t [ true ↦ kept a | false ↦ elim o [ true ↦ kept a | false ↦ undefined ] ] ]

by_tests : (T : Column) (a b : ℕ) → strict_select T a b ≡ tests (star? (T a)) (star? (T b)) (isomorphic T a T b) a b
unfolding select tests
by_tests T a b = refl

select_agree : (T U : Column) (a b : ℕ) → U a ≡ T a → U b ≡ T b → isomorphic U a U b ≡ isomorphic T a T b → strict_select U a b ≡ strict_select T a b
select_agree T U a b p q o = by_tests U a b ∙ rw (p, q, o) (sym (by_tests T a b))

-- a table that holds words has as many as are named
holding_long : (n : ℕ) (ws lent t : List ℕ) → t ≡ holding n ws lent → n ≤ length t
unfolding holding padded
holding_long n ws lent t e = omega (arith, ap length e, length-append (ws ++ zeros) (drop n lent), length-append ws zeros, length-replicate {A = ℕ} (n - length ws) 0)
  where
    zeros : List ℕ
    zeros = replicate (n - length ws) 0

-- ---- a line that resolves after the rows, and a universal
module _ (R : Rules) (F : Formula) (rows : List Row) (nodes nodes₀ roots roots₀ : List ℕ) (r : Resolution) (i : ℕ) (S : Resolving R F rows nodes nodes₀ roots roots₀ r i) (j : ℕ) (l : j < length (universals F.prefix)) where
  few_rows : length rows ≤ lines_most
  few_rows = omega (arith, S.line, S.few)

  offset : j < universals_most
  offset = omega (arith, S.proper.universals)

  -- the universal's column is in the table
  pub column_asks : (map_words ≤ length nodes) × (j < universals_most)
  column_asks = (holding_long map_words (node_table F rows) nodes₀ nodes S.in_nodes, offset)

  -- the table's column is the rows'
  column_same : (k : ℕ) → k ≤ lines_most → table_column nodes (j + 1) k ≡ column rows j k
  column_same k h = ap (λ (n : ℕ). table_column nodes n k) (add-one j) ∙ table_column_rows R F S.proper rows S.good few_rows j l nodes₀ nodes S.in_nodes k h

  -- a line before this one
  module _ (p : ℕ) (e : (1 ≤ p) × (p < i)) where
    pub line_place : Place roots j p
    line_place = record { offset = offset; from = e.0; most = omega (arith, S.few); long = holding_long map_words (root_table F rows) roots₀ roots S.in_roots }

    root_read : root_word roots j p ≡ root_at rows j p
    root_read =
        let s : suc (p - 1) ≡ p = omega arith in
        table_root_rows R F S.proper rows S.good few_rows j l roots₀ roots S.in_roots (p - 1) (omega (arith, S.line)) ∙ ap (root_at rows j) s

    root_range : (1 ≤ root_at rows j p) × (root_at rows j p ≤ lines_most)
    root_range = let g = ((S.good p e.0 (omega (arith, S.line))).entry j l).root in (g.0, omega (arith, g.1, S.few))

    rows_sound : Sound (column rows j) (root_at rows j p)
    rows_sound = root_sound R F rows S.good j l p e.0 (omega (arith, S.line))

    table_sound : Sound (table_column nodes (j + 1)) (root_at rows j p)
    table_sound = sound_there (column rows j) (table_column nodes (j + 1)) lines_most column_same root_range.1 rows_sound

  branch_range : InRange (Branch r.pivot (root_at rows j r.a) (root_at rows j r.b))
  branch_range =
      let p = bound_by_place exists F.prefix r.pivot S.pivot in
      let q = S.proper.in_range p.0 p.1 in
      ((omega (arith, q, p.3), omega (arith, q, p.3, S.proper.variables)), root_range r.a S.a_earlier, root_range r.b S.b_earlier)

  -- select on the table's column is select on the rows'
  select_same : strict_select (table_column nodes (j + 1)) (root_at rows j r.a) (root_at rows j r.b) ≡ selected R rows r j
  select_same =
      let a = root_range r.a S.a_earlier in
      let b = root_range r.b S.b_earlier in
      select_agree (column rows j) (table_column nodes (j + 1)) (root_at rows j r.a) (root_at rows j r.b) (column_same _ a.1) (column_same _ b.1)
      (isomorphic_agree (column rows j) (table_column nodes (j + 1)) lines_most (root_at rows j r.a) (root_at rows j r.b) column_same a.1 b.1 a.0 b.0 (rows_sound r.a S.a_earlier) (rows_sound r.b S.b_earlier))
      ∙ ap (λ (f : Column → ℕ → ℕ → Bool). select f (column rows j) (root_at rows j r.a) (root_at rows j r.b)) (sym S.third_ground)

  -- ---- with the parents' roots read from the table
  module _ (a b : ℕ) (read_a : a ≡ root_word roots j r.a) (read_b : b ≡ root_word roots j r.b) where
    is_a : a ≡ root_at rows j r.a
    is_a = read_a ∙ root_read r.a S.a_earlier

    is_b : b ≡ root_at rows j r.b
    is_b = read_b ∙ root_read r.b S.b_earlier

    pub merge_asks : InRange (Branch r.pivot a b)
    merge_asks = rw (is_a, is_b) branch_range

    pub select_asks : Numbered a × Numbered b × Sound (table_column nodes (j + 1)) a
    select_asks = rw (is_a, is_b) (root_range r.a S.a_earlier, root_range r.b S.b_earlier, table_sound r.a S.a_earlier)

    -- what a universal in the merge set gets, and another
    pub merge_gets : (s : Set) → LeftSet R F j s → (m : Result MapEntry Refusal) → in_set r.merge j ≡ true
        → Enters (not (has (set_of s) r.pivot)) not_left (record { node = Branch r.pivot a b; root = i }) m → Gets R F rows r i j (get_or (universals F.prefix) j 0) m
    merge_gets s L m e p = rw (map_fault, map_entry, e) (rw (L.members r.pivot, is_a, is_b) at p)

    pub select_gets : (m : Result MapEntry Refusal) → in_set r.merge j ≡ false → Keeps (strict_select (table_column nodes (j + 1)) a b) m → Gets R F rows r i j (get_or (universals F.prefix) j 0) m
    select_gets m e p = rw (map_fault, map_entry, e) (subst (λ (s : KeptRoot). Keeps s m) (ap₂ (strict_select (table_column nodes (j + 1))) is_a is_b ∙ select_same) p)

-- ---- the universals in order: the first fault that is to be given
each_fails_from : (f : ℕ → ℕ → Fault) (us : List ℕ) (s j : ℕ) → j < length us → ((m : ℕ) → m < j → (f (s + m) (get_or us m 0)).when ≡ false) → (f (s + j) (get_or us j 0)).when ≡ true
    → first_of (each f us s) ≡ fails (f (s + j) (get_or us j 0)).number (f (s + j) (get_or us j 0)).variable
unfolding each first_of
each_fails_from f [] s j h before given = absurd (omega arith)
each_fails_from f (u ∷ us) s zero h before given = rw (add-zero s) (rw (rw (add-zero s) at given) refl)
each_fails_from f (u ∷ us) s (suc j) h before given =
    let z : (f s u).when ≡ false = ap (λ (n : ℕ). (f n u).when) (sym (add-zero s)) ∙ before 0 (omega arith) in
    let e : (n : ℕ) → suc s + n ≡ s + suc n = λ n. suc-add s n ∙ sym (add-suc s n) in
    rw z (
    each_fails_from f us (suc s) j (omega arith) (λ m k. ap (λ (n : ℕ). (f n (get_or us m 0)).when) (e m) ∙ before (suc m) (omega arith)) (ap (λ (n : ℕ). (f n (get_or us j 0)).when) (e j) ∙ given)
    ∙ ap (λ (n : ℕ). fails (f n (get_or us j 0)).number (f n (get_or us j 0)).variable) (e j)
    )

each_fails : (f : ℕ → ℕ → Fault) (us : List ℕ) (j : ℕ) → j < length us → ((m : ℕ) → m < j → (f m (get_or us m 0)).when ≡ false) → (f j (get_or us j 0)).when ≡ true
    → first_of (each f us 0) ≡ fails (f j (get_or us j 0)).number (f j (get_or us j 0)).variable
each_fails f us j h before given =
    each_fails_from f us 0 j h (λ m k. ap (λ (n : ℕ). (f n (get_or us m 0)).when) (zero-add m) ∙ before m k) (ap (λ (n : ℕ). (f n (get_or us j 0)).when) (zero-add j) ∙ given)
    ∙ ap (λ (n : ℕ). fails (f n (get_or us j 0)).number (f n (get_or us j 0)).variable) (zero-add j)

-- ---- the loop over the universals
module _ (R : Rules) (F : Formula) (rows : List Row) (r : Resolution) (i : ℕ) where
  abbrev us : List ℕ
  us = universals F.prefix

  abbrev faulty : ℕ → ℕ → Fault
  faulty = map_fault R rows r (in_set r.merge)

  abbrev entered : ℕ → ℕ → Entry
  entered = map_entry R rows i r (in_set r.merge)

  -- a fault of a universal names it
  fault_variable : (j u : ℕ) → (faulty j u).variable ≡ u
  fault_variable j u = by (in_set r.merge j) refl
    where
      by : (t : Bool) → in_set r.merge j ≡ t → (faulty j u).variable ≡ u
      by true e = rw (map_fault, e)
      by false e = rw (map_fault, e)

  -- the first j universals have no fault, and the rows hold their words
  abbrev pub Done : ℕ → List ℕ → List ℕ → Type 0
  Done j ns rs =
      ((n : ℕ) → n < j → (faulty n (get_or us n 0)).when ≡ false)
      × (ns ≡ padded universals_most (take j (node_words (each entered us 0))))
      × (rs ≡ padded universals_most (take j (root_words (each entered us 0))))

  pub done_none : Done 0 (replicate universals_most 0) (replicate universals_most 0)
  unfolding padded
  done_none = (λ n h. absurd (omega arith), refl, refl)

  module _ (j : ℕ) (ns rs : List ℕ) (D : Done j ns rs) where
    module _ (h : j < length us) where
      pub done_more : length us ≤ universals_most → (m : MapEntry) → Gets R F rows r i j (get_or us j 0) (Ok m) → Done (j + 1) (set ns j m.node) (set rs j m.root)
      done_more few m G =
          let q = enters_entry (faulty j (get_or us j 0)).number (entered j (get_or us j 0)) (faulty j (get_or us j 0)).when m G in (
            below_more (λ (n : ℕ). (faulty n (get_or us n 0)).when ≡ false) j D.0 q.0,
            words_more entered us (λ (e : Entry). node_word e.node) no_node ns j m.node h few D.1 q.1,
            words_more entered us (λ (e : Entry). e.root) refl rs j m.root h few D.2 q.2,
          )

      -- the first fault
      pub done_fails : (k : Refusal) → Gets R F rows r i j (get_or us j 0) (Err k) → (v : ℕ) → v ≡ get_or us j 0
          → AllGet R F rows r i (Err (record { refusal = k; variable = v }))
      done_fails k G v e =
          let q = enters_given (faulty j (get_or us j 0)).number (entered j (get_or us j 0)) (faulty j (get_or us j 0)).when k G in
          rw (each_fails faulty us j h D.0 q.0) (q.1, e ∙ sym (fault_variable j (get_or us j 0)))

    -- none
    pub done_all : length us ≤ j → AllGet R F rows r i (Ok (record { nodes = ns; roots = rs }))
    done_all h =
        rw ((passes_each faulty us).1 (λ n k. D.0 n (omega arith))) (record {
          nodes = words_all entered us (λ (e : Entry). node_word e.node) no_node ns j h D.1;
          roots = words_all entered us (λ (e : Entry). e.root) refl rs j h D.2;
        })

-- ---- the game's universals
module _ (R : Rules) (F : Formula) (g : Game) (G : GameOf R F g) where
  pub game_left : (j : ℕ) → j < g.universal_count → LeftSet R F j (get_or g.universals j nobody).left
  game_left j h = let l : j < length (universals F.prefix) = omega (arith, G.universal_count) in record { offset = l; members = λ x. G.left j x l }

  pub game_variable : (j : ℕ) → j < length (universals F.prefix) → (get_or g.universals j nobody).variable ≡ get_or (universals F.prefix) j 0
  unfolding padded
  game_variable j h =
      sym (get_or-map (λ (u : Universal). u.variable) g.universals j nobody) ∙ ap (λ (l : List ℕ). get_or l j 0) G.vars ∙ get_or-append (universals F.prefix) (replicate (universals_most - length (universals F.prefix)) 0) 0 j h
