-- The node and root tables of good rows: their words are the rows' nodes and roots, and playing a table's column is playing the rows' column.
use Rattle.std.specs.Prelude.{◌≡◌, Bool, true, false, List, map, length, get_or, replicate}
use Rattle.std.proofs.Math.Path.{refl, sym}
use Rattle.std.proofs.Common.{ap, ◌∙◌, length-append, ne_eqb, le-ltb}
use Rattle.std.proofs.Math.Logic.{by_cases}
use Prim.Native.Nat.{ℕ, zero, suc, ◌+◌, ◌-◌, ◌*◌, ◌≤◌, ◌<◌}
use native.Mathlib.Omega.{arith}
use Rattle.std.proofs.Math.Decide.{dec_lt}
use Rattle.std.proofs.Math.ListN.{length-map, get_or-append, get_or-map}
use Rattle.std.proofs.lemmas.List.{length-replicate}
use Rattle.rules.specs.declared.Node.{Node}
use Rattle.rules.specs.declared.Node.TheVariants.{None, Leaf, Branch}
use Rattle.rules.specs.declared.Played.{Played}
use Rattle.rules.specs.definitions.Limits.{universals_most, lines_most}
use Rattle.rules.specs.definitions.Layout.{map_words}
use Rattle.rules.specs.definitions.Refusals.{play_range}
use Rattle.rules.specs.definitions.Sets.{Set, has}
use Rattle.rules.specs.definitions.Formula.{Formula, universals}
use Rattle.rules.specs.definitions.Formula.Quant.{exists}
use Rattle.theory.specs.laws.Formula.{bound_by_place}
use Rattle.rules.specs.definitions.Maps.{Column, node_word, node_of, value_word, Walk, walk, plays, value_of}
use Rattle.rules.specs.definitions.Maps.Walk.{ended, broken}
use Rattle.rules.specs.statements.Sound.{InRange}
use Rattle.theory.specs.laws.Maps.{node_of_word, walk_same, walk_ends, reached_le}
use Rattle.rules.specs.definitions.Lines.{Entry, Row, no_entry, no_row, Rules, row_at, column, root_at}
use Rattle.rules.specs.definitions.Tables.{padded, node_row, root_row, rows_of, holding}
use Rattle.theory.specs.laws.Tables.{Wide, table_word, table_past}
use Rattle.rules.specs.definitions.Services.{table_column, play_refused, play_answer, playing}
use Rattle.rules.specs.statements.Proper.{Proper}
use Rattle.rules.specs.statements.Good.{Good}
use Rattle.theory.specs.laws.Lines.{column_past, column_zero, branch_line, column_branch, root_sound}

-- the word 0 is no node
no_node : node_of 0 ≡ None
unfolding node_of
no_node = refl

-- ---- a row of words
padded_at : (n : ℕ) (ws : List ℕ) (j : ℕ) → j < length ws → get_or (padded n ws) j 0 ≡ get_or ws j 0
unfolding padded
padded_at n ws j h = get_or-append ws (replicate (n - length ws) 0) 0 j h

padded_size : (n : ℕ) (ws : List ℕ) → length ws ≤ n → length (padded n ws) ≡ n
unfolding padded
padded_size n ws h = length-append ws (replicate (n - length ws) 0) ∙ omega (arith, length-replicate {A = ℕ} (n - length ws) 0)

module _ (R : Rules) (F : Formula) (proper : Proper F) (rows : List Row) (good : Good R F rows) where
  k : ℕ
  k = length (universals F.prefix)

  entries_of : (i : ℕ) → i < length rows → length (get_or rows i no_row).entries ≡ length (universals F.prefix)
  unfolding row_at
  entries_of i h = (good (suc i) (omega arith) (omega arith)).entries

  -- each row has a word for each of 16 universals
  pub nodes_wide : Wide universals_most node_row no_row rows
  nodes_wide i h =
      let es = (get_or rows i no_row).entries in
      padded_size universals_most (map (λ (e : Entry). node_word e.node) es)
      (omega (arith, length-map es (λ (e : Entry). node_word e.node), entries_of i h, proper.universals))

  pub roots_wide : Wide universals_most root_row no_row rows
  roots_wide i h =
      let es = (get_or rows i no_row).entries in
      padded_size universals_most (map (λ (e : Entry). e.root) es) (omega (arith, length-map es (λ (e : Entry). e.root), entries_of i h, proper.universals))

  module _ (short : length rows ≤ lines_most) (j : ℕ) (l : j < length (universals F.prefix)) where
    -- a node of good rows has a word that stands for it
    pub column_range : (i : ℕ) → InRange (column rows j i)
    column_range i = by (column rows j i) refl
      where
        by : (n : Node) → column rows j i ≡ n → InRange n
        by None e = tt
        by (Leaf v) e = tt
        by (Branch x a b) e =
            let g = column_branch R F rows good j l i x a b e in
            let p = bound_by_place exists F.prefix x g.existential in
            let q = proper.in_range p.0 p.1 in
            let w = branch_line R F rows good j l i x a b e in
            ((omega (arith, q, p.3), omega (arith, q, p.3, proper.variables)), (omega (arith, g.low), omega (arith, g.low)), (omega (arith, g.high), omega (arith, g.high)))

    entries_past : (i : ℕ) → i < length rows → j < length (get_or rows i no_row).entries
    entries_past i h = omega (arith, entries_of i h)

    -- word j of a row of nodes, and of a row of roots
    node_row_at : (i : ℕ) → i < length rows → get_or (node_row (get_or rows i no_row)) j 0 ≡ node_word (get_or (get_or rows i no_row).entries j no_entry).node
    unfolding node_word
    node_row_at i h =
        let es = (get_or rows i no_row).entries in
        padded_at universals_most (map (λ (e : Entry). node_word e.node) es) j (omega (arith, length-map es (λ (e : Entry). node_word e.node), entries_past i h))
        ∙ get_or-map (λ (e : Entry). node_word e.node) es j no_entry

    root_row_at : (i : ℕ) → i < length rows → get_or (root_row (get_or rows i no_row)) j 0 ≡ (get_or (get_or rows i no_row).entries j no_entry).root
    root_row_at i h =
        let es = (get_or rows i no_row).entries in
        padded_at universals_most (map (λ (e : Entry). e.root) es) j (omega (arith, length-map es (λ (e : Entry). e.root), entries_past i h))
        ∙ get_or-map (λ (e : Entry). e.root) es j no_entry

    offset : j < universals_most
    offset = omega (arith, proper.universals)

    -- a table that holds the rows' nodes: its column is the rows', for each line that there may be
    pub table_column_rows : (lent t : List ℕ) → t ≡ holding map_words (rows_of node_row rows) lent → (i : ℕ) → i ≤ lines_most → table_column t (suc j) i ≡ column rows j i
    unfolding table_column map_words row_at
    table_column_rows lent t e zero h = no_node ∙ sym (column_zero rows j)
    table_column_rows lent t e (suc i) h = by_cases (dec_lt i (length rows)) inside outside
      where
        z : suc j - 1 ≡ j
        z = omega arith

        inside : i < length rows → node_of (get_or t (universals_most * i + (suc j - 1)) 0) ≡ (get_or (get_or rows i no_row).entries j no_entry).node
        inside m =
            ap (λ (n : ℕ). node_of (get_or t (universals_most * i + n) 0)) z
            ∙ ap node_of (table_word universals_most map_words node_row no_row rows lent t nodes_wide e i j m offset ∙ node_row_at i m)
            ∙ node_of_word (get_or (get_or rows i no_row).entries j no_entry).node (column_range (suc i))

        outside : (i < length rows → ⊥) → node_of (get_or t (universals_most * i + (suc j - 1)) 0) ≡ (get_or (get_or rows i no_row).entries j no_entry).node
        outside m =
            ap (λ (n : ℕ). node_of (get_or t (universals_most * i + n) 0)) z
            ∙ ap node_of (table_past universals_most map_words node_row no_row rows lent t nodes_wide e i j (omega arith) (omega (arith, offset)))
            ∙ no_node
            ∙ sym (column_past rows j (suc i) (omega arith))

    -- a table that holds the rows' roots: line i's root
    pub table_root_rows : (lent t : List ℕ) → t ≡ holding map_words (rows_of root_row rows) lent → (i : ℕ) → i < length rows
        → get_or t (universals_most * i + j) 0 ≡ root_at rows j (suc i)
    unfolding row_at
    table_root_rows lent t e i h = table_word universals_most map_words root_row no_row rows lent t roots_wide e i j h offset ∙ root_row_at i h

    -- playing the table's column from a line's root is playing the rows'; it is never refused
    pub table_plays : (lent t : List ℕ) → t ≡ holding map_words (rows_of node_row rows) lent → map_words ≤ length t → (i : ℕ) → 1 ≤ i → i ≤ length rows → (settings : Set)
        → playing (suc j) (root_at rows j i) t settings ≡ record { number = 0; value = value_word (plays (column rows j) (has settings) (root_at rows j i)) }
    unfolding playing
    table_plays lent t e long i lo hi settings = pick_false (play_refused (suc j) (root_at rows j i) t) allowed ∙ played (walk (column rows j) (has settings) r) refl
      where
        r : ℕ
        r = root_at rows j i

        T : Column
        T = table_column t (suc j)

        answer : Bool → Played
        answer b = elim b [ true ↦ record { number = play_range; value = 0 } | false ↦ play_answer (walk T (has settings) r) ]

        pick_false : (b : Bool) → b ≡ false → answer b ≡ play_answer (walk T (has settings) r)
        pick_false b f = ap answer f

        root_range : (1 ≤ r) × (r ≤ i)
        root_range = ((good i lo hi).entry j l).root

        allowed : play_refused (suc j) (root_at rows j i) t ≡ false
        allowed =
            rw (
              ne_eqb (suc j) 0 (λ q. omega arith),
              le-ltb universals_most (suc j) (omega (arith, offset)),
              ne_eqb (root_at rows j i) 0 (λ q. omega (arith, root_range)),
              le-ltb lines_most (root_at rows j i) (omega (arith, root_range)),
              le-ltb (length t) map_words long,
            )

        same : walk T (has settings) r ≡ walk (column rows j) (has settings) r
        same = sym (walk_same (column rows j) T (has settings) r (λ k h. table_column_rows lent t e k (omega (arith, reached_le (root_sound R F rows good j l i lo hi).falling h, root_range))))

        played : (w : Walk) → walk (column rows j) (has settings) r ≡ w → play_answer (walk T (has settings) r) ≡ record { number = 0; value = value_word (value_of (walk (column rows j) (has settings) r)) }
        played (ended v n S) f = ap play_answer (same ∙ f) ∙ ap (λ (w : Walk). record { number = 0; value = value_word (value_of w) }) (sym f)
        played broken f =
            let o = walk_ends (column rows j) (has settings) r (root_sound R F rows good j l i lo hi) in
            let q : ended o.0 o.1 o.2 ≡ broken = sym o.3 ∙ f in
            absurd (let z : ◌≡◌ {A = ℕ} 0 1 = cc in omega arith)
