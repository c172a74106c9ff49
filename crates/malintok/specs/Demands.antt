-- Demands 2 and 3 read off the services alone: what an answer 0 of checking says, and what playing then gives.
use Rattle.std.specs.Prelude.{◌≡◌, true, List, [], ◌∷◌}
use Rattle.std.proofs.Common.{sym, ◌∙◌, arith, ltb-false}
use Rattle.std.proofs.Math.Path.{ap}
use Prim.Native.Nat.{ℕ, suc, ◌+◌, ◌-◌, ◌*◌, ◌≤◌, ◌<◌}
use Rattle.std.proofs.Math.ListN.{length, get_or}
use Rattle.rules.specs.declared.Value.{Value}
use Rattle.rules.specs.declared.Reply.{Reply}
use Rattle.rules.specs.declared.Played.{Played}
use Rattle.rules.specs.definitions.Limits.{universals_most}
use Rattle.rules.specs.definitions.Layout.{map_words, prefix_words, clause_words, line_words}
use Rattle.rules.specs.definitions.Sets.{has}
use Rattle.rules.specs.definitions.Formula.{Formula, False, bound_by, universals, left_of}
use Rattle.rules.specs.definitions.Formula.Quant.{exists}
use Rattle.rules.specs.definitions.Reading.{read}
use Rattle.rules.specs.definitions.Reading.Reading.{formula}
use Rattle.rules.specs.definitions.File.{merge_proof, announced}
use Rattle.rules.specs.definitions.Maps.{plays, value_word}
use Rattle.rules.specs.definitions.Lines.{Row, no_row, strict, column, root_at}
use Rattle.rules.specs.definitions.Tables.{rows_of, node_row, root_row, holding, nodes_after, roots_after}
use Rattle.rules.specs.definitions.Services.{Lent, Answer, playing, short}
use Rattle.theory.specs.laws.Lines.{neither}
use Rattle.theory.specs.laws.Tables.{rows_length, holding_length}
use Rattle.theory.specs.laws.Playing.{nodes_wide, table_root_rows, table_plays}
use Rattle.rules.specs.statements.Countermodel.{Countermodel, last_root}
use Rattle.theory.specs.theorems.Countermodel.{strict_alike, accepted_good, accepted_lines, accepted_wins, accepted_false}
use Rattle.rules.specs.definitions.Paper.{merge_resolution, Refutation}
use Rattle.rules.specs.definitions.Checking.{base, rules_of}
use Rattle.rules.specs.statements.Held.{paper_lines}
use Rattle.theory.specs.theorems.Exact.{base_decides, published}
use Rattle.rules.specs.statements.Answered.{Answered}
use Rattle.theory.specs.theorems.Promise.{answered_zero}
use Rattle.malintok.specs.Calls.{CheckCall, PlayCall}

-- the universal at offset j, in the words of the root table: the last line's root
abbrev pub last_root_word : Reply → List ℕ → ℕ → ℕ
last_root_word r roots j = get_or roots (universals_most * (r.lines - 1) + j) 0

-- what a call of checking that answered 0 says
module _ (text proof : List ℕ) (T : Lent) (r : Reply) (p c l n t : List ℕ) (call : CheckCall text proof T r p c l n t) (zero_said : r.number ≡ 0) where
  answered : Answered text proof T
  answered = answered_zero text proof T (ap (λ (q : Reply). q.number) (sym call.reply) ∙ zero_said)

  -- the formula, and the lines
  pub the_formula : Formula
  the_formula = answered.formula_is

  pub the_rows : List Row
  the_rows = answered.rows

  -- demand 3, last sentence: the text reads to a formula that is false by the ordinary reading of its prefix
  pub formula_false : (read text ≡ formula the_formula) × False the_formula
  unfolding the_formula
  formula_false = accepted_false strict strict_alike text proof answered.formula_is answered.rows answered.accepts

  -- demand 2: its lines are a refutation by the published definition
  pub refutation : Refutation (merge_resolution the_formula) the_formula (paper_lines the_formula the_rows) (announced proof)
  unfolding the_formula the_rows
  refutation = published strict merge_proof text proof answered.formula_is (merge_resolution answered.formula_is) (base_decides answered.formula_is proof) answered.rows answered.accepts

  -- the reply's line count is the number of lines
  pub line_count : r.lines ≡ length the_rows
  unfolding the_rows
  line_count = ap (λ (q : Reply). q.lines) (call.reply ∙ ap (λ (a : Answer). a.reply) answered.answer)

  -- demand 3: the last maps are a countermodel over the prefix's order
  pub countermodel : Countermodel (left_of the_formula.prefix) the_formula the_rows
  unfolding the_formula the_rows
  countermodel = (accepted_wins strict strict_alike text proof answered.formula_is answered.rows merge_proof answered.accepts).1

  few : (1 ≤ length answered.rows) × (length answered.rows ≤ 1024)
  few = accepted_lines base text proof answered.formula_is answered.rows answered.accepts

  nodes_held : n ≡ holding map_words (rows_of node_row answered.rows) T.nodes
  nodes_held = call.nodes_left ∙ ap (λ (a : Answer). nodes_after a.leaves T.nodes) answered.answer

  roots_held : t ≡ holding map_words (rows_of root_row answered.rows) T.roots
  roots_held = call.roots_left ∙ ap (λ (a : Answer). roots_after a.leaves T.roots) answered.answer

  nodes_long : map_words ≤ length T.nodes
  nodes_long =
      let a = (neither (short prefix_words T.prefix) _ answered.long).1 in
      let b = (neither (short clause_words T.clauses) _ a).1 in
      let d = (neither (short line_words T.lines) _ b).1 in
      ltb-false (length T.nodes) map_words (neither (short map_words T.nodes) _ d).0

  rows_fit : length (rows_of node_row answered.rows) ≤ map_words
  unfolding map_words
  rows_fit =
      let P = accepted_good base text proof answered.formula_is answered.rows answered.accepts in
      omega (arith, few, rows_length universals_most node_row no_row answered.rows (nodes_wide (rules_of base answered.formula_is proof) answered.formula_is P.0 answered.rows P.1))

  long_after : map_words ≤ length n
  long_after = omega (arith, nodes_long, ap length nodes_held ∙ holding_length map_words (rows_of node_row answered.rows) T.nodes rows_fit nodes_long)

  module _ (j : ℕ) (present : j < length (universals the_formula.prefix)) where
    in_formula : j < length (universals answered.formula_is.prefix)
    unfolding the_formula
    in_formula = present

    -- the word of the root table is the last line's root
    root_is : last_root_word r t j ≡ last_root answered.rows j
    unfolding the_rows
    root_is =
        let P = accepted_good base text proof answered.formula_is answered.rows answered.accepts in
        let m : suc (length answered.rows - 1) ≡ length answered.rows = omega (arith, few) in
        ap (λ (q : ℕ). get_or t (universals_most * (q - 1) + j) 0) line_count
        ∙ table_root_rows (rules_of base answered.formula_is proof) answered.formula_is P.0 answered.rows P.1 few.1 j in_formula T.roots t roots_held (length answered.rows - 1) (omega (arith, few))
        ∙ ap (root_at answered.rows j) m

    -- playing the last map is never refused, and gives the definition's value
    pub play_last : (settings : ℕ) (q : Played) → PlayCall (suc j) (last_root_word r t j) n settings q
        → q ≡ record { number = 0; value = value_word (plays (column the_rows j) (has (settings ∷ [])) (last_root the_rows j)) }
    unfolding the_rows
    play_last settings q e =
        let P = accepted_good base text proof answered.formula_is answered.rows answered.accepts in
        e
        ∙ ap (λ (w : ℕ). playing (suc j) w n (settings ∷ [])) root_is
        ∙ table_plays (rules_of base answered.formula_is proof) answered.formula_is P.0 answered.rows P.1 few.1 j in_formula T.nodes n nodes_held long_after
        (length answered.rows) few.0 (omega arith) (settings ∷ [])

    -- two settings that agree on the existential variables left of the universal get the same answer
    pub play_depends : (settings other : ℕ) (q o : Played) → PlayCall (suc j) (last_root_word r t j) n settings q → PlayCall (suc j) (last_root_word r t j) n other o
        → ((x : ℕ) → bound_by exists the_formula.prefix x ≡ true → left_of the_formula.prefix x (get_or (universals the_formula.prefix) j 0) ≡ true
        → has (settings ∷ []) x ≡ has (other ∷ []) x)
        → q ≡ o
    play_depends settings other q o e f same =
        play_last settings q e
        ∙ ap (λ (v : Value). record { number = 0; value = value_word v }) (countermodel.depends j present (has (settings ∷ [])) (has (other ∷ [])) same)
        ∙ sym (play_last other o f)
