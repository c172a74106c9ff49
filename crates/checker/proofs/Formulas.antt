-- The formula in its tables: clause c read back, the universals, and an axiom's row from them.
use mathlib.Core.Path.{◌≡◌, refl, sym, ap, ◌∙◌}
use mathlib.Core.List.{List}
use mathlib.Core.Logic.{◌⊎◌, inl, inr}
use Rattle.std.specs.Prelude.{Ok, Err}
use Rattle.rules.specs.declared.refusals.Refusal.TheVariants as K
use Prim.Native.Nat.{ℕ, ◌-◌, ◌*◌, ◌≤◌, ◌<◌}
use native.Mathlib.Omega.{arith}
use lib.ListN.{length, get_or, take}
use lib.Seq.{take_at}
use Rattle.std.proofs.lemmas.List.{take-map}
use borrow.Author.Tests.{lt-ltb, le-ltb}
use Rattle.rules.specs.declared.Line.TheVariants as L
use Rattle.rules.specs.definitions.Layout.{set_words, clause_words}
use Rattle.rules.specs.definitions.Limits.{clauses_most}
use Rattle.rules.specs.definitions.Faults.{first_of}
use Rattle.rules.specs.definitions.Formula.{Formula, universals, no_literal, kept_by}
use Rattle.theory.specs.laws.Formula.{Worded}
use Rattle.rules.specs.statements.Proper.{Proper}
use Rattle.theory.specs.laws.Lines.{numbered_in, line_follows}
use Rattle.rules.specs.definitions.Lines.{Row, clause_number, leaf_entry, each, axiom_row, line_faults, line_row, line_made, Rules}
use Rattle.rules.specs.definitions.Tables.{padded, clause_row}
use Rattle.sets.specs.Values.{set_of, clause_of, clause_in, clause_in_row, length_clause_row}
use Rattle.checker.specs.declared.game.Game.{Game}
use Rattle.checker.specs.declared.game.Universal.{Universal}
use Rattle.checker.specs.declared.axioms.Made.{Made}
use Rattle.checker.specs.Game.{players}
use Rattle.checker.specs.Rows.{clause_part, RowOf}
use Rattle.checker.specs.Makes.{Makes, Whole}
use Rattle.theory.specs.laws.Tables.{Wide, table_part}

-- a clause of the matrix has its words
clause_worded : (F : Formula) → Proper F → (i : ℕ) → i < length F.matrix → Worded (get_or F.matrix i no_literal)
clause_worded F proper i h =
    let m = numbered_in F.matrix i no_literal h in
    record { plain = proper.plain_words (get_or F.matrix i no_literal) m; negated = proper.negated_words (get_or F.matrix i no_literal) m }

pub clause_wide : (F : Formula) → Proper F → Wide (2 * set_words) clause_row no_literal F.matrix
clause_wide F proper i h = length_clause_row _ (clause_worded F proper i h)

-- the clauses' words within the table
pub clause_room : (c : ℕ) → c ≤ clauses_most → 2 * set_words * c ≤ clause_words
unfolding set_words clause_words
clause_room c h = omega arith

module _ (R : Rules) (F : Formula) (g : Game) (W : Whole R F g) where
  -- the words of a clause lie in the table
  pub clause_within : (c : ℕ) → c ≤ g.count → 2 * set_words * c ≤ length g.clauses.now
  clause_within c h = omega (arith, clause_room c (omega (arith, W.game.count, W.proper.clauses)), W.long)

  -- clause c, read from the table
  pub clause_read : (c : ℕ) → 1 ≤ c → c ≤ g.count → clause_part g.clauses.now c ≡ clause_number F c
  clause_read c o h =
      let l : c - 1 < length F.matrix = omega (arith, W.game.count) in
      ap clause_in (table_part (2 * set_words) clause_words clause_row no_literal F.matrix g.clauses.now g.clauses.now (clause_wide F W.proper) W.words (c - 1) l)
      ∙ clause_in_row (clause_number F c) (clause_worded F W.proper (c - 1) l)

  -- the universals
  pub players_are : players g ≡ universals F.prefix
  unfolding padded
  players_are =
      sym (take-map (λ (u : Universal). u.variable) g.universal_count g.universals)
      ∙ ap (take g.universal_count) W.game.vars ∙ take_at (universals F.prefix) _ g.universal_count (sym W.game.universal_count)

  -- ---- the axiom's tests and its row
  module _ (rows : List Row) (i c : ℕ) where
    pub axiom_none : (c < 1) ⊎ (g.count < c) → Makes (line_made R F rows i (L.Axiom c)) (Err (record { refusal = K.NoClause; variable = 0 }))
    unfolding line_made line_faults line_row first_of
    axiom_none (inl h) = rw (lt-ltb c 1 h) (refl, refl)
    axiom_none (inr h) = let o : 1 ≤ c = omega arith in rw (le-ltb c 1 o, lt-ltb (length F.matrix) c (omega (arith, W.game.count))) (refl, refl)

    pub axiom_makes : (m : Made) → 1 ≤ c → c ≤ g.count → clause_of m.clause ≡ kept_by (set_of g.existentials) (clause_part g.clauses.now c)
        → RowOf (each (leaf_entry (clause_part g.clauses.now c) i) (players g) 0) m.row → Makes (line_made R F rows i (L.Axiom c)) (Ok m)
    unfolding axiom_row
    axiom_makes m o h k r =
        rw ((line_follows R F rows i (L.Axiom c) (axiom_row F i c)).1 ((o, omega (arith, W.game.count)), refl)) (
          k ∙ rw (W.game.existential_set, clause_read c o h),
          (rw (players_are, clause_read c o h) at r),
        )

-- what axiom_line needs of its two cases
pub ruleset axiom_cases = (axiom_none, axiom_makes)
