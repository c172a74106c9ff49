-- 01's cases marked P, from the actual bytes, as one statement.
use Rattle.std.specs.Prelude.{◌≡◌, refl, false, List, [], ◌∷◌, ◌++◌, ℕ, zero, suc, ◌-◌, ◌*◌}
use Prim.Native.String.{String}
use lib.ListN.{drop, replicate}
use Rattle.rules.specs.declared.Value.TheVariants.{Zero}
use Rattle.rules.specs.declared.Node.{Node}
use Rattle.rules.specs.declared.Node.TheVariants.{None, Leaf, Branch}
use Rattle.rules.specs.declared.Played.{Played}
use Rattle.rules.specs.definitions.Layout.{set_words, clause_width, prefix_words, clause_words, line_words, map_words}
use Rattle.rules.specs.definitions.Bits.{bit}
use Rattle.rules.specs.definitions.Sets.{none, has, with, without, join, only, some, empty, meet}
use Rattle.rules.specs.definitions.Faults.{first_of}
use Rattle.rules.specs.definitions.Formula.{bound_by, bound, universals, existentials, left_of, completed, with_literal, has_opposite, kept_by, resolvent, two_faced, empty_clause}
use Rattle.rules.specs.definitions.Text.{uncommented, lead, tokens, spelled, grown, sized, counting, number_of}
use Rattle.rules.specs.definitions.Reading.{step, read_from, read}
use Rattle.rules.specs.definitions.File.{pair_at, head_fault, split, records, decoded}
use Rattle.rules.specs.definitions.Maps.{node_word, node_of, walk_over, walk}
use Rattle.rules.specs.definitions.Comparing.{pair, compare, visit, pass, isomorphic}
use Rattle.rules.specs.definitions.Lines.{row_at, each, axiom_row, select, resolution_row, line_faults, line_row, line_made, next_line}
use Rattle.rules.specs.definitions.Checking.{lines_from, all_lines, checked_by}
use Rattle.rules.specs.definitions.Tables.{padded, rows_of, holding, prefix_after, clauses_after}
use Rattle.rules.specs.definitions.Services.{Lent, refusal, Answer, checking, reading, after, table_column, playing}
use Rattle.rules.specs.definitions.Bytes.{text, hex}
use Rattle.rules.specs.definitions.Report.{digits_before, decimal, reached_from, nodes_falling, joined, map_lines, refused_line, accepted_text, printed}

-- ---- running the definitions
-- tables that come with some content, and one word past each minimum
abbrev pub lent : Lent
lent = record { prefix = replicate 65 9; clauses = replicate 513 9; lines = replicate 2049 9; nodes = replicate 16385 9; roots = replicate 16385 9 }

-- checking, and what it leaves
unfoldable pub checks : List ℕ → List ℕ → Answer
unfolding set_words clause_width prefix_words clause_words line_words map_words bit none has with without join only some empty meet first_of bound_by bound universals existentials left_of completed with_literal has_opposite kept_by resolvent two_faced empty_clause uncommented lead tokens spelled grown sized counting number_of step read_from read pair_at head_fault split records decoded node_word node_of pair compare visit pass isomorphic row_at each axiom_row select resolution_row line_faults line_row line_made next_line lines_from all_lines checked_by checking text hex
checks t p = checking t p lent

unfoldable pub leaves : List ℕ → List ℕ → Lent
unfolding checks padded rows_of holding after
leaves t p = after (checks t p).leaves lent

-- reading, and what it leaves
unfoldable pub reads : List ℕ → Answer
unfolding checks reading
reads t = reading t lent.prefix lent.clauses

-- the prefix table, and the clause table, after reading
unfoldable pub read_prefix : List ℕ → List ℕ
unfolding reads padded rows_of holding
read_prefix t = prefix_after (reads t).leaves lent.prefix

unfoldable pub read_clauses : List ℕ → List ℕ
unfolding reads padded rows_of holding
read_clauses t = clauses_after (reads t).leaves lent.clauses

-- playing column 1 of the nodes that checking left
unfoldable pub plays : ℕ → List ℕ → ℕ → Played
unfolding leaves walk_over walk table_column playing
plays r nodes settings = playing 1 r nodes (settings ∷ [])

-- what the bench program prints
unfoldable pub prints : List ℕ → List ℕ → List ℕ
unfolding checks digits_before decimal reached_from nodes_falling joined map_lines refused_line accepted_text printed
prints t p = printed t p

-- ---- the game G
unfoldable pub G : List ℕ
unfolding text
G = text "p cnf 3 3 e 1 0 a 2 0 e 3 0 1 2 3 0 -1 -2 3 0 -3 0"

-- G's proof with its lines 4 and 5 as given
unfoldable pub proof_with : String → String → List ℕ
unfolding hex
proof_with four five =
    hex "4D 52 50 01 00 05 00"
    ++ (hex "01 01 00 00 00 00 00 00"
    ++ (hex "01 02 00 00 00 00 00 00"
    ++ (hex "01 03 00 00 00 00 00 00"
    ++ (hex four
    ++ hex five))))

unfoldable pub proof_G : List ℕ
unfolding proof_with
proof_G = proof_with "02 01 00 02 00 01 01 00" "02 04 00 03 00 03 00 00"

-- the first four lines, n = 4
unfoldable pub four_lines : List ℕ
unfolding hex
four_lines =
    hex "4D 52 50 01 00 04 00"
    ++ (hex "01 01 00 00 00 00 00 00"
    ++ (hex "01 02 00 00 00 00 00 00"
    ++ (hex "01 03 00 00 00 00 00 00"
    ++ hex "02 01 00 02 00 01 01 00")))

-- ---- the branch (1,p,p) against (1,q,r): nodes 1 to 5 of one column
unfoldable pub twice_against_two : ℕ → Node
twice_against_two zero = None
twice_against_two (suc zero) = Leaf Zero
twice_against_two (suc (suc zero)) = Leaf Zero
twice_against_two (suc (suc (suc zero))) = Leaf Zero
twice_against_two (suc (suc (suc (suc zero)))) = Branch 1 1 1
twice_against_two (suc (suc (suc (suc (suc zero))))) = Branch 1 2 3
twice_against_two (suc (suc (suc (suc (suc (suc n)))))) = None

-- row i of a table of rows of n words
abbrev pub row_of : ℕ → ℕ → List ℕ → List ℕ
row_of n i t = lib.ListN.take n (drop (n * (i - 1)) t)

-- one universal: its word, and 15 unused places
abbrev pub alone : ℕ → List ℕ
alone w = w ∷ replicate 15 0

-- ---- 01: the cases marked P
pub record Worked : Type 0 where
  -- G is accepted
  pub accepted : (checks G proof_G).reply ≡ record { number = 0; place = 0; variable = 0; variables = 3; clauses = 3; universals = 1; lines = 5 }
  pub prefix : (leaves G proof_G).prefix ≡ 1 ∷ 258 ∷ 3 ∷ replicate 61 0 ++ (9 ∷ [])
  pub clauses : (leaves G proof_G).clauses ≡ 7 ∷ 0 ∷ 4 ∷ 3 ∷ 0 ∷ 4 ∷ replicate 506 0 ++ (9 ∷ [])
  pub lines : (leaves G proof_G).lines ≡ 5 ∷ 0 ∷ 4 ∷ 1 ∷ 0 ∷ 4 ∷ 4 ∷ 0 ∷ replicate 2040 0 ++ (9 ∷ [])
  -- line 4 makes word 1,073,741,825
  pub line_4 : row_of 16 4 (leaves G proof_G).nodes ≡ alone 1073741825
  pub nodes : (leaves G proof_G).nodes ≡ alone 3 ++ (alone 2 ++ (alone 1 ++ (alone 1073741825 ++ (replicate 16320 0 ++ (9 ∷ [])))))
  pub roots : (leaves G proof_G).roots ≡ alone 1 ++ (alone 2 ++ (alone 3 ++ (alone 4 ++ (alone 4 ++ (replicate 16304 0 ++ (9 ∷ []))))))
  -- the bench prints, whole
  pub bench : prints G proof_G ≡ text "accepted 5\nmap 2 root 4\n4 if 1 then 2 else 1\n2 one\n1 zero\n"
  -- line 4 merge set 0, and set 2
  pub set_0 : (checks G (proof_with "02 01 00 02 00 01 00 00" "02 04 00 03 00 03 00 00")).reply ≡ refusal 31 4 2
  pub set_2 : (checks G (proof_with "02 01 00 02 00 01 02 00" "02 04 00 03 00 03 00 00")).reply ≡ refusal 28 4 0
  -- line 5 merge set 1
  pub set_1 : (checks G (proof_with "02 01 00 02 00 01 01 00" "02 04 00 03 00 03 01 00")).reply ≡ refusal 30 5 2
  -- line 4 parents exchanged
  pub exchanged : (checks G (proof_with "02 02 00 01 00 01 01 00" "02 04 00 03 00 03 00 00")).reply ≡ refusal 26 4 0
  -- first four lines
  pub first_four : (checks G four_lines).reply ≡ refusal 32 4 0
  -- playing root 4, and root 3
  pub low : plays 4 (leaves G proof_G).nodes 0 ≡ record { number = 0; value = 3 }
  pub high : plays 4 (leaves G proof_G).nodes 1 ≡ record { number = 0; value = 2 }
  pub no_value : plays 3 (leaves G proof_G).nodes 0 ≡ record { number = 0; value = 1 }
  -- branch (1,p,p) against (1,q,r)
  pub not_isomorphic : isomorphic twice_against_two 4 twice_against_two 5 ≡ false
  pub not_isomorphic_back : isomorphic twice_against_two 5 twice_against_two 4 ≡ false
  -- `p cnf 0 1 0` with one axiom of clause 1
  pub empty_clause : (checks (text "p cnf 0 1 0") (hex "4D 52 50 01 00 01 00 01 01 00 00 00 00 00 00")).reply
      ≡ record { number = 0; place = 0; variable = 0; variables = 0; clauses = 1; universals = 0; lines = 1 }
  pub no_maps : (leaves (text "p cnf 0 1 0") (hex "4D 52 50 01 00 01 00 01 01 00 00 00 00 00 00")).nodes ≡ replicate 16384 0 ++ (9 ∷ [])
  pub no_roots : (leaves (text "p cnf 0 1 0") (hex "4D 52 50 01 00 01 00 01 01 00 00 00 00 00 00")).roots ≡ replicate 16384 0 ++ (9 ∷ [])
  -- n = 0, 7 bytes
  pub no_lines : (checks G (hex "4D 52 50 01 00 00 00")).reply ≡ refusal 13 0 0
  -- existential 1, 2, clauses (1 2), (−1 −2), resolved on 1
  pub house_rule : (checks (text "p cnf 2 2 e 1 2 0 1 2 0 -1 -2 0")
      (hex "4D 52 50 01 00 03 00 01 01 00 00 00 00 00 00 01 02 00 00 00 00 00 00 02 01 00 02 00 01 00 00")).reply ≡ refusal 29 3 0

pub worked : Worked
unfolding checks leaves plays prints G proof_with proof_G four_lines twice_against_two isomorphic pass visit pair compare
worked = record {
  accepted = refl;
  prefix = refl;
  clauses = refl;
  lines = refl;
  line_4 = refl;
  nodes = refl;
  roots = refl;
  bench = refl;
  set_0 = refl;
  set_2 = refl;
  set_1 = refl;
  exchanged = refl;
  first_four = refl;
  low = refl;
  high = refl;
  no_value = refl;
  not_isomorphic = refl;
  not_isomorphic_back = refl;
  empty_clause = refl;
  no_maps = refl;
  no_roots = refl;
  no_lines = refl;
  house_rule = refl;
}
