-- The three services (01): the reply and the content of each lent table, for every text, proof and table.
use Rattle.std.specs.Prelude.{Bool, true, false, ◌||◌, List, [], ℕ, zero, suc, ◌+◌, ◌-◌, ◌*◌, eqb, ltb, length, get_or}
use Rattle.rules.specs.declared.Reply.{Reply}
use Rattle.rules.specs.declared.Played.{Played}
use Rattle.rules.specs.definitions.Limits.{text_most, universals_most, lines_most}
use Rattle.rules.specs.definitions.Layout.{prefix_words, clause_words, line_words, map_words}
use Rattle.rules.specs.definitions.Refusals.{long_text, short_table, play_range, play_word}
use Rattle.rules.specs.definitions.Sets.{Set, has}
use Rattle.rules.specs.definitions.Formula.{Formula, universals}
use Rattle.rules.specs.definitions.Maps.{Column, node_of, value_word, Walk, walk}
use Rattle.rules.specs.definitions.Maps.Walk.{ended, broken}
use Rattle.rules.specs.definitions.Reading.{Reading, read}
use Rattle.rules.specs.definitions.Reading.Reading.{unread, formula}
use Rattle.rules.specs.definitions.Checking.{Checked, checked}
use Rattle.rules.specs.definitions.Checking.Checked.{rejected, accepted}
use Rattle.rules.specs.definitions.Tables.{Leaves, prefix_after, clauses_after, lines_after, nodes_after, roots_after}
use Rattle.rules.specs.definitions.Tables.Leaves.{untouched, zeroed, filled}

-- the tables that checking takes, as lent
pub record Lent : Type 0 where
  pub prefix : List ℕ
  pub clauses : List ℕ
  pub lines : List ℕ
  pub nodes : List ℕ
  pub roots : List ℕ

-- ---- replies: a refusal returns its number, place and variable, and 0 for each count
abbrev pub refusal : ℕ → ℕ → ℕ → Reply
refusal n at v = record { number = n; place = at; variable = v; variables = 0; clauses = 0; universals = 0; lines = 0 }

-- V, clause count and universal count; checking's also n
abbrev pub success : Formula → ℕ → Reply
success F n = record {
  number = 0;
  place = 0;
  variable = 0;
  variables = F.variables;
  clauses = length F.matrix;
  universals = length (universals F.prefix);
  lines = n;
}

-- a reply, and what it leaves
pub record Answer : Type 0 where
  pub reply : Reply
  pub leaves : Leaves

-- ---- reading
abbrev pub read_answer : Reading → Answer
read_answer (unread n at) = record { reply = refusal n at 0; leaves = zeroed }
read_answer (formula F) = record { reply = success F 0; leaves = filled F [] }

-- a table is shorter than its minimum
abbrev pub short : ℕ → List ℕ → Bool
short n t = ltb (length t) n

-- 2, then 1, before any byte is read
abbrev pub refused_early : ℕ → Answer
refused_early n = record { reply = refusal n 0 0; leaves = untouched }

-- reading takes the prefix and clause tables only
unfoldable pub reading : List ℕ → List ℕ → List ℕ → Answer
reading text prefix clauses =
    elim (short prefix_words prefix || short clause_words clauses) [
      | true ↦ refused_early short_table
      | false ↦ elim (ltb text_most (length text)) [ true ↦ refused_early long_text | false ↦ read_answer (read text) ]
    ]

-- ---- checking
abbrev pub check_answer : Checked → Answer
check_answer (rejected n at v) = record { reply = refusal n at v; leaves = zeroed }
check_answer (accepted F rows) = record { reply = success F (length rows); leaves = filled F rows }

abbrev pub short_tables : Lent → Bool
short_tables T =
    short prefix_words T.prefix
    || (short clause_words T.clauses || (short line_words T.lines || (short map_words T.nodes || short map_words T.roots)))

unfoldable pub checking : List ℕ → List ℕ → Lent → Answer
checking text proof T =
    elim (short_tables T) [
      | true ↦ refused_early short_table
      | false ↦ elim (ltb text_most (length text)) [ true ↦ refused_early long_text | false ↦ check_answer (checked text proof) ]
    ]

-- the tables after checking's answer
unfoldable pub after : Leaves → Lent → Lent
after l T = record {
  prefix = prefix_after l T.prefix;
  clauses = clauses_after l T.clauses;
  lines = lines_after l T.lines;
  nodes = nodes_after l T.nodes;
  roots = roots_after l T.roots;
}

-- ---- playing
-- a column of a node table: node i of column c, both from 1, is word 16(i−1) + c−1
unfoldable pub table_column : List ℕ → ℕ → Column
table_column nodes c zero = node_of 0
table_column nodes c (suc i) = node_of (get_or nodes (universals_most * i + (c - 1)) 0)

abbrev pub play_answer : Walk → Played
play_answer (ended v k s) = record { number = 0; value = value_word v }
play_answer broken = record { number = play_word; value = 0 }

-- column not 1..16, root not 1..1,024, node table short
abbrev pub play_refused : ℕ → ℕ → List ℕ → Bool
play_refused c r nodes = eqb c 0 || (ltb universals_most c || (eqb r 0 || (ltb lines_most r || short map_words nodes)))

unfoldable pub playing : ℕ → ℕ → List ℕ → Set → Played
playing c r nodes settings =
    elim (play_refused c r nodes) [
      | true ↦ record { number = play_range; value = 0 }
      | false ↦ play_answer (walk (table_column nodes c) (has settings) r)
    ]
