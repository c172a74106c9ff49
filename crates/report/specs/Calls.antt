-- What a call of `print` asks, and what it leaves.
use Rattle.std.specs.Prelude.{◌≡◌, List, ℕ, ◌≤◌, length, take, drop}
use Rattle.rules.specs.definitions.Layout.{prefix_words, clause_words, line_words, map_words}
use Rattle.rules.specs.definitions.Tables.{prefix_after, clauses_after, lines_after, nodes_after, roots_after}
use Rattle.rules.specs.definitions.Services.{Lent, checking}
use Rattle.rules.specs.definitions.Report.{printed}

-- bytes enough for every report
abbrev pub report_most : ℕ
report_most = 1000000

-- no table is short, and there is room for every report
pub record Room (T : Lent) (out : List ℕ) : Type 0 where
  pub prefix : prefix_words ≤ length T.prefix
  pub clauses : clause_words ≤ length T.clauses
  pub lines : line_words ≤ length T.lines
  pub nodes : map_words ≤ length T.nodes
  pub roots : map_words ≤ length T.roots
  pub report : report_most ≤ length out

-- the first n bytes are what 01 says for the two files, the bytes past them are as they were, and the tables are as checking leaves them
pub record PrintCall (text proof : List ℕ) (T : Lent) (out : List ℕ) (n : ℕ) (out' prefix' clauses' lines' nodes' roots' : List ℕ) : Type 0 where
  pub said : take n out' ≡ printed text proof
  pub past : drop n out' ≡ drop n out
  pub within : n ≤ length out'
  pub prefix_left : prefix' ≡ prefix_after (checking text proof T).leaves T.prefix
  pub clauses_left : clauses' ≡ clauses_after (checking text proof T).leaves T.clauses
  pub lines_left : lines' ≡ lines_after (checking text proof T).leaves T.lines
  pub nodes_left : nodes' ≡ nodes_after (checking text proof T).leaves T.nodes
  pub roots_left : roots' ≡ roots_after (checking text proof T).leaves T.roots
