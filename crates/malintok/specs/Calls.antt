-- What a call of a service leaves: the reply and each lent table at exit, as rules' definitions give them from what came.
use Rattle.std.specs.Prelude.{◌≡◌, List, [], ◌∷◌, ℕ, length}
use Rattle.rules.specs.declared.Reply.{Reply}
use Rattle.rules.specs.declared.Played.{Played}
use Rattle.rules.specs.declared.refusals.Refused.{Refused}
use Rattle.rules.specs.definitions.Refusals.{refusal_number}
use Rattle.rules.specs.definitions.Tables.{prefix_after, clauses_after, lines_after, nodes_after, roots_after}
use Rattle.rules.specs.definitions.Formula.{Formula, universals}
use Rattle.rules.specs.definitions.Checking.{base, proof_checked, checked}
use Rattle.rules.specs.definitions.Services.{Lent, Answer, refusal, reading, check_answer, checking, playing}
use Rattle.formula.specs.declared.reading.Counts.{Counts}
use Rattle.formula.specs.declared.tables.FormulaTables.{FormulaTables}
use Rattle.checker.specs.declared.tables.ProofTables.{ProofTables}

-- reading the text, with these tables lent, gives this reply and leaves these tables
pub record ReadCall (text prefix clauses : List ℕ) (r : Reply) (prefix' clauses' : List ℕ) : Type 0 where
  pub reply : r ≡ (reading text prefix clauses).reply
  pub prefix_left : prefix' ≡ prefix_after (reading text prefix clauses).leaves prefix
  pub clauses_left : clauses' ≡ clauses_after (reading text prefix clauses).leaves clauses

-- this answer's reply, and its tables
pub record Answers (a : Answer) (T : Lent) (r : Reply) (T' : Lent) : Type 0 where
  pub reply : r ≡ a.reply
  pub prefix_left : T'.prefix ≡ prefix_after a.leaves T.prefix
  pub clauses_left : T'.clauses ≡ clauses_after a.leaves T.clauses
  pub lines_left : T'.lines ≡ lines_after a.leaves T.lines
  pub nodes_left : T'.nodes ≡ nodes_after a.leaves T.nodes
  pub roots_left : T'.roots ≡ roots_after a.leaves T.roots

-- checking the text with the proof, with these tables lent, gives this reply and leaves these tables
abbrev pub CheckCall : List ℕ → List ℕ → Lent → Reply → List ℕ → List ℕ → List ℕ → List ℕ → List ℕ → Type 0
CheckCall text proof T r p c l n t = Answers (checking text proof T) T r (record { prefix = p; clauses = c; lines = l; nodes = n; roots = t })

-- playing on a word of settings answers so
abbrev pub PlayCall : ℕ → ℕ → List ℕ → ℕ → Played → Type 0
PlayCall column root nodes settings r = r ≡ playing column root nodes (settings ∷ [])

-- ---- inside checking, past the tests for short tables and long texts
-- the words of the five tables
abbrev pub lent_of : FormulaTables → ProofTables → Lent
lent_of f t = record { prefix = f.prefix.now; clauses = f.clauses.now; lines = t.lines.now; nodes = t.nodes.now; roots = t.roots.now }

-- what is counted of a formula
abbrev pub counts_of : Formula → Counts
counts_of F = record { variables = F.variables; clauses = length F.matrix; universals = length (universals F.prefix) }

-- ---- the replies: counts and a line count; a refusal
abbrev pub counted : Counts → ℕ → Reply
counted c n = record {
  number = 0;
  place = 0;
  variable = 0;
  variables = c.variables;
  clauses = c.clauses;
  universals = c.universals;
  lines = n;
}

abbrev pub refused : Refused → Reply
refused e = refusal (refusal_number e.refusal) e.place e.variable

-- the proof after its formula F was read, with these counts
abbrev pub ProofIn : Formula → List ℕ → Counts → Lent → Reply → Lent → Type 0
ProofIn F proof counts T r T' = counts ≡ counts_of F → Answers (check_answer (proof_checked base F proof)) T r T'

-- the text with the proof
abbrev pub CheckedIn : List ℕ → List ℕ → Lent → Reply → Lent → Type 0
CheckedIn text proof T r T' = Answers (check_answer (checked text proof)) T r T'
