-- What reading a text answers and leaves in the tables, by what the text reads to (01, Formula text).
use Rattle.std.specs.Prelude.{◌≡◌, refl, List, map, ℕ, ◌≤◌, length, Result, Ok, Err}
use Rattle.std.proofs.Common.{ap}
use Rattle.rules.specs.declared.Reply.{Reply}
use Rattle.rules.specs.declared.refusals.Refused.{Refused}
use Rattle.rules.specs.definitions.Refusals.{refusal_number}
use Rattle.rules.specs.definitions.Layout.{prefix_words, clause_words}
use Rattle.rules.specs.definitions.Limits.{variables_most}
use Rattle.rules.specs.definitions.Formula.{Bound, Clause, Formula, universals}
use Rattle.rules.specs.definitions.Reading as definition
use Rattle.rules.specs.definitions.Reading.{Reading, read}
use Rattle.rules.specs.definitions.Reading.Reading.{unread, formula}
use Rattle.rules.specs.definitions.Tables.{bound_word, clause_row, rows_of, holding, prefix_after, clauses_after}
use Rattle.rules.specs.definitions.Services.{refusal, read_answer}
use Rattle.formula.specs.declared.states.State.{State}
use Rattle.formula.specs.declared.reading.Counts.{Counts}
use Rattle.formula.specs.States.{state_of, Stands}

-- ---- the answer: a refusal's number with its offset; or V, clause count and universal count
abbrev pub Told : Reading → Result Counts Refused → Type 0
Told (unread k at) (Err e) = (refusal_number e.refusal ≡ k) × (e.place ≡ at) × (e.variable ≡ 0)
Told (unread k at) (Ok c) = ⊥
Told (formula F) (Err e) = ⊥
Told (formula F) (Ok c) = c ≡ record { variables = F.variables; clauses = length F.matrix; universals = length (universals F.prefix) }

-- 01's number and values for each answer
abbrev pub reply_of : Result Counts Refused → Reply
reply_of (Err e) = refusal (refusal_number e.refusal) e.place e.variable
reply_of (Ok c) = record { number = 0; place = 0; variable = 0; variables = c.variables; clauses = c.clauses; universals = c.universals; lines = 0 }

-- they are the reading service's
pub told_reply : (R : Reading) (r : Result Counts Refused) → Told R r → reply_of r ≡ (read_answer R).reply
told_reply (unread k at) (Err e) t = rw (t.0, t.1, t.2)
told_reply (unread k at) (Ok c) t = absurd t
told_reply (formula F) (Err e) t = absurd t
told_reply (formula F) (Ok c) t = rw t

-- an answer tells what the text reads to
pub told_refused : (R : Reading) (e : Refused) → Told R (Err e) → (R ≡ unread (refusal_number e.refusal) e.place) × (e.variable ≡ 0)
told_refused (unread k at) e t = (rw (t.0, t.1), t.2)
told_refused (formula F) e t = absurd t

pub told_formula : (R : Reading) (c : Counts) → Told R (Ok c)
    → (F : Formula) × (R ≡ formula F) × (c.variables ≡ F.variables) × (c.clauses ≡ length F.matrix) × (c.universals ≡ length (universals F.prefix))
told_formula (unread k at) c t = absurd t
told_formula (formula F) c t = (F, refl, ap (λ (n : Counts). n.variables) t, ap (λ (n : Counts). n.clauses) t, ap (λ (n : Counts). n.universals) t)

-- ---- steps on the way
-- whatever blocks and clauses s stands for, the text's end gives what the definitions give
abbrev pub Ends : State → (definition.State → Reading) → Result Counts Refused → Type 0
Ends s end r = (bs : List Bound) (cs : List Clause) → Stands s bs cs → Told (end (state_of s bs cs)) r

-- the tables after the tokens: they hold blocks and clauses, which are the formula's where one is read
pub record Filled (R : Reading) (prefix clauses prefix' clauses' : List ℕ) (r : Result Counts Refused) : Type 0 where
  pub blocks : List Bound
  pub matrix : List Clause
  pub told : Told R r
  pub whole : (F : Formula) → R ≡ formula F → (F.prefix ≡ blocks) × (F.matrix ≡ matrix)
  pub few_blocks : length blocks ≤ variables_most
  pub few_clauses : length (rows_of clause_row matrix) ≤ clause_words
  pub prefix_held : prefix' ≡ holding prefix_words (map bound_word blocks) prefix
  pub clauses_held : clauses' ≡ holding clause_words (rows_of clause_row matrix) clauses

-- ---- the whole: the answer, and both tables
pub record Left (text prefix clauses prefix' clauses' : List ℕ) (r : Result Counts Refused) : Type 0 where
  pub told : Told (read text) r
  pub prefix_left : prefix' ≡ prefix_after (read_answer (read text)).leaves prefix
  pub clauses_left : clauses' ≡ clauses_after (read_answer (read text)).leaves clauses
