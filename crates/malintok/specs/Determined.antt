-- Two replies that a service's statement allows are equal, and so is what they leave in each table.
use Rattle.std.specs.Prelude.{◌≡◌, List, ℕ}
use Rattle.std.proofs.Common.{sym, ◌∙◌}
use Rattle.rules.specs.declared.Reply.{Reply}
use Rattle.rules.specs.declared.Played.{Played}
use Rattle.rules.specs.definitions.Services.{Lent}
use Rattle.malintok.specs.Calls.{ReadCall, CheckCall, PlayCall}

pub read_determined : (text prefix clauses : List ℕ) (r s : Reply) (p q c d : List ℕ) → ReadCall text prefix clauses r p c → ReadCall text prefix clauses s q d
    → (r ≡ s) × (p ≡ q) × (c ≡ d)
read_determined text prefix clauses r s p q c d A B =
    (A.reply ∙ sym B.reply, A.prefix_left ∙ sym B.prefix_left, A.clauses_left ∙ sym B.clauses_left)

pub check_determined : (text proof : List ℕ) (T : Lent) (r s : Reply) (p p' c c' l l' n n' t t' : List ℕ) → CheckCall text proof T r p c l n t → CheckCall text proof T s p' c' l' n' t'
    → (r ≡ s) × (p ≡ p') × (c ≡ c') × (l ≡ l') × (n ≡ n') × (t ≡ t')
check_determined text proof T r s p p' c c' l l' n n' t t' A B = (
  A.reply ∙ sym B.reply,
  A.prefix_left ∙ sym B.prefix_left,
  A.clauses_left ∙ sym B.clauses_left,
  A.lines_left ∙ sym B.lines_left,
  A.nodes_left ∙ sym B.nodes_left,
  A.roots_left ∙ sym B.roots_left,
)

pub play_determined : (column root : ℕ) (nodes : List ℕ) (settings : ℕ) (r s : Played) → PlayCall column root nodes settings r → PlayCall column root nodes settings s → r ≡ s
play_determined column root nodes settings r s a b = a ∙ sym b
