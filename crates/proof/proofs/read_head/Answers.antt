-- `proof::read_head` meets its contract: each return by the first of the head's tests that fails (Marks).
use Rattle.std.proofs.Common.{sym, ap, ◌∙◌, not, inl, inr, arith}
use Rattle.proof.proofs.Marks.{marked_long, head_unmarked, head_length, head_few, head_lines}
use Rattle.proof.proofs.read_head.Goals as goal

pub returns-then-not-marked : goal.returns-then-not-marked
returns-then-not-marked c = λ k. sym (head_unmarked k _ (sym c.marked.ensures ∙ ap not c.if-not-marked.true))

pub pair-n-requires : goal.pair-n-requires
pair-n-requires c = marked_long _ (sym c.marked.ensures ∙ ap not c.if-not-marked.false)

pub returns-then-proof-n : goal.returns-then-proof-n
returns-then-proof-n c = λ k. sym (head_length k _ (sym c.marked.ensures ∙ ap not c.if-not-marked.false) (λ p. c.if-proof-n.true (omega (arith, c.pair-n.ensures))))

pub returns-then-n-lt1 : goal.returns-then-n-lt1
returns-then-n-lt1 c = λ k. sym (head_few k _ (sym c.marked.ensures ∙ ap not c.if-not-marked.false) (omega (arith, c.pair-n.ensures)) (elim c.then-n-lt1.either [ inl h ↦ inl (omega (arith, c.pair-n.ensures)) | inr h ↦ inr (omega (arith, c.pair-n.ensures)) ]))

pub returns : goal.returns
returns c = λ k. rw c.pair-n.ensures (sym (head_lines k _ (sym c.marked.ensures ∙ ap not c.if-not-marked.false) (omega (arith, c.pair-n.ensures)) (omega (arith, c.pair-n.ensures)) (omega (arith, c.pair-n.ensures))))
