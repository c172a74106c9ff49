-- `proof::marked` meets its contract: of 7 bytes the mark and the version decide (Marks).
use Rattle.std.proofs.Common.{sym, ap, ◌∙◌, not}
use Rattle.proof.proofs.Marks.{short_unmarked, marked_by, unmarked_by}
use Rattle.proof.proofs.marked.Goals as goal

pub returns-then-proof-lt-HEAD_BYTES : goal.returns-then-proof-lt-HEAD_BYTES
returns-then-proof-lt-HEAD_BYTES c = short_unmarked _ c.if-proof-lt-HEAD_BYTES.true

pub returns-then-starts_with : goal.returns-then-starts_with
returns-then-starts_with c = marked_by _ _ c.if-proof-lt-HEAD_BYTES.false (sym c.starts_with.ensures.value ∙ c.if-starts_with.true) c.pair.ensures

pub returns-else-starts_with : goal.returns-else-starts_with
returns-else-starts_with c = ap not c.if-starts_with.false ∙ unmarked_by _ c.if-proof-lt-HEAD_BYTES.false (sym c.starts_with.ensures.value ∙ c.if-starts_with.false)
