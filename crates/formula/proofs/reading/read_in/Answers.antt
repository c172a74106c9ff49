-- `reading::read_in` meets its contract: cleared tables, filled by the tokens, and cleared again where these are refused.
use Rattle.std.proofs.Common.{sym, ◌∙◌}
use Rattle.formula.proofs.ReadingLaws.{left_refused, left_formula}
use Rattle.formula.proofs.reading.read_in.Goals as goal

pub returns-then-is_err-clause-left : goal.returns-then-is_err-clause-left
returns-then-is_err-clause-left c =
    left_refused c.args.text.now _ _ _ _ _ _ c.body-from.result c.read_tokens-read.result c.clear.ensures.prefix c.clear.ensures.clauses c.body-from.ensures.0 c.read_tokens-read.ensures.filled _ _
    (sym c.is_err.ensures.value ∙ c.if-is_err.true) c.clear-then-is_err.ensures.prefix c.clear-then-is_err.ensures.clauses

pub returns-else-is_err-clause-left : goal.returns-else-is_err-clause-left
returns-else-is_err-clause-left c =
    left_formula c.args.text.now _ _ _ _ _ _ c.body-from.result c.read_tokens-read.result c.clear.ensures.prefix c.clear.ensures.clauses c.body-from.ensures.0 c.read_tokens-read.ensures.filled
    (sym c.is_err.ensures.value ∙ c.if-is_err.false)
