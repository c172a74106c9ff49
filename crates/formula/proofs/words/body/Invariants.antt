-- `words::body` meets its contract: from each place of the loop, inside a comment or not, the same rest of the text is left.
use Rattle.std.proofs.Common.{◌≡◌, false}
use Rattle.formula.proofs.TokenLaws.{rest_at}
use Rattle.formula.proofs.words.body.Given as goal

abbrev pub invariant-loop-at : goal.invariant-loop-at
invariant-loop-at l = rest_at l.inside l.text l.at ≡ rest_at false l.text 0
