-- `numbers::sized` meets its contract: from each digit on, with the size so far, the same number comes.
use Rattle.std.proofs.Common.{◌≡◌, ◌≤◌, drop}
use Rattle.rules.specs.definitions.Limits.{number_most}
use Rattle.rules.specs.definitions.Text.{sized}
use Rattle.formula.proofs.numbers.sized.Given as goal

abbrev pub invariant-loop-b : goal.invariant-loop-b
invariant-loop-b l = (l.n ≤ number_most) × (sized l.negated l.n (drop l.b-index l.digits) ≡ sized l.negated l.first l.digits)
