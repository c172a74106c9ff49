-- `checker::lines::make_line` meets its contract: by what the record decodes to (Nexts).
use Rattle.std.proofs.Common.{◌≡◌, sym, ap, ◌∙◌, Ok, Err, rules}
use Rattle.checker.proofs.Nexts.{next_refused, next_made}
use Rattle.checker.proofs.lines.make_line.Goals as goal

pub returns-in_err-c : goal.returns-in_err-c
returns-in_err-c c = λ R F rows lent S.
    let f : c.from_residual.result ≡ Err (record { refusal = c.in_err-c.field-0.0; variable = 0 }) = search (rules, c.from_residual.ensures) in
    rw f (next_refused R F S.whole.game.decodes rows _ _ (sym c.in_err-c.ensures))

pub returns-in_err-axiom_line-in-Axiom : goal.returns-in_err-axiom_line-in-Axiom
returns-in_err-axiom_line-in-Axiom c = λ R F rows lent S.
    let k = c.in_err-axiom_line-in-Axiom in
    let f : c.from_residual-in_err-axiom_line-in-Axiom.result ≡ Err (record { refusal = k.field-0.0; variable = 0 }) = search (rules, c.from_residual-in_err-axiom_line-in-Axiom.ensures) in
    rw f (next_made R F S.whole.game.decodes rows _ _ _ S.line (sym c.in_ok-c.ensures ∙ ap Ok c.in-Axiom.is) _ (k.ensures R F rows S.whole))

pub returns-in_ok-axiom_line-in-Axiom : goal.returns-in_ok-axiom_line-in-Axiom
returns-in_ok-axiom_line-in-Axiom c = λ R F rows lent S.
    next_made R F S.whole.game.decodes rows _ _ _ S.line (sym c.in_ok-c.ensures ∙ ap Ok c.in-Axiom.is) _ (c.in_ok-axiom_line-in-Axiom.ensures R F rows S.whole)

pub returns-in-Resolve : goal.returns-in-Resolve
returns-in-Resolve c = λ R F rows lent S.
    next_made R F S.whole.game.decodes rows _ _ _ S.line (sym c.in_ok-c.ensures ∙ ap Ok c.in-Resolve.is) _ (c.resolution_line.ensures R F rows lent S)
