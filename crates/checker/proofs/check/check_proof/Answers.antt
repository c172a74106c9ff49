-- `check::check_proof` meets its contract: the head refused, or its lines checked (Checkings).
use Rattle.std.proofs.Common.{◌≡◌, Err, refl, sym, ap, ◌∙◌, rules}
use Rattle.rules.specs.definitions.Refusals.{numbered}
use Rattle.checker.proofs.Faulted.{error_from, value_from}
use Rattle.checker.proofs.Checkings.{head_rejected, head_passed}
use Rattle.checker.proofs.check.check_proof.Goals as goal

pub returns-in_err-n-clause-checks : goal.returns-in_err-n-clause-checks
returns-in_err-n-clause-checks c = λ F I.
    let z = error_from c.read_head.result c.map_err.result _ c.map_err.ensures.cases _ c.in_err-n.was in
    let y : (c.in_err-n.field-0.0 ≡ record { refusal = z.0; place = 0; variable = 0 }) = search (rules, z.2) in
    let f : c.from_residual.result ≡ Err c.in_err-n.field-0.0 = search (rules, c.from_residual.ensures) in
    rw (f, y, head_rejected F _ z.0 (ap numbered (sym z.1) ∙ c.read_head.ensures F)) (refl, refl, refl, record { lines_past = refl; nodes_past = refl; roots_past = refl })

pub check_lines-requires : goal.check_lines-requires
check_lines-requires c =
    let X = c.requires.1 in
    let z = value_from c.read_head.result c.map_err.result _ c.map_err.ensures.cases _ c.in_ok-n.was in
    ((head_passed X.some.0 _ _ (ap numbered (sym z) ∙ c.read_head.ensures X.some.0)).1, c.requires.0, X)

pub returns-clause-checks : goal.returns-clause-checks
returns-clause-checks c = λ F I.
    let z = value_from c.read_head.result c.map_err.result _ c.map_err.ensures.cases _ c.in_ok-n.was in
    rw (head_passed F _ _ (ap numbered (sym z) ∙ c.read_head.ensures F)).0 (c.check_lines.ensures.checks F I)
