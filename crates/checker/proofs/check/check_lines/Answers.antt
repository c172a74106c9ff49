-- `check::check_lines` meets its contract: a line refused, the last clause empty, or 32 (Checkings).
use Rattle.std.proofs.Common.{◌≡◌, Err, sym, ◌∙◌, rules}
use Rattle.rules.specs.definitions.Checking.{base, rules_of}
use Rattle.checker.proofs.Checkings.{whole_formula, lines_stopped, lines_passed, last_accepted, last_rejected}
use Rattle.checker.proofs.check.check_lines.Goals as goal

pub returns-in_err-run-clause-checks : goal.returns-in_err-run-clause-checks
returns-in_err-run-clause-checks c = λ F I.
    let proof = c.args.proof.now in
    let W = whole_formula c.args.prefix.now c.args.count c.args.clauses.now c.requires.2 c.game_of-g.result c.game_of-g.ensures.game c.game_of-g.ensures.clauses proof F I in
    let f : c.from_residual.result ≡ Err c.in_err-run.field-0.0 = search (rules, c.from_residual.ensures) in
    rw f (lines_stopped F c.args.n proof _ _ _ (c.in_err-run.ensures.ran (rules_of base F proof) F W))

pub returns-then-not-is_empty-clause-checks : goal.returns-then-not-is_empty-clause-checks
returns-then-not-is_empty-clause-checks c = λ F I.
    let proof = c.args.proof.now in
    let W = whole_formula c.args.prefix.now c.args.count c.args.clauses.now c.requires.2 c.game_of-g.result c.game_of-g.ensures.game c.game_of-g.ensures.clauses proof F I in
    let A = lines_passed F c.args.n proof _ _ (c.in_ok-run.ensures.ran (rules_of base F proof) F W) in
    rw c.at.ensures (last_rejected F c.args.n proof _ _ A c.requires.0.from I.proper _ c.clause.ensures (sym c.is_empty.ensures ∙ c.if-not-is_empty.true))

pub returns-clause-checks : goal.returns-clause-checks
returns-clause-checks c = λ F I.
    let proof = c.args.proof.now in
    let W = whole_formula c.args.prefix.now c.args.count c.args.clauses.now c.requires.2 c.game_of-g.result c.game_of-g.ensures.game c.game_of-g.ensures.clauses proof F I in
    let A = lines_passed F c.args.n proof _ _ (c.in_ok-run.ensures.ran (rules_of base F proof) F W) in
    last_accepted F c.args.n proof _ _ A c.requires.0.from _ c.clause.ensures (sym c.is_empty.ensures ∙ c.if-not-is_empty.false)
