-- `checker::lines::resolution_line` meets its contract: the clause refused, the maps refused, or the row (Resolves).
use Rattle.std.proofs.Common.{◌≡◌, Err, rules}
use Rattle.checker.proofs.Resolves.{stopped_line, joined_line, resolving, unmapped_line, mapped_line}
use Rattle.checker.proofs.lines.resolution_line.Goals as goal

pub returns-in_err-clause : goal.returns-in_err-clause
returns-in_err-clause c = λ R F rows lent S.
    let f : c.from_residual.result ≡ Err (record { refusal = c.in_err-clause.field-0.0; variable = 0 }) = search (rules, c.from_residual.ensures) in
    rw f (stopped_line R F rows _ lent _ _ S c.args.r _ c.in_err-clause.ensures)

pub resolution_maps-requires : goal.resolution_maps-requires
resolution_maps-requires c =
    let (R, F, rows, lent, S) = c.requires in
    let J = joined_line R F rows _ lent _ _ S c.args.r _ c.in_ok-clause.ensures in
    (R, F, rows, lent.nodes, lent.roots, S.whole.game, resolving R F rows _ lent _ _ S c.args.r J.0)

pub returns-in_err-resolution_maps : goal.returns-in_err-resolution_maps
returns-in_err-resolution_maps c = λ R F rows lent S.
    let J = joined_line R F rows _ lent _ _ S c.args.r _ c.in_ok-clause.ensures in
    let f : c.from_residual-in_err-resolution_maps.result ≡ Err c.in_err-resolution_maps.field-0.0 = search (rules, c.from_residual-in_err-resolution_maps.ensures) in
    rw f (unmapped_line R F rows _ lent _ _ S c.args.r J.0 _ (c.in_err-resolution_maps.ensures R F rows lent.nodes lent.roots S.whole.game (resolving R F rows _ lent _ _ S c.args.r J.0)))

pub returns : goal.returns
returns c = λ R F rows lent S.
    let J = joined_line R F rows _ lent _ _ S c.args.r _ c.in_ok-clause.ensures in
    mapped_line R F rows _ lent _ _ S c.args.r J.0 _ _ J.1 (c.in_ok-resolution_maps.ensures R F rows lent.nodes lent.roots S.whole.game (resolving R F rows _ lent _ _ S c.args.r J.0))
