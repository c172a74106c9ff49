-- `maps::column::Column::isomorphic` meets its contract: the test begins with no partners and the pair of the roots, and the pass decides it.
use Rattle.std.proofs.Common.{sym, ap, ◌∙◌, arith}
use Rattle.rules.specs.definitions.Comparing.{whole}
use Rattle.rules.specs.definitions.Comparing.Pairing.{clash}
use Rattle.theory.specs.laws.Comparing.{pass_clash}
use Rattle.maps.specs.Columns.{column_of}
use Rattle.maps.proofs.Pairs.{none_at, from_roots}
use Rattle.maps.proofs.column.Column.isomorphic.Goals as goal

pub invariant_of-pairing : goal.invariant_of-pairing
invariant_of-pairing c = record { small = λ k. omega (arith, none_at 1024 k) }

pub returns-then-pair_up : goal.returns-then-pair_up
returns-then-pair_up c =
    c.pass.ensures
    ∙ from_roots (column_of c.args.self) c.args.r c.args.t 1024 _ c.if-pair_up.ensures

pub returns-else-pair_up : goal.returns-else-pair_up
returns-else-pair_up c =
    c.if-pair_up.false
    ∙ sym (ap whole (pass_clash (column_of c.args.self) (column_of c.args.self) c.args.r))
    ∙ from_roots (column_of c.args.self) c.args.r c.args.t 1024 clash c.if-pair_up.ensures
