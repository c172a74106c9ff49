-- `report::text::Out::put_branch` meets its contract: its parts are put one behind the other.
use Rattle.rules.specs.definitions.Bytes.{text}
use Rattle.report.proofs.Laws.{then}
use Rattle.report.proofs.text.Out.put_branch.Goals as goal

pub returns : goal.returns
unfolding text
returns c =
    then c.put.ensures
    (then c.put_decimal.ensures
    (then c.put-2.ensures
    (then c.put_decimal-2.ensures
    (then c.put-3.ensures c.put_decimal-3.ensures))))
