-- `report::text::Out::put_accepted` meets its contract: its parts are put one behind the other.
use Rattle.rules.specs.definitions.Bytes.{text}
use Rattle.report.proofs.Laws.{then}
use Rattle.report.proofs.text.Out.put_accepted.Goals as goal

pub returns : goal.returns
unfolding text
returns c = then (then c.put.ensures c.put_decimal.ensures) c.put-2.ensures
