-- `report::text::Out::put_node_line` meets its contract: its parts are put one behind the other.
use Rattle.report.proofs.Laws.{then}
use Rattle.report.proofs.text.Out.put_node_line.Goals as goal

pub returns : goal.returns
returns c = then (then c.put_decimal.ensures c.put_node.ensures) c.put.ensures
