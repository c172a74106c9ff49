-- `report::text::Out::put_map` meets its contract: the head, then the nodes.
use native.Mathlib.Omega.{arith}
use Rattle.rules.specs.definitions.Report.{map_lines}
use Rattle.report.proofs.Laws.{then, wider}
use Rattle.report.proofs.text.Out.put_map.Goals as goal

pub returns : goal.returns
unfolding map_lines
returns c = wider (omega (arith, c.requires.0.1)) (then c.put_map_head.ensures c.put_nodes.ensures)
