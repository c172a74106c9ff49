-- `report::text::Out::put_nodes`: what is put, with the lines of what is marked from k down, is the map's nodes.
use Rattle.maps.specs.Columns.{column_of}
use Rattle.report.proofs.Falling.{Falls}
use Rattle.report.proofs.text.Out.put_nodes.Given as goal

abbrev pub invariant-loop-k : goal.invariant-loop-k
invariant-loop-k l = Falls (column_of l.column) l.root l.initial.self l.self l.marks l.k
