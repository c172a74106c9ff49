-- `report::text::Out::put_nodes` meets its contract.
use native.Mathlib.Omega.{arith}
use Rattle.report.proofs.Falling.{falls_begin, falls_over, falls_put, falls_end}
use Rattle.report.proofs.text.Out.put_nodes.Goals as goal
use Rattle.report.proofs.text.Out.put_nodes.Goals.{then-marks-k, else-marks-k}

pub loop-k-init : goal.loop-k-init
loop-k-init c = falls_begin _ c.args.root c.args.self.now (omega arith) (omega arith)

pub loop-k-preserved : goal.loop-k-preserved
loop-k-preserved c = elim c.if-marks-k.branch [
  | then-marks-k w ↦
      rw (w.self-is, w.marks-is)
      (falls_put c.loop-k.k w.node-node.result (omega arith) c.loop-k.invariant w.if-marks-k.true w.node-node.ensures.0 w.node-node.ensures.1 w.put_node_line.ensures
      w.mark_ends.ensures)
  | else-marks-k w ↦ rw (w.self-is, w.marks-is) (falls_over c.loop-k.k (omega arith) c.loop-k.invariant w.if-marks-k.false)
]

pub returns : goal.returns
returns c = falls_end c.loop-k.k (omega arith) c.loop-k.invariant
