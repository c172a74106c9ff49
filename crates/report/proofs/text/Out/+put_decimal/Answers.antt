-- `report::text::Out::put_decimal` meets its contract: the last digit is put behind those of the tenth, or alone.
use native.Mathlib.Omega.{arith}
use Rattle.report.proofs.Laws.{digit_first, digit_fits, digit_last}
use Rattle.report.proofs.text.Out.+put_decimal.Goals as goal
use Rattle.report.proofs.text.Out.+put_decimal.Goals.{then-n-ge10, else-n-ge10}

pub put-requires : goal.put-requires
put-requires t c = elim c.if-n-ge10.branch [
  | then-n-ge10 w ↦ rw w.self-is (digit_fits c.args.n (omega arith) w.if-n-ge10.true c.requires w.put_decimal.ensures)
  | else-n-ge10 w ↦ rw w.self-is (omega arith)
]

pub returns : goal.returns
returns t c = elim c.if-n-ge10.branch [
  | then-n-ge10 w ↦ digit_last c.args.n (omega arith) w.if-n-ge10.true w.put_decimal.ensures (rw w.self-is at c.put.ensures)
  | else-n-ge10 w ↦ digit_first c.args.n w.if-n-ge10.false (rw w.self-is at c.put.ensures)
]
