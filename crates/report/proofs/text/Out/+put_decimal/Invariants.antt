-- `report::text::Out::put_decimal`: the number is the measure, since a tenth of it is smaller.
use Rattle.report.proofs.text.Out.+put_decimal.Given as goal

abbrev pub decreases-put_decimal : goal.decreases-put_decimal
decreases-put_decimal l = l.n
