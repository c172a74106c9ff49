-- `states::begin` meets its contract.
use Rattle.std.proofs.Common.{refl}
use Rattle.formula.proofs.StateLaws.{kept_begin}
use Rattle.formula.proofs.states.begin.Goals as goal

pub returns : goal.returns
returns c = (refl, record { kept = kept_begin _ c.none.ensures refl refl; room = refl })
