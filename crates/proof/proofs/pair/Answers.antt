-- `proof::pair` meets its contract: low byte first.
use Rattle.std.proofs.Common.{arith}
use Rattle.rules.specs.definitions.File.{pair_at}
use Rattle.proof.proofs.pair.Goals as goal

pub returns : goal.returns
unfolding pair_at
returns c = omega (arith, c.from_le_bytes.ensures)
