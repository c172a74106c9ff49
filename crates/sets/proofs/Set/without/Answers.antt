-- Clearing a bit takes its variable out.
use Prim.Native.Nat.{◌-◌}
use native.Mathlib.Omega.{arith}
use Rattle.sets.specs.Values.{set_of}
use Rattle.sets.proofs.Words.{one_shl, without_word}
use Rattle.sets.proofs.Set.without.Goals as goal

pub returns : goal.returns
unfolding set_of
returns c = rw (one_shl (c.args.v - 1) (omega arith)) (without_word c.args.self.word c.args.v (omega arith) (omega arith))
