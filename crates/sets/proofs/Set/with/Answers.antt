-- Setting a bit adds its variable.
use Prim.Native.Nat.{◌-◌}
use native.Mathlib.Omega.{arith}
use Rattle.sets.specs.Values.{set_of}
use Rattle.sets.proofs.Words.{one_shl, with_word}
use Rattle.sets.proofs.Set.with.Goals as goal

pub returns : goal.returns
unfolding set_of
returns c = rw (one_shl (c.args.v - 1) (omega arith)) (with_word c.args.self.word c.args.v (omega arith) (omega arith))
