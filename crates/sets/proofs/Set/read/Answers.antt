-- The word at the place is the set.
use native.Mathlib.Omega.{arith}
use Rattle.sets.specs.Values.{set_of}
use Rattle.sets.proofs.Words.{one_word, word_read}
use Rattle.sets.proofs.Set.read.Goals as goal

pub bounds-row-place : goal.bounds-row-place
bounds-row-place c = omega (arith, one_word)

pub returns : goal.returns
unfolding set_of
returns c = word_read c.args.row.now c.args.place (omega (arith, one_word))
