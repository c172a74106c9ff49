-- The word at the place becomes the set, the others stay.
use native.Mathlib.Omega.{arith}
use Rattle.sets.specs.Values.{set_of}
use Rattle.sets.proofs.Words.{one_word, word_written}
use Rattle.sets.proofs.Set.write.Goals as goal

pub bounds-row-place : goal.bounds-row-place
bounds-row-place c = omega (arith, one_word)

pub returns : goal.returns
unfolding set_of
returns c = word_written c.args.row.now c.args.place c.args.self.word (omega (arith, one_word))
