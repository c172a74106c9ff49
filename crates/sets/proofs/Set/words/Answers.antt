-- A set is one word.
use Rattle.sets.proofs.Words.{one_word}
use Rattle.sets.proofs.Set.words.Goals as goal

pub returns : goal.returns
returns c = one_word
