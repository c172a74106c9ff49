-- A word is 0 where no variable is in it.
use borrow.Author.Rules.{rules}
use Rattle.sets.specs.Values.{set_of}
use Rattle.sets.proofs.Words.{empty_word}
use Rattle.sets.proofs.Set.is_empty.Goals as goal

pub returns : goal.returns
unfolding set_of
returns c = empty_word c.args.self.word (search rules)
