-- Two words have a common bit where a variable is in both.
use borrow.Author.Rules.{rules}
use Rattle.sets.specs.Values.{set_of}
use Rattle.sets.proofs.Words.{meet_word}
use Rattle.sets.proofs.Set.meets.Goals as goal

pub returns : goal.returns
unfolding set_of
returns c = meet_word c.args.self.word c.args.other.word (search rules) (search rules)
