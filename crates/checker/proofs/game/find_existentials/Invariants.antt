-- `checker::game::find_existentials` meets its contract. The invariant: the words still to come are the first of the prefix, and the set is that of the existential variables behind them.
use Rattle.std.proofs.Common.{◌≡◌, ◌≤◌, length, take, drop}
use Rattle.rules.specs.definitions.Layout.{prefix_words}
use Rattle.rules.specs.definitions.Formula.{Formula, existentials}
use Rattle.sets.specs.Values.{set_of}
use Rattle.checker.specs.Game.{Prefixed}
use Rattle.checker.proofs.game.find_existentials.Given as goal

abbrev pub invariant-loop-word : goal.invariant-loop-word
invariant-loop-word l = record {
  few : length l.word-iterator.iter.rest.now ≤ prefix_words;
  first : l.word-iterator.iter.rest.now ≡ take (length l.word-iterator.iter.rest.now) l.prefix;
  so_far : (F : Formula) → Prefixed F l.prefix → set_of l.s ≡ existentials (drop (length l.word-iterator.iter.rest.now) F.prefix);
}
