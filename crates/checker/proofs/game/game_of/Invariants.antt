-- `checker::game::game_of` meets its contract. The invariant: the first variables of the prefix are bound.
use Rattle.std.proofs.Common.{◌≡◌, ◌≤◌, length}
use Rattle.rules.specs.definitions.Formula.{Formula}
use Rattle.sets.specs.Values.{set_of}
use Rattle.checker.specs.Game.{Prefixed, BoundFirst}
use Rattle.checker.proofs.game.game_of.Given as goal

abbrev pub invariant-loop-word : goal.invariant-loop-word
invariant-loop-word l = record {
  clauses : l.g.clauses.now ≡ l.clauses;
  count : l.g.count ≡ l.count;
  existential_set : set_of l.g.existentials ≡ set_of l.initial.g.existentials;
  bound_so : (F : Formula) → Prefixed F l.prefix → (l.word-index ≤ length F.prefix) × BoundFirst F.prefix l.word-index l.g;
}
