-- `checker::game::Game::begin` meets its contract.
use mathlib.Core.Path.{refl}
use Rattle.checker.proofs.Games.{none_bound}
use Rattle.checker.proofs.game.Game.begin.Goals as goal

pub returns : goal.returns
returns c = record { clauses = refl; count = refl; existential_set = refl; begun = λ Q. none_bound Q _ refl refl refl c.none-2.ensures }
