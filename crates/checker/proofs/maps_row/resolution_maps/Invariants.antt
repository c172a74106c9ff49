-- `checker::maps_row::resolution_maps` meets its contract. The invariant: the first j universals have no fault, and the rows hold their words.
use Rattle.checker.specs.Game.{GameOf}
use Rattle.checker.specs.MapRows.{EachResolving}
use Rattle.checker.proofs.MapRows.{Done}
use Rattle.checker.proofs.maps_row.resolution_maps.Given as goal

abbrev pub invariant-loop-j : goal.invariant-loop-j
invariant-loop-j l = EachResolving (λ R F. GameOf R F l.g) l.nodes l.roots l.r l.i (λ R F rows. Done R F rows l.r l.i l.j l.row.nodes l.row.roots)
