-- `maps::comparing::Pairing::pass`: the pass from the top is the pass of what is left from here.
use Rattle.std.specs.Prelude.{◌≡◌, true}
use Rattle.rules.specs.definitions.Comparing.{pass, whole}
use Rattle.maps.specs.Columns.{column_of}
use Rattle.maps.specs.Comparing.{held}
use Rattle.maps.proofs.comparing.Pairing.pass.Given as goal

abbrev pub invariant-loop-i : goal.invariant-loop-i
invariant-loop-i l =
    let T = column_of l.column in
    whole (pass T T l.top (held true l.fn.self)) ≡ whole (pass T T l.i (held true l.self))
