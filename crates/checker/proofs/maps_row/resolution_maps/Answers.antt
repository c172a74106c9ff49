-- `checker::maps_row::resolution_maps` meets its contract. The invariant: the first j universals have no fault, and the rows hold their words.
use Rattle.std.proofs.Common.{◌≡◌, ◌<◌, length, get_or, take, Err, arith, rules}
use lib.ListN.{length-take}
use lib.Seq.{get_or-take}
use Rattle.rules.specs.definitions.Formula.{universals}
use Rattle.checker.specs.Game.{nobody}
use Rattle.checker.proofs.Faulted.{error_from, value_from}
use Rattle.checker.proofs.MapRows.{done_none, done_more, done_fails, done_all, game_left, game_variable}
use Rattle.checker.proofs.maps_row.resolution_maps.Goals as goal

pub loop-j-init : goal.loop-j-init
loop-j-init c = λ R F rows nodes₀ roots₀ G S. done_none R F rows c.args.r c.args.i

pub returns-in_err-e : goal.returns-in_err-e
returns-in_err-e c = λ R F rows nodes₀ roots₀ G S.
    let l = c.loop-j in
    let g = c.args.g.now in
    let i : l.j < g.universal_count = omega (arith, c.loop-j-test.true, length-take g.universal_count g.universals) in
    let w = get_or-take g.universal_count g.universals l.j nobody i in
    let h : l.j < length (universals F.prefix) = omega (arith, i, G.universal_count) in
    let z = error_from c.map_entry.result c.map_err.result _ c.map_err.ensures.cases _ c.in_err-e.was in
    let f : c.from_residual.result ≡ Err c.in_err-e.field-0.0 = search (rules, c.from_residual.ensures) in
    let y : (c.in_err-e.field-0.0 ≡ record { refusal = z.0; variable = (get_or (take g.universal_count g.universals) l.j nobody).variable }) = search (rules, z.2) in
    rw (f, y) (done_fails R F rows c.args.r c.args.i l.j l.row.nodes l.row.roots (l.invariant R F rows nodes₀ roots₀ G S) h z.0
    (rw z.1 at (c.map_entry.ensures R F rows nodes₀ roots₀ (rw w (game_left R F g G l.j i)) S)) _ (rw w (game_variable R F g G l.j h)))

pub loop-j-preserved : goal.loop-j-preserved
loop-j-preserved c = λ R F rows nodes₀ roots₀ G S.
    let l = c.loop-j in
    let g = c.args.g.now in
    let i : l.j < g.universal_count = omega (arith, c.loop-j-test.true, length-take g.universal_count g.universals) in
    let w = get_or-take g.universal_count g.universals l.j nobody i in
    let h : l.j < length (universals F.prefix) = omega (arith, i, G.universal_count) in
    let z = value_from c.map_entry.result c.map_err.result _ c.map_err.ensures.cases _ c.in_ok-e.was in
    done_more R F rows c.args.r c.args.i l.j l.row.nodes l.row.roots (l.invariant R F rows nodes₀ roots₀ G S) h S.proper.universals _
    (rw z at (c.map_entry.ensures R F rows nodes₀ roots₀ (rw w (game_left R F g G l.j i)) S))

pub returns : goal.returns
returns c = λ R F rows nodes₀ roots₀ G S.
    done_all R F rows c.args.r c.args.i c.loop-j.j _ _ (c.loop-j.invariant R F rows nodes₀ roots₀ G S) (omega (arith, c.loop-j-test.false, G.universal_count))
