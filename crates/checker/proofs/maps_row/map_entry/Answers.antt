-- `checker::maps_row::map_entry` meets its contract: the parents' roots are the rows', and the answer is the merge's or select's (MapRows).
use mathlib.Core.Path.{sym, ◌∙◌}
use Rattle.checker.proofs.MapRows.{line_place, merge_asks, select_asks, column_asks, merge_gets, select_gets}
use Rattle.checker.proofs.maps_row.map_entry.Goals as goal

pub root_of-a-requires : goal.root_of-a-requires
root_of-a-requires c =
    let p = c.requires in
    line_place p.0 p.1 p.2 c.args.nodes.now p.3 c.args.roots.now p.4 c.args.r c.args.i p.6 c.args.j p.5.offset c.args.r.a p.6.a_earlier

pub root_of-b-requires : goal.root_of-b-requires
root_of-b-requires c =
    let p = c.requires in
    line_place p.0 p.1 p.2 c.args.nodes.now p.3 c.args.roots.now p.4 c.args.r c.args.i p.6 c.args.j p.5.offset c.args.r.b p.6.b_earlier

pub merge_entry-requires : goal.merge_entry-requires
merge_entry-requires c =
    let p = c.requires in
    merge_asks p.0 p.1 p.2 c.args.nodes.now p.3 c.args.roots.now p.4 c.args.r c.args.i p.6 c.args.j p.5.offset _ _
    c.root_of-a.ensures
    c.root_of-b.ensures

pub returns-then-is_chosen : goal.returns-then-is_chosen
returns-then-is_chosen c = λ R F rows nodes₀ roots₀ L S.
    merge_gets R F rows c.args.nodes.now nodes₀ c.args.roots.now roots₀ c.args.r c.args.i S c.args.j L.offset _ _
    c.root_of-a.ensures
    c.root_of-b.ensures
    c.args.left
    L
    c.merge_entry.result
    (sym c.is_chosen.ensures ∙ c.if-is_chosen.true)
    c.merge_entry.ensures

pub select_entry-requires : goal.select_entry-requires
select_entry-requires c =
    let p = c.requires in
    select_asks p.0 p.1 p.2 c.args.nodes.now p.3 c.args.roots.now p.4 c.args.r c.args.i p.6 c.args.j p.5.offset _ _
    c.root_of-a.ensures
    c.root_of-b.ensures

pub invariant_of-select_entry : goal.invariant_of-select_entry
invariant_of-select_entry c =
    let p = c.requires in
    let q : _ = column_asks p.0 p.1 p.2 c.args.nodes.now p.3 c.args.roots.now p.4 c.args.r c.args.i p.6 c.args.j p.5.offset in
    record { long = q.0; in_range = q.1 }

pub returns : goal.returns
returns c = λ R F rows nodes₀ roots₀ L S.
    select_gets R F rows c.args.nodes.now nodes₀ c.args.roots.now roots₀ c.args.r c.args.i S c.args.j L.offset _ _
    c.root_of-a.ensures
    c.root_of-b.ensures
    c.select_entry.result
    (sym c.is_chosen.ensures ∙ c.if-is_chosen.false)
    c.select_entry.ensures
