-- `report::text::Out::put_maps` meets its contract.
use Rattle.std.proofs.Common.{rules, take, ltb, length}
use lib.ListN.{length-append}
use native.Mathlib.Omega.{arith}
use borrow.Author.Tests.{tests}
use Rattle.rules.specs.definitions.Layout.{universal_mark, map_words}
use Rattle.std.proofs.lemmas.Iterator.{YieldsList-from_slice}
use Rattle.std.proofs.lemmas.Iterator.Consumers.{YieldsList-from_filter, YieldsList-from_enumerate, YieldsList-at, YieldsList-turn, YieldsList-end}
use Rattle.std.proofs.lemmas.List.FromFn.{length-enumerate_from}
use Rattle.report.proofs.Maps.{universals, item, mapped_begin, mapped_ready, mapped_put, mapped_end}
use Rattle.report.proofs.text.Out.put_maps.Goals as goal

pub loop-j-init : goal.loop-j-init
loop-j-init c = mapped_begin c.requires.0.ready

pub bounds-roots-row : goal.bounds-roots-row
bounds-roots-row c =
    let e =
    YieldsList-turn
    (YieldsList-at c.into_iter-j-iterator.ensures.into_iter_gives
    (YieldsList-from_enumerate
    (YieldsList-at c.enumerate-j-items.ensures.source
    (YieldsList-from_filter _ (λ w. ltb universal_mark w) (YieldsList-from_slice (take 64 c.args.prefix.now) (cc)) c.filter.ensures.closure (λ x r q k. search (rules, tests))))
    (cc)))
    c.loop-j.yielded c.loop-j.j-iterator c.loop-j.yielded_by c.next.result c.next.new.self (c.in-Some.j, c.in-Some.word) c.in-Some.is c.next.ensures.steps
    in
    let t = item (take 64 c.args.prefix.now) (length c.loop-j.yielded) c.in-Some.j c.in-Some.word.now e.0 e.1 in
    let r = mapped_ready c.loop-j.invariant c.in-Some.word.now t.0 t.1.1.0 t.1.1.1 in
    omega (arith, t.1.0, r.0.0)

pub invariant_of-column : goal.invariant_of-column
unfolding map_words
invariant_of-column c =
    let e =
    YieldsList-turn
    (YieldsList-at c.into_iter-j-iterator.ensures.into_iter_gives
    (YieldsList-from_enumerate
    (YieldsList-at c.enumerate-j-items.ensures.source
    (YieldsList-from_filter _ (λ w. ltb universal_mark w) (YieldsList-from_slice (take 64 c.args.prefix.now) (cc)) c.filter.ensures.closure (λ x r q k. search (rules, tests))))
    (cc)))
    c.loop-j.yielded c.loop-j.j-iterator c.loop-j.yielded_by c.next.result c.next.new.self (c.in-Some.j, c.in-Some.word) c.in-Some.is c.next.ensures.steps
    in
    let t = item (take 64 c.args.prefix.now) (length c.loop-j.yielded) c.in-Some.j c.in-Some.word.now e.0 e.1 in
    let r = mapped_ready c.loop-j.invariant c.in-Some.word.now t.0 t.1.1.0 t.1.1.1 in
    record { long = c.requires.0.nodes_long; in_range = rw t.1.0 r.0.0 }

pub put_map-requires : goal.put_map-requires
put_map-requires c =
    let e =
    YieldsList-turn
    (YieldsList-at c.into_iter-j-iterator.ensures.into_iter_gives
    (YieldsList-from_enumerate
    (YieldsList-at c.enumerate-j-items.ensures.source
    (YieldsList-from_filter _ (λ w. ltb universal_mark w) (YieldsList-from_slice (take 64 c.args.prefix.now) (cc)) c.filter.ensures.closure (λ x r q k. search (rules, tests))))
    (cc)))
    c.loop-j.yielded c.loop-j.j-iterator c.loop-j.yielded_by c.next.result c.next.new.self (c.in-Some.j, c.in-Some.word) c.in-Some.is c.next.ensures.steps
    in
    let t = item (take 64 c.args.prefix.now) (length c.loop-j.yielded) c.in-Some.j c.in-Some.word.now e.0 e.1 in
    let r = mapped_ready c.loop-j.invariant c.in-Some.word.now t.0 t.1.1.0 t.1.1.1 in
    let i = c.loop-j.invariant in
    (rw t.1.0 r.0.1, omega (arith, r.0.0, i.put.within, i.put.next_is, i.put.same_length))

pub loop-j-preserved : goal.loop-j-preserved
loop-j-preserved c =
    let e =
    YieldsList-turn
    (YieldsList-at c.into_iter-j-iterator.ensures.into_iter_gives
    (YieldsList-from_enumerate
    (YieldsList-at c.enumerate-j-items.ensures.source
    (YieldsList-from_filter _ (λ w. ltb universal_mark w) (YieldsList-from_slice (take 64 c.args.prefix.now) (cc)) c.filter.ensures.closure (λ x r q k. search (rules, tests))))
    (cc)))
    c.loop-j.yielded c.loop-j.j-iterator c.loop-j.yielded_by c.next.result c.next.new.self (c.in-Some.j, c.in-Some.word) c.in-Some.is c.next.ensures.steps
    in
    let t = item (take 64 c.args.prefix.now) (length c.loop-j.yielded) c.in-Some.j c.in-Some.word.now e.0 e.1 in
    rw length-append (mapped_put c.loop-j.invariant c.in-Some.word.now t.0 t.1.1.0 t.1.1.1 (rw t.1.0 at c.put_map.ensures))

pub returns : goal.returns
returns c =
    let e =
    YieldsList-end
    (YieldsList-at c.into_iter-j-iterator.ensures.into_iter_gives (YieldsList-from_enumerate
    (YieldsList-at c.enumerate-j-items.ensures.source
    (YieldsList-from_filter _ (λ w. ltb universal_mark w) (YieldsList-from_slice (take 64 c.args.prefix.now) (cc)) c.filter.ensures.closure (λ x r q k. search (rules, tests))))
    (cc)))
    c.loop-j.yielded c.loop-j.j-iterator c.loop-j.yielded_by c.next.result c.next.new.self c.in-None.is c.next.ensures.steps
    in
    mapped_end c.loop-j.invariant (omega (arith, e.1, length-enumerate_from 0 (universals (take 64 c.args.prefix.now))))
