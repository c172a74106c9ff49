-- `checker::game::game_of` meets its contract. The invariant: the first variables of the prefix are bound.
use Rattle.std.proofs.Common.{◌<◌, refl, sym, ap, ◌∙◌, arith}
use lib.Seq.{get_or-take, length-take-le}
use Rattle.sets.specs.Values.{set_of}
use Rattle.rules.specs.definitions.Layout.{prefix_words}
use Rattle.checker.proofs.Games.{narrow_at, prefix_fits, word_inside, word_outside, universal_room, first_next, game_whole}
use Rattle.checker.proofs.game.game_of.Goals as goal

pub slice_bounds-word-items-end : goal.slice_bounds-word-items-end
unfolding prefix_words
slice_bounds-word-items-end c = sym (length-take-le 64 c.args.prefix.now c.requires.0)

pub loop-word-init : goal.loop-word-init
loop-word-init c = record { clauses = c.begin-g.ensures.clauses; count = c.begin-g.ensures.count; existential_set = refl; bound_so = λ F P. (omega arith, c.begin-g.ensures.begun F.prefix) }

pub offset_bounds-word-items-word-index : goal.offset_bounds-word-items-word-index
unfolding prefix_words
offset_bounds-word-items-word-index c = omega (arith, length-take-le 64 c.args.prefix.now c.requires.0)

pub returns-then-word-eq0-clause-game : goal.returns-then-word-eq0-clause-game
unfolding prefix_words
returns-then-word-eq0-clause-game c = λ F s P n. let l = c.loop-word in
    game_whole F l.word-index l.g (word_outside F _ c.requires.0 P l.word-index (sym (get_or-take 64 _ l.word-index 0 (omega (arith, length-take-le 64 c.args.prefix.now c.requires.0))) ∙ c.if-word-eq0.true)) (l.invariant.count ∙ n)
    (l.invariant.existential_set ∙ ap set_of c.begin-g.ensures.existential_set ∙ c.find_existentials.ensures F P) (l.invariant.bound_so F P).1 s

pub bind-g-requires : goal.bind-g-requires
unfolding prefix_words
bind-g-requires c =
    let l = c.loop-word in
    let R = c.requires.1 in
    let i : l.word-index < 64 = omega (arith, length-take-le 64 c.args.prefix.now c.requires.0) in
    let w = get_or-take 64 c.args.prefix.now l.word-index 0 i in
    let h = word_inside R.0 _ c.requires.0 R.1 l.word-index i (λ z. c.if-word-eq0.false (w ∙ z)) in
    rw w (narrow_at R.0 _ c.requires.0 R.1 l.word-index i, omega (arith, w, c.if-word-eq0.false), universal_room R.0 _ c.requires.0 R.1 l.word-index h l.g (l.invariant.bound_so R.0 R.1).1)

pub loop-word-preserved : goal.loop-word-preserved
unfolding prefix_words
loop-word-preserved c =
    let l = c.loop-word in
    let i : l.word-index < 64 = omega (arith, length-take-le 64 c.args.prefix.now c.requires.0) in
    let w = get_or-take 64 c.args.prefix.now l.word-index 0 i in
    record {
      clauses = c.bind-g.ensures.same.clauses ∙ l.invariant.clauses;
      count = c.bind-g.ensures.same.count ∙ l.invariant.count;
      existential_set = ap set_of c.bind-g.ensures.same.existential_set ∙ l.invariant.existential_set;
      bound_so = λ F P.
          let h = word_inside F _ c.requires.0 P l.word-index i (λ z. c.if-word-eq0.false (w ∙ z)) in
          (omega arith, first_next F _ c.requires.0 P l.word-index h l.g c.bind-g.result (l.invariant.bound_so F P).1 (rw w at c.bind-g.ensures));
    }

pub returns-clause-game : goal.returns-clause-game
unfolding prefix_words
returns-clause-game c = λ F s P n. let l = c.loop-word in
    game_whole F l.word-index l.g (omega (arith, prefix_fits F _ c.requires.0 P, c.loop-word-test.false, length-take-le 64 c.args.prefix.now c.requires.0)) (l.invariant.count ∙ n)
    (l.invariant.existential_set ∙ ap set_of c.begin-g.ensures.existential_set ∙ c.find_existentials.ensures F P) (l.invariant.bound_so F P).1 s
