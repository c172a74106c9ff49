-- `checker::game::find_existentials` meets its contract. The invariant: the words still to come are the first of the prefix, and the set is that of the existential variables behind them.
use Rattle.std.proofs.Common.{◌≡◌, length, take, sym, ap, ◌∙◌, rules, arith}
use lib.Seq.{length-take-le}
use Rattle.rules.specs.definitions.Layout.{prefix_words}
use Rattle.checker.proofs.Games.{narrow_at, last_taken, existentials_end, existentials_from}
use Rattle.checker.proofs.game.find_existentials.Goals as goal

pub loop-word-init : goal.loop-word-init
unfolding prefix_words
loop-word-init c =
    let ws = c.into_iter-word-iterator.result.iter.rest.now in
    let e : ws ≡ take prefix_words c.args.prefix.now = search rules in
    let n : length ws ≡ prefix_words = ap length e ∙ length-take-le prefix_words c.args.prefix.now c.requires.0 in
    record {
      few = omega (arith, n);
      first = rw n e;
      so_far = λ F P. rw n (c.none-s.ensures ∙ sym (existentials_end F c.args.prefix.now c.requires.0 P));
    }

pub existential-s-requires : goal.existential-s-requires
existential-s-requires c =
    let l = c.loop-word in
    let z = last_taken c.args.prefix.now l.word-iterator.iter.rest.now c.next.new.self.iter.rest.now c.in-Some.word.now c.requires.0 l.invariant.few l.invariant.first c.in-Some.ensures.steps in
    rw z.2 (narrow_at c.requires.1.0 c.args.prefix.now c.requires.0 c.requires.1.1 (length c.next.new.self.iter.rest.now) (omega (arith, z.0, l.invariant.few)))

pub loop-word-preserved : goal.loop-word-preserved
loop-word-preserved c =
    let l = c.loop-word in
    let z = last_taken c.args.prefix.now l.word-iterator.iter.rest.now c.next.new.self.iter.rest.now c.in-Some.word.now c.requires.0 l.invariant.few l.invariant.first c.in-Some.ensures.steps in
    record {
      few = omega (arith, z.0, l.invariant.few);
      first = z.1;
      so_far = λ F P. c.existential-s.ensures ∙ rw (z.2, l.invariant.so_far F P, z.0) (existentials_from F c.args.prefix.now c.requires.0 P (length c.next.new.self.iter.rest.now) (omega (arith, z.0, l.invariant.few)));
    }
