-- `checker::axioms::leaf_row` meets its contract. The invariant: the first j places hold the words of the first j entries.
use Rattle.std.proofs.Common.{◌≡◌, ℕ, ◌≤◌, length, get_or, refl, sym, ap, ◌∙◌, arith}
use lib.ListN.{length-map, get_or-map}
use Rattle.rules.specs.declared.Value.{Value}
use Rattle.rules.specs.declared.Node.TheVariants.{Leaf}
use Rattle.rules.specs.definitions.Maps.{node_word}
use Rattle.rules.specs.definitions.Lines.{Entry, falsifying, leaf_entry}
use Rattle.rules.specs.definitions.Tables.{padded}
use Rattle.sets.specs.Values.{clause_of}
use Rattle.checker.specs.declared.game.Universal.{Universal}
use Rattle.checker.specs.Game.{variables, nobody}
use Rattle.checker.proofs.Leaves.{words_more, words_all, no_node}
use Rattle.checker.proofs.axioms.leaf_row.Goals as goal

pub loop-j-init : goal.loop-j-init
unfolding padded
loop-j-init c = record { nodes_so = refl; roots_so = refl }

pub loop-j-preserved : goal.loop-j-preserved
loop-j-preserved c =
    let us = c.args.universals.now in
    let l = c.loop-j in
    let f : ℕ → ℕ → Entry = leaf_entry (clause_of c.args.clause) c.args.i in
    let k : length (variables us) ≡ length us = length-map us (λ (u : Universal). u.variable) in
    let p : get_or (variables us) l.j 0 ≡ (get_or us l.j nobody).variable = get_or-map (λ (u : Universal). u.variable) us l.j nobody in
    record {
      nodes_so = words_more f (variables us) (λ (e : Entry). node_word e.node) no_node l.nodes l.j c.node_word.result (omega (arith, k)) (omega (arith, k)) l.invariant.nodes_so
          (c.node_word.ensures ∙ ap (λ (v : Value). node_word (Leaf v)) (c.falsify.ensures ∙ ap (falsifying (clause_of c.args.clause)) (sym p)));
      roots_so = words_more f (variables us) (λ (e : Entry). e.root) refl l.roots l.j c.args.i (omega (arith, k)) (omega (arith, k)) l.invariant.roots_so refl;
    }

pub returns : goal.returns
returns c =
    let us = c.args.universals.now in
    let l = c.loop-j in
    let f : ℕ → ℕ → Entry = leaf_entry (clause_of c.args.clause) c.args.i in
    let h : length (variables us) ≤ l.j = omega (arith, length-map us (λ (u : Universal). u.variable)) in
    record {
      nodes = words_all f (variables us) (λ (e : Entry). node_word e.node) no_node l.nodes l.j h l.invariant.nodes_so;
      roots = words_all f (variables us) (λ (e : Entry). e.root) refl l.roots l.j h l.invariant.roots_so;
    }
