-- The row becomes the two sets of the clause.
use mathlib.Core.List.{List}
use mathlib.Core.Path.{ap₂, ◌∙◌}
use Prim.Native.Nat.{ℕ}
use borrow.Author.Rules.{rules}
use Rattle.rules.specs.definitions.Layout.{set_words}
use Rattle.sets.specs.Values.{set_of, clause_of, put_in, length_set_of}
use Rattle.sets.proofs.Words.{both_written}
use Rattle.sets.proofs.Clause.write.Goals as goal

pub returns : goal.returns
unfolding clause_of
returns c =
    let self = c.args.self in
    let row = c.args.row.now in
    c.write-2.ensures
    ∙ ap₂ (λ (r : List ℕ) (n : ℕ). put_in r n (set_of self.negated)) c.write.ensures c.words.ensures
    ∙ both_written row (set_of self.plain) (set_of self.negated) set_words (search rules) (length_set_of self.plain) (length_set_of self.negated)
