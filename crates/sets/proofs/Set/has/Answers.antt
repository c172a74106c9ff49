-- The test of a bit is membership; 0 and what is past the word is never in it.
use Rattle.std.proofs.Common.{sym, ◌∙◌, ◌-◌, inl, inr, arith}
use Rattle.theory.specs.laws.Bits.{bit_test}
use Rattle.sets.specs.Values.{set_of}
use Rattle.sets.proofs.Words.{has_no_variable, has_outside, has_word}
use Rattle.sets.proofs.Set.has.Goals as goal

pub returns-then-v-lt1 : goal.returns-then-v-lt1
unfolding set_of
returns-then-v-lt1 c =
    elim c.then-v-lt1.either [ inl h ↦ sym (has_no_variable c.args.self.word c.args.v (omega arith)) | inr h ↦ sym (has_outside c.args.self.word c.args.v h.1) ]

pub returns : goal.returns
unfolding set_of
returns c = bit_test c.args.self.word (c.args.v - 1) ∙ has_word c.args.self.word c.args.v (omega arith) (omega arith)
