-- `proof::decode` meets its contract: each return by the law of theory's File for the record's first byte.
use Rattle.std.proofs.Common.{sym, ◌∙◌, arith}
use Rattle.theory.specs.laws.File.{decoded_axiom, decoded_tail, decoded_resolution, decoded_kind}
use Rattle.proof.proofs.decode.Goals as goal

pub returns-in-1 : goal.returns-in-1
returns-in-1 c = rw c.pair.ensures (sym (decoded_axiom _ c.in-1.is (sym c.bare.ensures ∙ c.if-bare.true)))

pub returns-in-1-2 : goal.returns-in-1-2
returns-in-1-2 c = sym (decoded_tail _ c.in-1.is (sym c.bare.ensures ∙ c.if-bare.false))

pub returns-in-2 : goal.returns-in-2
returns-in-2 c = rw (c.pair-in-2-3.ensures, c.pair-in-2-2.ensures, c.pair-in-2.ensures) (sym (decoded_resolution _ (λ p. omega arith) c.in-2.is))

pub returns-in_default : goal.returns-in_default
returns-in_default c = sym (decoded_kind _ (λ p. omega arith) (λ p. omega arith))
