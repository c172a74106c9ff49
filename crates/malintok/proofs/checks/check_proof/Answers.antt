-- `checks::check_proof` meets its contract, by what is found in the proof.
use Rattle.malintok.proofs.Stages.{proof_accepted, proof_rejected}
use Rattle.malintok.proofs.checks.check_proof.Goals as goal

pub returns-in-Err-clause-answers : goal.returns-in-Err-clause-answers
returns-in-Err-clause-answers c = λ F I said.
    proof_rejected F c.args.proof.now c.args.formula.now _ _ c.args.counts I said _ (c.in-Err.ensures.checks F I) _ _ _ _ c.rejected.ensures c.clear.ensures.prefix c.clear.ensures.clauses
    c.clear-in-Err.ensures.words

pub returns-in-Ok-clause-answers : goal.returns-in-Ok-clause-answers
returns-in-Ok-clause-answers c = λ F I said. proof_accepted F c.args.proof.now c.args.formula.now _ _ c.args.counts I said _ (c.in-Ok.ensures.checks F I) _ c.accepted.ensures
