-- `checks::check_in` meets its contract: the text's answer, then the proof's.
use Rattle.malintok.proofs.Stages.{text_refused, proof_ready, proof_answers}
use Rattle.malintok.proofs.checks.check_in.Goals as goal

pub returns-in-Err-clause-answers : goal.returns-in-Err-clause-answers
returns-in-Err-clause-answers c = text_refused _ _ _ _ _ _ _ _ c.clear.ensures.words _ c.in-Err.ensures.left _ c.rejected.ensures

pub check_proof-requires : goal.check_proof-requires
check_proof-requires c = proof_ready c.args.text.now c.args.proof.now _ _ c.read_in.new.tables _ _ _ c.in-Ok.ensures.left c.clear.ensures.words

pub returns-in-Ok-clause-answers : goal.returns-in-Ok-clause-answers
returns-in-Ok-clause-answers c = proof_answers c.args.text.now c.args.proof.now _ _ c.read_in.new.tables _ _ _ c.in-Ok.ensures.left c.clear.ensures.words _ _ c.check_proof.ensures.answers
