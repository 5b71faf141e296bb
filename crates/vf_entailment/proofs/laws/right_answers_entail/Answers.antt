use Rattle.vf_entailment.proofs.Entailing.{right_answers_entail}
use Rattle.vf_entailment.proofs.laws.right_answers_entail.Goals as goal

pub returns : goal.returns
returns c = right_answers_entail
