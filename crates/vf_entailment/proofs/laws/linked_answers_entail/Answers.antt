use Rattle.vf_entailment.proofs.Entailing.{linked_entail}
use Rattle.vf_entailment.proofs.laws.linked_answers_entail.Goals as goal

pub returns : goal.returns
returns c = linked_entail
