use Rattle.vf_entailment.proofs.Entailing.{linked_stand}
use Rattle.vf_entailment.proofs.laws.linked_definitions_stand.Goals as goal

pub returns : goal.returns
returns c = linked_stand
