use Rattle.vf_entailment.proofs.Example.{lists_entail}
use Rattle.vf_entailment.proofs.examples.lists_entail.Goals as goal

pub returns : goal.returns
returns c = lists_entail
