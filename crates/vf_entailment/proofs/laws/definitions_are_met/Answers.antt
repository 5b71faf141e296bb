use Rattle.vf_entailment.proofs.Trees.{definitions_met}
use Rattle.vf_entailment.proofs.laws.definitions_are_met.Goals as goal

pub returns : goal.returns
returns c = definitions_met
