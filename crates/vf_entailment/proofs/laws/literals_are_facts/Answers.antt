use Rattle.vf_entailment.proofs.Facts.{literals_said}
use Rattle.vf_entailment.proofs.laws.literals_are_facts.Goals as goal

pub returns : goal.returns
returns c = literals_said
