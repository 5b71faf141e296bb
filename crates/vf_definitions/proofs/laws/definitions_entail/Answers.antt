use Rattle.vf_definitions.proofs.Soundness.{definitions_entail}
use Rattle.vf_definitions.proofs.laws.definitions_entail.Goals as goal

pub returns : goal.returns
returns c = definitions_entail
