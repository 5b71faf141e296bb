use Rattle.vf_fixpoint_laws.proofs.accepted.Parameters.{parameters_are_met}
use Rattle.vf_fixpoint_laws.proofs.accepted.laws.parameters_are_met.Goals as goal

pub returns : goal.returns
returns c = parameters_are_met
