use Rattle.vf_fixpoint_laws.proofs.met.Agreement.{accepted_definitions_agree}
use Rattle.vf_fixpoint_laws.proofs.met.laws.accepted_definitions_agree.Goals as goal

pub returns : goal.returns
returns c = accepted_definitions_agree
