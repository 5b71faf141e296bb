use Rattle.vf_fixpoint_laws.proofs.met.Meeting.{definitions_are_met}
use Rattle.vf_fixpoint_laws.proofs.met.laws.definitions_are_met.Goals as goal

pub returns : goal.returns
returns c = definitions_are_met
