use Rattle.vf_fixpoint_laws.proofs.met.Accepted.{accepted_units_are_met}
use Rattle.vf_fixpoint_laws.proofs.met.laws.accepted_units_are_met.Goals as goal

pub returns : goal.returns
returns c = accepted_units_are_met
