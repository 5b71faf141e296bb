use Rattle.vf_fixpoint_laws.proofs.met.Accepted.{accepted_units_are_met_in_sorts}
use Rattle.vf_fixpoint_laws.proofs.met.laws.accepted_units_are_met_in_sorts.Goals as goal

pub returns : goal.returns
returns c = accepted_units_are_met_in_sorts
