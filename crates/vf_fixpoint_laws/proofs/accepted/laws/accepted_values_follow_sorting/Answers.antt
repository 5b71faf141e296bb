use Rattle.vf_fixpoint_laws.proofs.accepted.Accepted.{accepted_values_follow_sorting}
use Rattle.vf_fixpoint_laws.proofs.accepted.laws.accepted_values_follow_sorting.Goals as goal

pub returns : goal.returns
returns c = accepted_values_follow_sorting
