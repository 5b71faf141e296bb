use Rattle.vf_fixpoint_laws.proofs.accepted.Reading.{read_values_follow_sorting}
use Rattle.vf_fixpoint_laws.proofs.accepted.laws.read_values_follow_sorting.Goals as goal

pub returns : goal.returns
returns c = read_values_follow_sorting
