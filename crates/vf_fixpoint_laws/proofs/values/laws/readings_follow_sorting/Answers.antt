use Rattle.vf_fixpoint_laws.proofs.values.Values.{readings_follow_sorting}
use Rattle.vf_fixpoint_laws.proofs.values.laws.readings_follow_sorting.Goals as goal

pub returns : goal.returns
returns c = readings_follow_sorting
