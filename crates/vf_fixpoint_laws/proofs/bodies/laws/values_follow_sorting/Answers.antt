use Rattle.vf_fixpoint_laws.proofs.bodies.Expressions.{values_follow_sorting}
use Rattle.vf_fixpoint_laws.proofs.bodies.laws.values_follow_sorting.Goals as goal

pub returns : goal.returns
returns c = values_follow_sorting
