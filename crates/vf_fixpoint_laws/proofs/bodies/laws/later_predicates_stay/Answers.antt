use Rattle.vf_fixpoint_laws.proofs.bodies.Fronts.{later_predicates_stay}
use Rattle.vf_fixpoint_laws.proofs.bodies.laws.later_predicates_stay.Goals as goal

pub returns : goal.returns
returns c = later_predicates_stay
