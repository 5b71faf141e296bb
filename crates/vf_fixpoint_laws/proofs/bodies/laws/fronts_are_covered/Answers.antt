use Rattle.vf_fixpoint_laws.proofs.bodies.Fronts.{fronts_are_covered}
use Rattle.vf_fixpoint_laws.proofs.bodies.laws.fronts_are_covered.Goals as goal

pub returns : goal.returns
returns c = fronts_are_covered
