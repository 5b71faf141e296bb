use Rattle.vf_fixpoint_laws.proofs.bodies.Applied.{readings_are_kinded}
use Rattle.vf_fixpoint_laws.proofs.bodies.laws.readings_are_kinded.Goals as goal

pub returns : goal.returns
returns c = readings_are_kinded
