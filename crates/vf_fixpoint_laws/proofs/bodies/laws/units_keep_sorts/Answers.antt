use Rattle.vf_fixpoint_laws.proofs.bodies.Units.{units_keep_sorts}
use Rattle.vf_fixpoint_laws.proofs.bodies.laws.units_keep_sorts.Goals as goal

pub returns : goal.returns
returns c = units_keep_sorts
