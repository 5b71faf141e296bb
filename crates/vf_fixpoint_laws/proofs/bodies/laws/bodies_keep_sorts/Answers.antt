use Rattle.vf_fixpoint_laws.proofs.bodies.Recursion.{bodies_keep_sorts}
use Rattle.vf_fixpoint_laws.proofs.bodies.laws.bodies_keep_sorts.Goals as goal

pub returns : goal.returns
returns c = bodies_keep_sorts
