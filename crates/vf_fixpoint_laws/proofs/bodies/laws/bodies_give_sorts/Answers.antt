use Rattle.vf_fixpoint_laws.proofs.bodies.Bodies.{bodies_give_sorts}
use Rattle.vf_fixpoint_laws.proofs.bodies.laws.bodies_give_sorts.Goals as goal

pub returns : goal.returns
returns c = bodies_give_sorts
