use Rattle.vf_fixpoint_laws.proofs.bodies.Closed.{placed_alike}
use Rattle.vf_fixpoint_laws.proofs.bodies.laws.sorts_are_placed_alike.Goals as goal

pub returns : goal.returns
returns c = placed_alike
