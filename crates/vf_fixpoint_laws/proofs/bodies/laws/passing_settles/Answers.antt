use Rattle.vf_fixpoint_laws.proofs.bodies.Resolved.{passing_settles}
use Rattle.vf_fixpoint_laws.proofs.bodies.laws.passing_settles.Goals as goal

pub returns : goal.returns
returns c = passing_settles
