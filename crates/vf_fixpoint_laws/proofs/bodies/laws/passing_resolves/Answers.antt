use Rattle.vf_fixpoint_laws.proofs.bodies.Resolved.{passing_resolves}
use Rattle.vf_fixpoint_laws.proofs.bodies.laws.passing_resolves.Goals as goal

pub returns : goal.returns
returns c = passing_resolves
