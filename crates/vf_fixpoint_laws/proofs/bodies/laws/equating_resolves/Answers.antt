use Rattle.vf_fixpoint_laws.proofs.bodies.Resolved.{equating_resolves}
use Rattle.vf_fixpoint_laws.proofs.bodies.laws.equating_resolves.Goals as goal

pub returns : goal.returns
returns c = equating_resolves
