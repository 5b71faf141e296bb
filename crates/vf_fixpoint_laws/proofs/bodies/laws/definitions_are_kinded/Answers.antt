use Rattle.vf_fixpoint_laws.proofs.bodies.Defined.{definitions_are_kinded}
use Rattle.vf_fixpoint_laws.proofs.bodies.laws.definitions_are_kinded.Goals as goal

pub returns : goal.returns
returns c = definitions_are_kinded
