use Rattle.vf_fixpoint_laws.proofs.bodies.Example.{lists_are_defined}
use Rattle.vf_fixpoint_laws.proofs.bodies.laws.lists_are_defined.Goals as goal

pub returns : goal.returns
returns c = lists_are_defined
