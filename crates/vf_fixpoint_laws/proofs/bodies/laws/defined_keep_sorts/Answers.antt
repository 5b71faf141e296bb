use Rattle.vf_fixpoint_laws.proofs.bodies.Defined.{defined_keep_sorts}
use Rattle.vf_fixpoint_laws.proofs.bodies.laws.defined_keep_sorts.Goals as goal

pub returns : goal.returns
returns c = defined_keep_sorts
