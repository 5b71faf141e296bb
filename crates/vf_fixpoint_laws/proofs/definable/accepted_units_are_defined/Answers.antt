use Rattle.vf_fixpoint_laws.proofs.definable.Laws.{accepted_units_are_defined}
use Rattle.vf_fixpoint_laws.proofs.definable.accepted_units_are_defined.Goals as goal

pub returns : goal.returns
returns c = accepted_units_are_defined
