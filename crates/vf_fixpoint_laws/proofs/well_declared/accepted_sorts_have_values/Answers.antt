use Rattle.vf_fixpoint_laws.proofs.well_declared.Laws.{accepted_sorts_have_values}
use Rattle.vf_fixpoint_laws.proofs.well_declared.accepted_sorts_have_values.Goals as goal

pub returns : goal.returns
returns c = accepted_sorts_have_values
