use Rattle.vf_fixpoint_laws.proofs.well_declared.Laws.{accepted_units_are_well_declared}
use Rattle.vf_fixpoint_laws.proofs.well_declared.accepted_units_are_well_declared.Goals as goal

pub returns : goal.returns
returns c = accepted_units_are_well_declared
