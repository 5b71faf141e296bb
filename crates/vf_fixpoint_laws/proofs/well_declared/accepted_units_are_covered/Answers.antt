use Rattle.vf_fixpoint_laws.proofs.well_declared.UpTo.{accepted_units_are_covered}
use Rattle.vf_fixpoint_laws.proofs.well_declared.accepted_units_are_covered.Goals as goal

pub returns : goal.returns
returns c = accepted_units_are_covered
