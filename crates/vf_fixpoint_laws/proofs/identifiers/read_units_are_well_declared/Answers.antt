use Rattle.vf_fixpoint_laws.proofs.identifiers.Accepted.{well_declared}
use Rattle.vf_fixpoint_laws.proofs.identifiers.read_units_are_well_declared.Goals as goal

pub returns : goal.returns
returns c = well_declared
