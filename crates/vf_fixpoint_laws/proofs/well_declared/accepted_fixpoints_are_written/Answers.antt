use Rattle.vf_fixpoint_laws.proofs.well_declared.Laws.{accepted_fixpoints_are_written}
use Rattle.vf_fixpoint_laws.proofs.well_declared.accepted_fixpoints_are_written.Goals as goal

pub returns : goal.returns
returns c = accepted_fixpoints_are_written
