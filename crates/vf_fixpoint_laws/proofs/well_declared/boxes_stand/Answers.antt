use Rattle.vf_fixpoint_laws.proofs.well_declared.Example.{boxes_stand}
use Rattle.vf_fixpoint_laws.proofs.well_declared.boxes_stand.Goals as goal

pub returns : goal.returns
returns c = boxes_stand
