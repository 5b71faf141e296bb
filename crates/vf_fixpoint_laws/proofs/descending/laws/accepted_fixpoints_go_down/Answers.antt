use Rattle.vf_fixpoint_laws.proofs.descending.Units.{accepted_fixpoints_go_down}
use Rattle.vf_fixpoint_laws.proofs.descending.laws.accepted_fixpoints_go_down.Goals as goal

pub returns : goal.returns
returns c = accepted_fixpoints_go_down
