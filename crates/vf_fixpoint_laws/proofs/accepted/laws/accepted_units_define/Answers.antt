use Rattle.vf_fixpoint_laws.proofs.accepted.Accepted.{accepted_units_define}
use Rattle.vf_fixpoint_laws.proofs.accepted.laws.accepted_units_define.Goals as goal

pub returns : goal.returns
returns c = accepted_units_define
