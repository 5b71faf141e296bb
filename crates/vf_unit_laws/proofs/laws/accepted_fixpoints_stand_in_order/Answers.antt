use Rattle.vf_unit_laws.proofs.Accepted.{accepted_fixpoints_stand_in_order}
use Rattle.vf_unit_laws.proofs.laws.accepted_fixpoints_stand_in_order.Goals as goal

pub returns : goal.returns
returns c = accepted_fixpoints_stand_in_order
