use Rattle.vf_fixpoint_laws.proofs.descending.Units.{accepted_fixpoints_have_each_case}
use Rattle.vf_fixpoint_laws.proofs.descending.laws.accepted_fixpoints_have_each_case.Goals as goal

pub returns : goal.returns
returns c = accepted_fixpoints_have_each_case
