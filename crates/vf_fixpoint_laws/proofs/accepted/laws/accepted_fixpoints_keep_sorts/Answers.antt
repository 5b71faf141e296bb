use Rattle.vf_fixpoint_laws.proofs.accepted.Accepted.{accepted_fixpoints_keep_sorts}
use Rattle.vf_fixpoint_laws.proofs.accepted.laws.accepted_fixpoints_keep_sorts.Goals as goal

pub returns : goal.returns
returns c = accepted_fixpoints_keep_sorts
