use Rattle.vf_fixpoint_laws.proofs.accepted.Reading.{read_fixpoints_keep_sorts}
use Rattle.vf_fixpoint_laws.proofs.accepted.laws.read_fixpoints_keep_sorts.Goals as goal

pub returns : goal.returns
returns c = read_fixpoints_keep_sorts
