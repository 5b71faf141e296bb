use Rattle.vf_fixpoint_laws.proofs.values.Values.{values_have_sorts}
use Rattle.vf_fixpoint_laws.proofs.values.laws.values_have_sorts.Goals as goal

pub returns : goal.returns
returns c = values_have_sorts
