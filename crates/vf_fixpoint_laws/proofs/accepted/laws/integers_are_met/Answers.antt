use Rattle.vf_fixpoint_laws.proofs.accepted.Parameters.{integers_are_met}
use Rattle.vf_fixpoint_laws.proofs.accepted.laws.integers_are_met.Goals as goal

pub returns : goal.returns
returns c = integers_are_met
