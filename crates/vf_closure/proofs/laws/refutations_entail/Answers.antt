use Rattle.vf_closure.proofs.Unfolding.{refutations_entail}
use Rattle.vf_closure.proofs.laws.refutations_entail.Goals as goal

pub returns : goal.returns
returns c = refutations_entail
