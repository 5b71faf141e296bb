use Rattle.vf_entailment.proofs.Trees.{bodies_stay}
use Rattle.vf_entailment.proofs.laws.bodies_stay_of_their_kind.Goals as goal

pub returns : goal.returns
returns c = bodies_stay
