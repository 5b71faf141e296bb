use Rattle.vf_order.proofs.Ordered.{ordered, accepted}
use Rattle.vf_order.proofs.laws.refusals_are_of_pairs.Goals as goal

pub returns : goal.returns
returns c = λ e. (ordered e, accepted e)
