use Rattle.vf_closure.proofs.Refuted.{by_unfolding}
use Rattle.vf_closure.proofs.examples.refutes_by_unfolding.Goals as goal

pub returns : goal.returns
returns c = by_unfolding
