use Rattle.vf_linked.proofs.CallOrder.{calls_are_ordered}
use Rattle.vf_linked.proofs.laws.calls_are_ordered.Goals as goal

pub returns : goal.returns
returns c = calls_are_ordered
