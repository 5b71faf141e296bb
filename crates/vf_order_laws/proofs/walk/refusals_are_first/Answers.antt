use Rattle.vf_order_laws.proofs.walk.Laws.{refusals_are_first}
use Rattle.vf_order_laws.proofs.walk.refusals_are_first.Goals as goal

pub returns : goal.returns
returns c = refusals_are_first
