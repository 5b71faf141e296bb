use Rattle.vf_order_laws.proofs.walk.Laws.{sorts_are_walked}
use Rattle.vf_order_laws.proofs.walk.sorts_are_walked.Goals as goal

pub returns : goal.returns
returns c = sorts_are_walked
