use Rattle.vf_order_laws.proofs.walk.Laws.{statements_are_walked}
use Rattle.vf_order_laws.proofs.walk.statements_are_walked.Goals as goal

pub returns : goal.returns
returns c = statements_are_walked
