use Rattle.vf_order_laws.proofs.walk.Laws.{assertions_are_walked}
use Rattle.vf_order_laws.proofs.walk.assertions_are_walked.Goals as goal

pub returns : goal.returns
returns c = assertions_are_walked
