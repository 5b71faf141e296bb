use Rattle.vf_order_laws.proofs.walk.Laws.{phases_are_walked}
use Rattle.vf_order_laws.proofs.walk.phases_are_walked.Goals as goal

pub returns : goal.returns
returns c = phases_are_walked
