use Rattle.vf_order_laws.proofs.walk.Laws.{annotations_are_walked}
use Rattle.vf_order_laws.proofs.walk.annotations_are_walked.Goals as goal

pub returns : goal.returns
returns c = annotations_are_walked
