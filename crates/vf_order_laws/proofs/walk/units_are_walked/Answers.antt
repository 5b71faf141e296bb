use Rattle.vf_order_laws.proofs.walk.Laws.{units_are_walked}
use Rattle.vf_order_laws.proofs.walk.units_are_walked.Goals as goal

pub returns : goal.returns
returns c = units_are_walked
