use Rattle.vf_order_laws.proofs.walk.Laws.{passes_are_walked}
use Rattle.vf_order_laws.proofs.walk.passes_are_walked.Goals as goal

pub returns : goal.returns
returns c = passes_are_walked
