use Rattle.vf_question.proofs.Settled.{settled_enough}
use Rattle.vf_question.proofs.laws.settled_is_enough.Goals as goal

pub returns : goal.returns
returns c = settled_enough
