use Rattle.vf_closure.proofs.Enough.{unfoldings_enough}
use Rattle.vf_closure.proofs.laws.unfoldings_are_enough.Goals as goal

pub returns : goal.returns
returns c = unfoldings_enough
