use Rattle.vf_model.proofs.Machine.{steppers_told}
use Rattle.vf_model.proofs.laws.tells_steppers.Goals as goal

pub returns : goal.returns
returns c = steppers_told
