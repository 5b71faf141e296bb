use Rattle.vf_model.proofs.Machine.{steppers_found}
use Rattle.vf_model.proofs.laws.finds_steppers.Goals as goal

pub returns : goal.returns
returns c = steppers_found
