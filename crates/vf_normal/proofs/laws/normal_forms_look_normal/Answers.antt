use Rattle.vf_normal.proofs.Reached.{normal_forms_reached}
use Rattle.vf_normal.proofs.laws.normal_forms_look_normal.Goals as goal

pub returns : goal.returns
returns c = normal_forms_reached
