use Rattle.vf_normal.proofs.Stay.{normal_forms_stay}
use Rattle.vf_normal.proofs.laws.normal_forms_stay.Goals as goal

pub returns : goal.returns
returns c = normal_forms_stay
