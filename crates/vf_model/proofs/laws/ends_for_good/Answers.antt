use Rattle.vf_model.proofs.Machine.{end_stays}
use Rattle.vf_model.proofs.laws.ends_for_good.Goals as goal

pub returns : goal.returns
returns c = end_stays
