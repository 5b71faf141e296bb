use Rattle.vf_model.proofs.Machine.{idle_stays}
use Rattle.vf_model.proofs.laws.idles_elsewhere.Goals as goal

pub returns : goal.returns
returns c = idle_stays
