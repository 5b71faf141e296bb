use Rattle.vf_rules.proofs.Told.{producing_adds}
use Rattle.vf_rules.proofs.laws.producing_adds.Goals as goal

pub returns : goal.returns
returns c = producing_adds
