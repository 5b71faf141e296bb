use Rattle.vf_rules.proofs.Told.{consuming_takes}
use Rattle.vf_rules.proofs.laws.consuming_takes.Goals as goal

pub returns : goal.returns
returns c = consuming_takes
