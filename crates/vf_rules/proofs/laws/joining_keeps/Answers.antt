use Rattle.vf_rules.proofs.Told.{joining_keeps}
use Rattle.vf_rules.proofs.laws.joining_keeps.Goals as goal

pub returns : goal.returns
returns c = joining_keeps
