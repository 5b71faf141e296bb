use Rattle.vf_rules.proofs.Ranges.{producing_keeps_types}
use Rattle.vf_rules.proofs.range_laws.producing_keeps_types.Goals as goal

pub returns : goal.returns
returns c = producing_keeps_types
