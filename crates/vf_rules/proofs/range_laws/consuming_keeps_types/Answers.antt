use Rattle.vf_rules.proofs.Ranges.{consuming_keeps_types}
use Rattle.vf_rules.proofs.range_laws.consuming_keeps_types.Goals as goal

pub returns : goal.returns
returns c = consuming_keeps_types
