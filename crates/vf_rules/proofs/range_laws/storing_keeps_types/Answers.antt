use Rattle.vf_rules.proofs.Ranges.{storing_keeps_types}
use Rattle.vf_rules.proofs.range_laws.storing_keeps_types.Goals as goal

pub returns : goal.returns
returns c = storing_keeps_types
