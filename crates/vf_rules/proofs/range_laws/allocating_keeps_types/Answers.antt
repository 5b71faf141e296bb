use Rattle.vf_rules.proofs.Ranges.{allocating_keeps_types}
use Rattle.vf_rules.proofs.range_laws.allocating_keeps_types.Goals as goal

pub returns : goal.returns
returns c = allocating_keeps_types
