use Rattle.vf_rules.proofs.Ranges.{taking_keeps_types}
use Rattle.vf_rules.proofs.range_laws.taking_keeps_types.Goals as goal

pub returns : goal.returns
returns c = taking_keeps_types
