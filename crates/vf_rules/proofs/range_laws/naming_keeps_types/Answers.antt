use Rattle.vf_rules.proofs.Ranges.{naming_keeps_types}
use Rattle.vf_rules.proofs.range_laws.naming_keeps_types.Goals as goal

pub returns : goal.returns
returns c = naming_keeps_types
