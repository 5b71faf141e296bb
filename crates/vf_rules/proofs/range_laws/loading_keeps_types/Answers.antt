use Rattle.vf_rules.proofs.Ranges.{loading_keeps_types}
use Rattle.vf_rules.proofs.range_laws.loading_keeps_types.Goals as goal

pub returns : goal.returns
returns c = loading_keeps_types
