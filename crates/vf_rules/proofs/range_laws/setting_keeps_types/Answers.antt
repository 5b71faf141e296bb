use Rattle.vf_rules.proofs.Ranges.{setting_keeps_types}
use Rattle.vf_rules.proofs.range_laws.setting_keeps_types.Goals as goal

pub returns : goal.returns
returns c = setting_keeps_types
