use Rattle.vf_rules.proofs.Ranges.{facts_keep_types}
use Rattle.vf_rules.proofs.range_laws.facts_keep_types.Goals as goal

pub returns : goal.returns
returns c = facts_keep_types
