use Rattle.vf_rules.proofs.Ranges.{changes_keep_types}
use Rattle.vf_rules.proofs.range_laws.changes_keep_types.Goals as goal

pub returns : goal.returns
returns c = changes_keep_types
