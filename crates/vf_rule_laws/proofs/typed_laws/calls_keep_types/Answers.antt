use Rattle.vf_rule_laws.proofs.Outcomes.{calls_keep_types}
use Rattle.vf_rule_laws.proofs.typed_laws.calls_keep_types.Goals as goal

pub returns : goal.returns
returns c = calls_keep_types
