use Rattle.vf_rule_laws.proofs.Steps.{steps_keep_types}
use Rattle.vf_rule_laws.proofs.typed_laws.steps_keep_types.Goals as goal

pub returns : goal.returns
returns c = steps_keep_types
