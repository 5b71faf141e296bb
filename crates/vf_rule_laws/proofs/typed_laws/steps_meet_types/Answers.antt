use Rattle.vf_rule_laws.proofs.Typed.{steps_meet_types}
use Rattle.vf_rule_laws.proofs.typed_laws.steps_meet_types.Goals as goal

pub returns : goal.returns
returns c = steps_meet_types
