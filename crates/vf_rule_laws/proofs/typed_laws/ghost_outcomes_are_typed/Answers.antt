use Rattle.vf_rule_laws.proofs.Outcomes.{ghost_outcomes_are_typed}
use Rattle.vf_rule_laws.proofs.typed_laws.ghost_outcomes_are_typed.Goals as goal

pub returns : goal.returns
returns c = ghost_outcomes_are_typed
