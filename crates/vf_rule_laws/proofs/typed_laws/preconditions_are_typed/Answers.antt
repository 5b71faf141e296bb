use Rattle.vf_rule_laws.proofs.Beginnings.{preconditions_are_typed}
use Rattle.vf_rule_laws.proofs.typed_laws.preconditions_are_typed.Goals as goal

pub returns : goal.returns
returns c = preconditions_are_typed
