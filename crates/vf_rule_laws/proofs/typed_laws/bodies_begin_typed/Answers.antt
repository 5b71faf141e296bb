use Rattle.vf_rule_laws.proofs.Beginnings.{bodies_begin_typed}
use Rattle.vf_rule_laws.proofs.typed_laws.bodies_begin_typed.Goals as goal

pub returns : goal.returns
returns c = bodies_begin_typed
