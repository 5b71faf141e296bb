use Rattle.vf_rule_laws.proofs.Example.{half_is_typed}
use Rattle.vf_rule_laws.proofs.examples.half_is_typed.Goals as goal

pub returns : goal.returns
returns c = half_is_typed
