use Rattle.vf_rule_laws.proofs.Beginnings.{loop_heads_are_typed}
use Rattle.vf_rule_laws.proofs.typed_laws.loop_heads_are_typed.Goals as goal

pub returns : goal.returns
returns c = loop_heads_are_typed
