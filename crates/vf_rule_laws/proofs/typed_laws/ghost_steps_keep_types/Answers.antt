use Rattle.vf_rule_laws.proofs.Ghost.{ghost_steps_keep_types}
use Rattle.vf_rule_laws.proofs.typed_laws.ghost_steps_keep_types.Goals as goal

pub returns : goal.returns
returns c = ghost_steps_keep_types
