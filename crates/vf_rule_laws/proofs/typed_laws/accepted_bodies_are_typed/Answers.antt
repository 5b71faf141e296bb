use Rattle.vf_rule_laws.proofs.Derivations.{accepted_bodies_are_typed}
use Rattle.vf_rule_laws.proofs.typed_laws.accepted_bodies_are_typed.Goals as goal

pub returns : goal.returns
returns c = accepted_bodies_are_typed
