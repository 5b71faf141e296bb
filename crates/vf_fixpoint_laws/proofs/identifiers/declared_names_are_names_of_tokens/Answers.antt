use Rattle.vf_fixpoint_laws.proofs.identifiers.Named.{declared_names}
use Rattle.vf_fixpoint_laws.proofs.identifiers.declared_names_are_names_of_tokens.Goals as goal

pub returns : goal.returns
returns c = declared_names
