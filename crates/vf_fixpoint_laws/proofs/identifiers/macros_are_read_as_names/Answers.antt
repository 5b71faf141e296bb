use Rattle.vf_fixpoint_laws.proofs.identifiers.Macro.{macros_are_names}
use Rattle.vf_fixpoint_laws.proofs.identifiers.macros_are_read_as_names.Goals as goal

pub returns : goal.returns
returns c = macros_are_names
